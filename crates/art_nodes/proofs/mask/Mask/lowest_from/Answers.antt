use Rattle.std.proofs.Common.{arith}
use Rattle.art_nodes.proofs.MaskLemmas.{next_of_words, none_from, no_next}
use Rattle.art_nodes.proofs.mask.Mask.lowest_from.Goals as goal

pub loop-at-preserved : goal.loop-at-preserved
loop-at-preserved c = none_from c.self.inside.words c.loop-at.at c.args.from (omega (arith, c.loop-at-test.true)) c.bits_from.result c.bits_from.ensures c.loop-at.invariant c.in_default.ensures

pub returns-in-Some : goal.returns-in-Some
returns-in-Some c =
    let is = c.in-Some.ensures in
    let words = c.self.inside.words in
    rw (← c.self.view_is) (next_of_words words c.loop-at.at c.args.from (omega (arith, c.loop-at-test.true)) c.bits_from.result c.bits_from.ensures c.loop-at.invariant c.in-Some.bit is.0 is.1 is.2)

pub returns : goal.returns
returns c = rw (← c.self.view_is) (no_next c.self.inside.words c.args.from c.requires (λ k from to. c.loop-at.invariant k from (omega (arith, to, c.loop-at-test.false, c.loop-at.auto.at-end))))
