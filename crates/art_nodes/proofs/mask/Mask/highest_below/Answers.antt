use Rattle.std.proofs.Common.{◌-◌, arith}
use Rattle.art_nodes.proofs.MaskLemmas.{last_of_words, no_last}
use Rattle.art_nodes.proofs.mask.Mask.highest_below.Goals as goal

pub returns-in-Some : goal.returns-in-Some
returns-in-Some c =
    let is = c.in-Some.ensures in
    let words = c.self.inside.words in
    let at = c.loop-at.at - 1 in
    rw (← c.self.view_is) (last_of_words words at c.args.to (omega (arith, c.loop-at.invariant.0, c.loop-at-test.true)) c.requires c.bits_below.result c.bits_below.ensures (λ k from to. c.loop-at.invariant.1 k (omega (arith, from, c.loop-at-test.true)) to) c.in-Some.bit is.0 is.1 is.2)

pub returns : goal.returns
returns c = rw (← c.self.view_is) (no_last c.self.inside.words c.args.to c.requires (λ k to. c.loop-at.invariant.1 k (omega (arith, c.loop-at-test.false)) to))
