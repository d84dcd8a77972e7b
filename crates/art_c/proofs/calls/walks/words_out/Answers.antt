-- The invariant is what was copied out so far, as `ToldOut` has it.
use Rattle.std.proofs.Common.{refl, arith}
use Rattle.std.proofs.Math.ListN.{set}
use Rattle.art_c.specs.Spans.{met_of, reach_of}
use Rattle.art_c.proofs.Walks.{fewer, met-next, one-told, told_done, told_ended}
use Rattle.art_c.proofs.calls.walks.words_out.Goals as goal

pub loop-count-smaller : goal.loop-count-smaller
loop-count-smaller c = fewer c.args.span.end (c.in-Some._key.now, c.in-Some.word.now) c.loop-count.pairs c.next_pair.new.pairs c.in-Some.ensures.0

pub loop-count-preserved : goal.loop-count-preserved
loop-count-preserved c =
    let r = reach_of c.args.span in
    one-told (λ p. p.1) (met_of r c.args.pairs.now) c.args.words.now c.loop-count.invariant (c.in-Some._key.now, c.in-Some.word.now)
    (met_of r c.next_pair.new.pairs) (set c.loop-count.words c.loop-count.count c.in-Some.word.now)
    (met-next r (c.in-Some._key.now, c.in-Some.word.now) c.loop-count.pairs c.next_pair.new.pairs c.in-Some.ensures.0 c.in-Some.ensures.1)
    c.loop-count-test.true refl

pub returns-in-None : goal.returns-in-None
returns-in-None c = told_done (λ p. p.1) (met_of (reach_of c.args.span) c.args.pairs.now) c.args.words.now c.loop-count.invariant c.in-None.ensures

pub returns : goal.returns
returns c =
    told_ended (λ p. p.1) (met_of (reach_of c.args.span) c.args.pairs.now) c.args.words.now c.loop-count.invariant c.goes_further.result c.goes_further.ensures
    (λ more. absurd (omega (arith, more, c.loop-count-test.false)))
