use Rattle.std.proofs.Common.{length}
use Rattle.art_c.specs.Spans.{met_of, reach_of}
use Rattle.art_c.proofs.Walks.{ToldOut}
use Rattle.art_c.proofs.calls.walks.words_out.Given as goal

abbrev pub invariant-loop-count : goal.invariant-loop-count
invariant-loop-count l =
    ToldOut (λ p. p.1) (met_of (reach_of l.fn.span) l.fn.pairs) l.fn.words (met_of (reach_of l.fn.span) l.pairs) l.words l.count

abbrev pub decreases-loop-count : goal.decreases-loop-count
decreases-loop-count l = length l.pairs
