use Rattle.std.proofs.Common.{length}
use Rattle.art_c.specs.Layouts.{words_pair}
use Rattle.art_c.specs.Marked.{marked_pairs}
use Rattle.art_c.proofs.Walks.{ToldOut}
use Rattle.art_c.proofs.calls.marked.marked_out.Given as goal

abbrev pub invariant-loop-key : goal.invariant-loop-key
invariant-loop-key l =
    ToldOut (λ p. words_pair p.0 p.1) (marked_pairs l.fn.query l.mark l.map.pairs) l.fn.pairs
    (marked_pairs l.left l.mark l.map.pairs) l.pairs l.count

abbrev pub decreases-loop-key : goal.decreases-loop-key
decreases-loop-key l = length l.left
