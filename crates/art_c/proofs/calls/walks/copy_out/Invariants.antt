use Rattle.std.proofs.Common.{length}
use Rattle.art_c.specs.Spans.{met_of, reach_of}
use Rattle.art_c.specs.Walks.{many_rooms}
use Rattle.art_c.proofs.Walks.{CopiedOut}
use Rattle.art_c.proofs.calls.walks.copy_out.Given as goal

abbrev pub invariant-loop-key : goal.invariant-loop-key
invariant-loop-key g l =
    CopiedOut g.V.Value.text_of g.V.Value.item_of (met_of (reach_of l.fn.span) l.fn.pairs) (many_rooms l.fn.room l.fn.items 0)
    (met_of (reach_of l.fn.span) l.pairs) l.room l.items l.at l.count

abbrev pub decreases-loop-key : goal.decreases-loop-key
decreases-loop-key g l = length l.pairs
