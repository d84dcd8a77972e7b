-- The invariant is what has moved so far, and what room that used.
use Rattle.std.proofs.Common.{length}
use Rattle.art_c.proofs.Joins.{MovedSoFar, RoomSoFar}
use Rattle.art_c.proofs.calls.joins.join.Given as goal

abbrev pub invariant-loop-code : goal.invariant-loop-code
invariant-loop-code g l =
    MovedSoFar l.fn.other.pairs l.fn.map.pairs l.other.pairs l.map.pairs × RoomSoFar l.fn.other l.fn.map l.other l.map

abbrev pub decreases-loop-code : goal.decreases-loop-code
decreases-loop-code g l = length l.other.pairs
