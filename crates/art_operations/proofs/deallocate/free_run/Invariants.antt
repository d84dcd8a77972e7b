use Rattle.std.proofs.Common.{◌≡◌, List}
use Rattle.art_nodes.proofs.Common.{Name}
use Rattle.art_arena.proofs.Common.{KeepsRoomOf, leaf_capacity, leaves_held, Cell, LeafAt}
use Rattle.art_operations.proofs.Terms.{HoldsRun}
use Rattle.art_operations.proofs.FreedRuns.{IsRunLeft}
use Rattle.art_operations.proofs.deallocate.free_run.Given as goal

abbrev pub invariant-run : goal.invariant-run
invariant-run g l = record {
  left : (ls : List (LeafAt g.row.K.Denot g.row.V.Denot)) (rest : List (Name × Cell g.row.K.Denot g.row.V.Denot)) → HoldsRun l.fn.arena l.fn.first l.last ls rest
      → IsRunLeft l.fn.arena l.arena ls l.current l.last rest;
  room_of : KeepsRoomOf l.fn.arena l.arena;
  capacity : leaf_capacity l.arena ≡ leaf_capacity l.fn.arena;
}

abbrev pub decreases-run : goal.decreases-run
decreases-run g l = leaves_held l.arena
