use Rattle.std.proofs.Common.{◌≡◌, List}
use Rattle.art_nodes.proofs.Common.{Name}
use Rattle.art_arena.proofs.Common.{KeepsRoomOf, leaf_capacity, Cell, Shape}
use Rattle.art_operations.proofs.Terms.{HoldsPart}
use Rattle.art_operations.proofs.FreedSizes.{size_of}
use Rattle.art_operations.proofs.FreedAll.{IsLeft}
use Rattle.art_operations.proofs.deallocate.free_nodes.Given as goal

abbrev pub invariant-free : goal.invariant-free
invariant-free g l = record {
  left : (s : Shape g.row.K.Denot g.row.V.Denot) (rest : List (Name × Cell g.row.K.Denot g.row.V.Denot)) → HoldsPart g.row.PREFIX_LEN l.with_leaves l.fn.arena l.fn.root s rest
      → IsLeft g.row.PREFIX_LEN l.with_leaves l.fn.arena l.arena s l.current l.count rest;
  room_of : KeepsRoomOf l.fn.arena l.arena;
  capacity : leaf_capacity l.arena ≡ leaf_capacity l.fn.arena;
}

abbrev pub decreases-free : goal.decreases-free
decreases-free g l = size_of l.arena l.current
