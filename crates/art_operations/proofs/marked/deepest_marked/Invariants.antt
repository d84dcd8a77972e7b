use Rattle.std.proofs.Common.{◌≤◌, ◌-◌, [], length}
use Rattle.art_arena.proofs.Common.{node_at, Shape, IsSubtree}
use Rattle.art_operations.proofs.MarkedWays.{IsMarkedWay}
use Rattle.art_operations.proofs.marked.deepest_marked.Given as goal

abbrev pub invariant-down : goal.invariant-down
invariant-down g l = record {
  within : l.depth ≤ length l.query;
  way : (s : Shape g.row.K.Denot g.row.V.Denot) → IsSubtree g.K.AsBytes.bytes g.row.PREFIX_LEN (node_at l.arena) l.fn.root [] s
      → IsMarkedWay g.K.AsBytes.bytes g.row.PREFIX_LEN (node_at l.arena) l.query l.mark s l.current l.depth l.best;
}

abbrev pub decreases-down : goal.decreases-down
decreases-down g l = length l.query - l.depth
