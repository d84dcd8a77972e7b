use Rattle.std.proofs.Common.{◌≤◌, [], length}
use Rattle.art_arena.proofs.Common.{node_at, Shape, IsSubtree}
use Rattle.art_operations.proofs.MarkedSearch.{AllWithin}
use Rattle.art_operations.proofs.marked.marked_search_unchecked.Given as goal

abbrev pub invariant-shorter : goal.invariant-shorter
invariant-shorter g l = record {
  within : l.most ≤ length l.query;
  left : (s : Shape g.row.K.Denot g.row.V.Denot) → IsSubtree g.K.AsBytes.bytes g.row.PREFIX_LEN (node_at l.arena) l.root [] s → AllWithin g.K.AsBytes.bytes l.query l.mark s l.most;
}

abbrev pub decreases-shorter : goal.decreases-shorter
decreases-shorter g l = l.most
