use Rattle.std.proofs.Common.{◌≡◌, ℕ, List}
use Rattle.art_arena.proofs.Terms.{node_at, slots_of, Shape, IsSubtree}
use Rattle.art_arena.proofs.shapes.Measures.{nodes_below}
use Rattle.art_arena.proofs.shapes.EndWalks.{OnEnd}
use Rattle.art_arena.proofs.ends.end_leaf_with.Given as goal

abbrev pub invariant-down : goal.invariant-down
invariant-down g l = record {
  kept : l.reader.arena.now ≡ l.fn.reader.arena.now;
  way : (path : List ℕ) (s : Shape g.row.K.Denot g.row.V.Denot) → IsSubtree g.K.AsBytes.bytes g.row.PREFIX_LEN (node_at l.fn.reader.arena.now) l.fn.root path s
      → OnEnd g.K.AsBytes.bytes g.row.PREFIX_LEN l.fn.reader.arena.now l.end path s l.fn.reader.count l.current l.search l.reader.count;
}

abbrev pub decreases-down : goal.decreases-down
decreases-down g l = nodes_below (slots_of l.fn.reader.arena.now) (node_at l.fn.reader.arena.now) l.current
