use Rattle.std.proofs.Common.{◌≡◌, ◌≤◌, ◌+◌, ◌-◌, ◌^◌, min, ℕ, suc, List, length}
use Rattle.art_arena.proofs.Terms.{node_at, IsAtDepth, Shape}
use Rattle.art_arena.proofs.shapes.Guides.{IsAlong}
use Rattle.art_arena.proofs.guide.walk_along.Given as goal

abbrev pub invariant-down : goal.invariant-down
invariant-down g l = record {
  room : l.used ≤ length l.key;
  kept : l.reader.arena.now ≡ l.fn.reader.arena.now;
  along : (path : List ℕ) (s : Shape g.row.K.Denot g.row.V.Denot) → IsAtDepth g.K.AsBytes.bytes g.row.PREFIX_LEN (node_at l.fn.reader.arena.now) l.fn.root l.fn.depth path s
      → IsAlong g.K.AsBytes.bytes g.row.PREFIX_LEN (node_at l.fn.reader.arena.now) l.key path s l.current l.used;
  counts : (path : List ℕ) (s : Shape g.row.K.Denot g.row.V.Denot) (stands : IsAtDepth g.K.AsBytes.bytes g.row.PREFIX_LEN (node_at l.fn.reader.arena.now) l.fn.root l.fn.depth path s)
      → min (l.reader.count + 1) (2 ^ 64 - 1) ≡ min (l.fn.reader.count + suc (along path s stands).passed) (2 ^ 64 - 1);
  least : min l.fn.reader.count (2 ^ 64 - 1) ≤ l.reader.count;
  reads : l.reader.count + l.fn.depth ≤ l.fn.reader.count + l.used;
}

abbrev pub decreases-down : goal.decreases-down
decreases-down g l = length l.key - l.used
