use Rattle.std.proofs.Common.{◌≡◌}
use Rattle.art_arena.proofs.Common.{node_at, slots_of, IsPart, Shape, nodes_below}
use Rattle.art_walks.proofs.Terms.{first_key, HasShape}
use Rattle.art_walks.proofs.checker.keys.first_below.Given as goal

abbrev pub invariant-down : goal.invariant-down
invariant-down g l =
    (below : HasShape g.K.AsBytes.bytes g.row.PREFIX_LEN (node_at l.arena) l.current)
    × ((s : Shape g.row.K.Denot g.row.V.Denot) → IsPart g.row.PREFIX_LEN (node_at l.arena) l.fn.name s → first_key g.K.AsBytes.bytes below.shape ≡ first_key g.K.AsBytes.bytes s)

abbrev pub decreases-down : goal.decreases-down
decreases-down g l = nodes_below (slots_of l.arena) (node_at l.arena) l.current
