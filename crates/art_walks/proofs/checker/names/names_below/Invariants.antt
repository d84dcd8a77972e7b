use Rattle.std.proofs.Common.{◌≡◌, ◌-◌, length}
use Rattle.art_nodes.proofs.Common.{Name}
use Rattle.art_arena.proofs.Common.{node_at, slots_of}
use Rattle.art_walks.proofs.Terms.{has_name}
use Rattle.art_walks.proofs.NameWalks.{IsNameWalk}
use Rattle.art_walks.proofs.checker.names.names_below.Given as goal

abbrev pub invariant-loop-name : goal.invariant-loop-name
invariant-loop-name g l =
    IsNameWalk (node_at l.arena) g.row.PREFIX_LEN l.fn.root l.met.items l.waiting.items × ((n : Name) → has_name n l.seen.keys ≡ has_name n l.met.items)

abbrev pub decreases-loop-name : goal.decreases-loop-name
decreases-loop-name g l = slots_of l.arena - length l.met.items
