use Rattle.std.proofs.Common.{◌≡◌, ◌++◌, ℕ, List, length}
use Rattle.art_nodes.proofs.Common.{Name}
use Rattle.art_arena.proofs.Common.{node_at}
use Rattle.art_walks.proofs.Terms.{Place, Await}
use Rattle.art_walks.proofs.checker.keys.others_fit.Given as goal

abbrev pub invariant-loop-child : goal.invariant-loop-child
invariant-loop-child g l =
    (done : List (ℕ × Name)) × (places : List Place) × (l.fn.children ≡ done ++ l.left) × (l.waiting.items ≡ l.initial.waiting.items ++ places)
    × Await g.K.AsBytes.bytes g.row.PREFIX_LEN (node_at l.arena) l.end l.key done places

abbrev pub decreases-loop-child : goal.decreases-loop-child
decreases-loop-child g l = length l.left
