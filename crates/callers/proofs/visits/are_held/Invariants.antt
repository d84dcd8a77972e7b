use Rattle.std.proofs.Common.{length, IsSome}
use Rattle.std.specs.List.{AllByRecursion}
use Rattle.art_nodes.proofs.Common.{names_of}
use Rattle.art_arena.proofs.Common.{held_at}
use Rattle.callers.proofs.visits.are_held.Given as goal

-- if those that are left are held, all are
abbrev pub invariant-loop-child : goal.invariant-loop-child
invariant-loop-child g l =
    AllByRecursion (λ n. IsSome (held_at l.arena n)) (names_of l.left) → AllByRecursion (λ n. IsSome (held_at l.arena n)) (names_of l.fn.children)

abbrev pub decreases-loop-child : goal.decreases-loop-child
decreases-loop-child g l = length l.left
