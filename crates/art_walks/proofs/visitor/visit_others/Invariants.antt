use Rattle.std.proofs.Common.{length, IsSome}
use Rattle.std.specs.List.{AllByRecursion}
use Rattle.art_nodes.proofs.Common.{names_of}
use Rattle.art_arena.proofs.Common.{held_at}
use Rattle.art_walks.specs.Visits.{AreVisitedAfter}
use Rattle.art_walks.proofs.visitor.visit_others.Given as goal

-- whatever the visits that are left give, all of them give from the start on
abbrev pub invariant-loop-child : goal.invariant-loop-child
invariant-loop-child g l =
    AllByRecursion (λ n. IsSome (held_at l.arena n)) (names_of l.left)
    × ((new : _) (output : _)
    → AreVisitedAfter g.W.Visitor.leaf_gives g.W.Visitor.inner_gives l.arena g.W.Visitor.default_gives g.W.Visitor.combine_gives (names_of l.left) l.visitor l.output new output
    → AreVisitedAfter g.W.Visitor.leaf_gives g.W.Visitor.inner_gives l.arena g.W.Visitor.default_gives g.W.Visitor.combine_gives (names_of l.fn.children) l.initial.visitor l.fn.before new output)

abbrev pub decreases-loop-child : goal.decreases-loop-child
decreases-loop-child g l = length l.left
