use Rattle.std.proofs.Common.{◌≡◌, ◌++◌, reverse, length}
use Rattle.art_nodes.proofs.Common.{names_of}
use Rattle.art_walks.proofs.checker.names.push_children.Given as goal

abbrev pub invariant-loop-child : goal.invariant-loop-child
invariant-loop-child l = l.waiting.items ++ reverse (names_of l.left) ≡ l.initial.waiting.items ++ reverse (names_of l.fn.children)

abbrev pub decreases-loop-child : goal.decreases-loop-child
decreases-loop-child l = length l.left
