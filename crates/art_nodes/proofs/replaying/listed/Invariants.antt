use Rattle.std.proofs.Common.{◌≡◌, ◌++◌}
use Rattle.art_nodes.proofs.replaying.listed.Given as goal

abbrev pub invariant-loop-child : goal.invariant-loop-child
invariant-loop-child l = l.all.items ++ l.children ≡ l.fn.children
