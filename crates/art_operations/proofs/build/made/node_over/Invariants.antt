use Rattle.std.proofs.Common.{◌≡◌, take}
use Rattle.art_operations.proofs.Terms.{inner_over}
use Rattle.art_operations.proofs.build.made.node_over.Given as goal

abbrev pub invariant-loop-child : goal.invariant-loop-child
invariant-loop-child g l = g.N.InnerNodeInit.inner l.node ≡ inner_over g.row.PREFIX_LEN l.prefix (take l.child-index l.children)
