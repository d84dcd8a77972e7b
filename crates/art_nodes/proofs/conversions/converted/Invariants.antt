use Rattle.std.proofs.Common.{◌≡◌, ◌++◌, length}
use Rattle.art_nodes.proofs.conversions.converted.Given as goal

abbrev pub invariant-loop-child : goal.invariant-loop-child
invariant-loop-child g l = record {
  split : (g.B.InnerNodeInit.inner l.new).children ++ l.rest ≡ (g.A.InnerNodeInit.inner l.node).children;
  header : (g.B.InnerNodeInit.inner l.new).header ≡ record (g.A.InnerNodeInit.inner l.node).header { num_children = length (g.B.InnerNodeInit.inner l.new).children };
}

abbrev pub decreases-loop-child : goal.decreases-loop-child
decreases-loop-child g l = length l.rest
