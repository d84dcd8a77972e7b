use Rattle.std.proofs.Common.{sym, ◌∙◌}
use Rattle.art_operations.proofs.Freeing.{among-passing, among-last}
use Rattle.art_operations.proofs.deallocate.child_below.Goals as goal

pub returns-in-Some : goal.returns-in-Some
returns-in-Some g c = among-passing _ c.args.inner.now.node.children _ c.in-Some.child (sym c.range-below.ensures ∙ c.in-Some.ensures.steps)

pub returns-in-None : goal.returns-in-None
returns-in-None g c = among-last c.args.inner.now.node.children c.last_child.result c.last_child.ensures
