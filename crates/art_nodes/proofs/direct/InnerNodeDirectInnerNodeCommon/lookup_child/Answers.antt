use Rattle.std.proofs.Common.{sym, ◌∙◌}
use Rattle.art_nodes.proofs.DirectLemmas.{lookup-table}
use Rattle.art_nodes.proofs.direct.InnerNodeDirectInnerNodeCommon.lookup_child.Goals as goal

pub returns : goal.returns
returns g c = rw (← c.self.view_is) (c.held.ensures ∙ sym (lookup-table c.self.inside.slots c.args.byte c.self.invariant.table.whole))
