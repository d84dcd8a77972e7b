use Rattle.std.proofs.Common.{◌∙◌}
use Rattle.art_nodes.proofs.DirectLemmas.{ascending-table, all-table}
use Rattle.art_nodes.proofs.direct.InnerNodeDirectInnerNodeCommon.iter.Goals as goal

pub returns-clause-value : goal.returns-clause-value
returns-clause-value g c = rw (← c.self.view_is) (c.direct.ensures ∙ all-table c.self.inside.slots c.self.invariant.table.whole)

pub returns-clause-ascending : goal.returns-clause-ascending
returns-clause-ascending g c = rw (c.direct.ensures, all-table c.self.inside.slots c.self.invariant.table.whole) (ascending-table c.self.inside.slots c.self.invariant.table.whole)
