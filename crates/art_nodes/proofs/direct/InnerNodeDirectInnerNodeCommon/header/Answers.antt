use Rattle.art_nodes.proofs.DirectLemmas.{IsInnerNode-table}
use Rattle.art_nodes.proofs.direct.InnerNodeDirectInnerNodeCommon.header.Goals as goal

pub returns-clause-is_inner_node : goal.returns-clause-is_inner_node
returns-clause-is_inner_node g c = rw (← c.self.view_is) (IsInnerNode-table g.row.PREFIX_LEN 256 c.self.inside.header c.self.inside.mask c.self.inside.slots c.num_children-count.ensures.is_header c.self.invariant c.num_children-count.ensures.is_header.counts)
