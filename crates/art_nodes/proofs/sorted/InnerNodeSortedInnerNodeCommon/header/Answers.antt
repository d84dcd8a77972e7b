use Rattle.art_nodes.proofs.Terms.{in_use}
use Rattle.art_nodes.proofs.SortedLemmas.{IsInnerNode-sorted}
use Rattle.art_nodes.proofs.sorted.InnerNodeSortedInnerNodeCommon.header.Goals as goal

pub returns-clause-is_inner_node : goal.returns-clause-is_inner_node
returns-clause-is_inner_node g c =
    let i = c.self.inside in
    rw (← c.self.view_is) (IsInnerNode-sorted g.row.PREFIX_LEN g.row.SIZE i.header (in_use i.header i.keys) i.names.items c.num_children-count.ensures.is_header c.self.invariant.side)
