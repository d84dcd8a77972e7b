use Rattle.std.proofs.Common.{min}
use Rattle.art_nodes.proofs.SortedLemmas.{IsInnerNode-sorted}
use Rattle.art_nodes.proofs.indirect.InnerNodeIndirectInnerNodeCommon.header.Goals as goal

pub returns-clause-is_inner_node : goal.returns-clause-is_inner_node
returns-clause-is_inner_node g c =
    let i = c.self.inside in
    rw (← c.self.view_is) (IsInnerNode-sorted g.row.PREFIX_LEN (min g.row.SIZE 255) i.header i.mask i.names.items c.num_children-count.ensures.is_header c.self.invariant)
