use Rattle.std.proofs.Common.{◌≢◌, lit<}
use Rattle.art_nodes.specs.declared.kind.NodeType.TheVariants.{Leaf}
use Rattle.art_operations.proofs.FreeSteps.{part-inner, node_in}
use Rattle.art_operations.proofs.deallocate.free_node.Goals as goal

pub edit_inner-requires : goal.edit_inner-requires
edit_inner-requires g c =
    let r = c.requires in
    let other : c.args.node.kind ≢ Leaf = λ e. let h = c.in_default.ensures.variant.1 e in cc in
    let inner = part-inner g.row.PREFIX_LEN c.args.with_leaves c.args.arena.now c.args.node r.0 r.1 r.2 other in
    (lit< tt, (lit< tt, ((node_in g.row.PREFIX_LEN c.args.with_leaves c.args.arena.now inner.prefix inner.kids, inner.there, tt), other)))
