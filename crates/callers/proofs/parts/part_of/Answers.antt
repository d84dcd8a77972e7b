use Rattle.std.proofs.Common.{[], sym, subst, arith}
use Rattle.art_arena.proofs.Common.{node_at, IsSubtree, nodes-subtree}
use Rattle.art_operations.proofs.FoundParts.{found-part}
use Rattle.callers.proofs.parts.part_of.Goals as goal

pub search_for_subtree_delete_point-requires : goal.search_for_subtree_delete_point-requires
search_for_subtree_delete_point-requires g c =
    let r = c.requires in
    (omega arith, (r.0, subst (λ a. IsSubtree g.K.AsBytes.bytes g.row.PREFIX_LEN (node_at a) c.args.root [] r.0) (sym c.new-reader.ensures.arena) (nodes-subtree g.K.AsBytes.bytes g.row.PREFIX_LEN (node_at c.args.arena.now) c.args.root r.0 r.1.nodes)))

pub returns : goal.returns
returns g c =
    let r = c.requires in
    found-part g.K.AsBytes.bytes c.args.prefix.now g.row.PREFIX_LEN c.args.arena.now [] c.args.root c.search_for_subtree_delete_point.result c.search_for_subtree_delete_point.ensures.root
    (λ s stores. c.search_for_subtree_delete_point.ensures.value s (subst (λ a. IsSubtree g.K.AsBytes.bytes g.row.PREFIX_LEN (node_at a) c.args.root [] s) (sym c.new-reader.ensures.arena) stores)) r.0 r.1
