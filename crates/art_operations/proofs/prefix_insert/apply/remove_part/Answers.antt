use Rattle.std.proofs.Common.{◌≢◌, arith, refl, sym, ap, ◌∙◌}
use Rattle.std.proofs.lemmas.List.{length-map}
use Rattle.art_nodes.proofs.Common.{Name}
use Rattle.art_nodes.specs.declared.kind.NodeType.TheVariants.{Leaf}
use Rattle.art_arena.proofs.Common.{leaves}
use Rattle.art_operations.proofs.LeafPairs.{leaf_pair}
use Rattle.art_operations.proofs.Overwrites.{freed_leaf}
use Rattle.art_operations.proofs.Points.{leaf_named}
use Rattle.art_operations.proofs.PartSizes.{two_leaves}
use Rattle.art_operations.proofs.prefix_insert.apply.remove_part.Goals as goal

pub returns-in-Some-clause-freed : goal.returns-in-Some-clause-freed
returns-in-Some-clause-freed g c = λ path s rest under holds.
    freed_leaf g.K.AsBytes.bytes g.row.PREFIX_LEN c.args.arena.now c.deallocate_node_ptr-removed.new.self c.args.part c.in-Some.leaf path s rest under holds
    (leaf_named c.args.part c.in-Some.leaf (c.in-Some.ensures.variant.0 refl) c.in-Some.ensures.slot)
    c.deallocate_node_ptr-removed.ensures.updates

pub returns-in-Some-clause-leaf_room : goal.returns-in-Some-clause-leaf_room
returns-in-Some-clause-leaf_room g c = λ n room. let freed = c.deallocate_node_ptr-removed.ensures.frees n room in omega (arith, freed)

pub returns-in-None-clause-removed : goal.returns-in-None-clause-removed
returns-in-None-clause-removed g c = λ path s rest under holds.
    let count = c.deallocate_tree.ensures.value s rest holds in
    let inner : c.args.part.kind ≢ Leaf = λ leaf. let some = c.in-None.ensures.variant.1 leaf in cc in
    let two = two_leaves g.K.AsBytes.bytes g.row.PREFIX_LEN path s under (λ e. inner (sym (ap (λ (n : Name). n.kind) holds.named) ∙ e)) in
    (count ∙ sym (length-map (leaves s) leaf_pair), λ one. omega (arith, two, one, count))
