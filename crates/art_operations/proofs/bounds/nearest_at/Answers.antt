use Rattle.std.proofs.Common.{refl, ap, subst, sym, arith}
use Rattle.art_arena.proofs.Common.{node_at, erase_in, leaf_name, path_to, IsSubtree, name_of, leaves, KeysWithin, part_within}
use Rattle.art_operations.proofs.Terms.{MeetsAt, IsNearest}
use Rattle.art_operations.proofs.Nearest.{leaf_held_there, nearest_in, nearest_lone, point_subtree, told_of}
use Rattle.art_operations.proofs.WayParts.{missing-near, parted-ends, point-near}
use Rattle.art_operations.proofs.bounds.nearest_at.Goals as goal

pub visit_leaf-requires : goal.visit_leaf-requires
visit_leaf-requires g c =
    let r = c.requires in
    let meets = subst (MeetsAt g.K.AsBytes.bytes c.args.key.now (path_to r.2.ctx) r.2.part) c.in-Exact.is r.2.meets in
    let sub = point_subtree g.K.AsBytes.bytes g.row.PREFIX_LEN c.args.reader.now.arena.now c.args.key.now c.args.root (leaf_name c.in-Exact.leaf_node_ptr) r.0 c.args.point r.1 r.2 (ap name_of meets.2) in
    (omega arith, leaf_held_there g.K.AsBytes.bytes g.row.PREFIX_LEN c.args.reader.now.arena.now c.in-Exact.leaf_node_ptr (path_to r.2.ctx) r.2.part sub)

pub visit_leaf-requires-in-SplitLeaf : goal.visit_leaf-requires-in-SplitLeaf
visit_leaf-requires-in-SplitLeaf g c =
    let r = c.requires in
    let meets = subst (MeetsAt g.K.AsBytes.bytes c.args.key.now (path_to r.2.ctx) r.2.part) c.in-SplitLeaf.is r.2.meets in
    let sub = point_subtree g.K.AsBytes.bytes g.row.PREFIX_LEN c.args.reader.now.arena.now c.args.key.now c.args.root (leaf_name c.in-SplitLeaf.leaf_node_ptr) r.0 c.args.point r.1 r.2 (ap name_of meets.2) in
    (omega arith, leaf_held_there g.K.AsBytes.bytes g.row.PREFIX_LEN c.args.reader.now.arena.now c.in-SplitLeaf.leaf_node_ptr (path_to r.2.ctx) r.2.part sub)

pub returns-in-Exact-clause-nearest : goal.returns-in-Exact-clause-nearest
returns-in-Exact-clause-nearest g c = λ s stores at.
    let meets = subst (MeetsAt g.K.AsBytes.bytes c.args.key.now (path_to at.ctx) at.part) c.in-Exact.is at.meets in
    let sub = point_subtree g.K.AsBytes.bytes g.row.PREFIX_LEN c.args.reader.now.arena.now c.args.key.now c.args.root (leaf_name c.in-Exact.leaf_node_ptr) s c.args.point stores at (ap name_of meets.2) in
    nearest_in g.K.AsBytes.bytes c.args.key.now s at.part at.ctx c.compared.result.leaf c.compared.result.order at.toward.place at.toward.begins
    (subst (λ slot. IsNearest g.K.AsBytes.bytes c.args.key.now (leaves at.part) slot c.compared.result.order) (sym c.compared.ensures.leaf)
    (nearest_lone g.K.AsBytes.bytes g.row.PREFIX_LEN c.args.reader.now.arena.now c.args.key.now c.in-Exact.leaf_node_ptr c.compared.result.order
    (path_to at.ctx) at.part sub (told_of g.K.AsBytes.bytes g.row.PREFIX_LEN c.args.reader.now.arena.now c.args.key.now c.in-Exact.leaf_node_ptr
    c.compared.result.order c.visit_leaf.result.now c.visit_leaf.ensures.value c.compared.ensures.order)))

pub returns-in-SplitLeaf-clause-nearest : goal.returns-in-SplitLeaf-clause-nearest
returns-in-SplitLeaf-clause-nearest g c = λ s stores at.
    let meets = subst (MeetsAt g.K.AsBytes.bytes c.args.key.now (path_to at.ctx) at.part) c.in-SplitLeaf.is at.meets in
    let sub = point_subtree g.K.AsBytes.bytes g.row.PREFIX_LEN c.args.reader.now.arena.now c.args.key.now c.args.root (leaf_name c.in-SplitLeaf.leaf_node_ptr) s c.args.point stores at (ap name_of meets.2) in
    nearest_in g.K.AsBytes.bytes c.args.key.now s at.part at.ctx c.compared-in-SplitLeaf.result.leaf c.compared-in-SplitLeaf.result.order at.toward.place at.toward.begins
    (subst (λ slot. IsNearest g.K.AsBytes.bytes c.args.key.now (leaves at.part) slot c.compared-in-SplitLeaf.result.order) (sym c.compared-in-SplitLeaf.ensures.leaf)
    (nearest_lone g.K.AsBytes.bytes g.row.PREFIX_LEN c.args.reader.now.arena.now c.args.key.now c.in-SplitLeaf.leaf_node_ptr
    c.compared-in-SplitLeaf.result.order (path_to at.ctx) at.part sub
    (told_of g.K.AsBytes.bytes g.row.PREFIX_LEN c.args.reader.now.arena.now c.args.key.now c.in-SplitLeaf.leaf_node_ptr c.compared-in-SplitLeaf.result.order
    c.visit_leaf-in-SplitLeaf.result.now c.visit_leaf-in-SplitLeaf.ensures.value c.compared-in-SplitLeaf.ensures.order)))

pub nearest_parted-requires : goal.nearest_parted-requires
nearest_parted-requires g c =
    let r = c.requires in
    let meets = subst (MeetsAt g.K.AsBytes.bytes c.args.key.now (path_to r.2.ctx) r.2.part) c.in-MismatchPrefix.is r.2.meets in
    let sub = point_subtree g.K.AsBytes.bytes g.row.PREFIX_LEN c.args.reader.now.arena.now c.args.key.now c.args.root c.in-MismatchPrefix.inner_node_ptr r.0 c.args.point r.1 r.2 (ap name_of meets.2) in
    (omega arith, (path_to r.2.ctx, meets.0, meets.1, subst (IsSubtree g.K.AsBytes.bytes g.row.PREFIX_LEN (node_at c.args.reader.now.arena.now) c.in-MismatchPrefix.inner_node_ptr (path_to r.2.ctx)) meets.2 sub))

pub returns-in-MismatchPrefix-clause-nearest : goal.returns-in-MismatchPrefix-clause-nearest
returns-in-MismatchPrefix-clause-nearest g c = λ s stores at.
    let meets = subst (MeetsAt g.K.AsBytes.bytes c.args.key.now (path_to at.ctx) at.part) c.in-MismatchPrefix.is at.meets in
    let sub = point_subtree g.K.AsBytes.bytes g.row.PREFIX_LEN c.args.reader.now.arena.now c.args.key.now c.args.root c.in-MismatchPrefix.inner_node_ptr s c.args.point stores at (ap name_of meets.2) in
    nearest_in g.K.AsBytes.bytes c.args.key.now s at.part at.ctx c.nearest_parted.result.leaf c.nearest_parted.result.order at.toward.place at.toward.begins
    (subst (λ t. IsNearest g.K.AsBytes.bytes c.args.key.now (leaves t) c.nearest_parted.result.leaf c.nearest_parted.result.order) (sym meets.2)
    (c.nearest_parted.ensures.nearest c.args.key.now (path_to at.ctx) meets.0 meets.1 (subst (IsSubtree g.K.AsBytes.bytes g.row.PREFIX_LEN (node_at c.args.reader.now.arena.now) c.in-MismatchPrefix.inner_node_ptr (path_to at.ctx)) meets.2 sub) at.toward.begins meets.3))

pub nearest_child-requires : goal.nearest_child-requires
nearest_child-requires g c =
    let r = c.requires in
    let meets = subst (MeetsAt g.K.AsBytes.bytes c.args.key.now (path_to r.2.ctx) r.2.part) c.in-IntoExisting.is r.2.meets in
    let sub = point_subtree g.K.AsBytes.bytes g.row.PREFIX_LEN c.args.reader.now.arena.now c.args.key.now c.args.root c.in-IntoExisting.inner_node_ptr r.0 c.args.point r.1 r.2 (ap name_of meets.2) in
    (omega arith, (path_to r.2.ctx, meets.0, meets.1, subst (IsSubtree g.K.AsBytes.bytes g.row.PREFIX_LEN (node_at c.args.reader.now.arena.now) c.in-IntoExisting.inner_node_ptr (path_to r.2.ctx)) meets.2 sub, meets.3))

pub returns-in-IntoExisting-clause-nearest : goal.returns-in-IntoExisting-clause-nearest
returns-in-IntoExisting-clause-nearest g c = λ s stores at.
    let meets = subst (MeetsAt g.K.AsBytes.bytes c.args.key.now (path_to at.ctx) at.part) c.in-IntoExisting.is at.meets in
    let sub = point_subtree g.K.AsBytes.bytes g.row.PREFIX_LEN c.args.reader.now.arena.now c.args.key.now c.args.root c.in-IntoExisting.inner_node_ptr s c.args.point stores at (ap name_of meets.2) in
    nearest_in g.K.AsBytes.bytes c.args.key.now s at.part at.ctx c.nearest_child.result.leaf c.nearest_child.result.order at.toward.place at.toward.begins
    (subst (λ t. IsNearest g.K.AsBytes.bytes c.args.key.now (leaves t) c.nearest_child.result.leaf c.nearest_child.result.order) (sym meets.2)
    (c.nearest_child.ensures.nearest c.args.key.now (path_to at.ctx) meets.0 meets.1 (subst (IsSubtree g.K.AsBytes.bytes g.row.PREFIX_LEN (node_at c.args.reader.now.arena.now) c.in-IntoExisting.inner_node_ptr (path_to at.ctx)) meets.2 sub) meets.3 meets.4))

pub returns-in-MismatchPrefix-clause-few : goal.returns-in-MismatchPrefix-clause-few
returns-in-MismatchPrefix-clause-few g c = λ s stores at longest short.
    let meets = subst (MeetsAt g.K.AsBytes.bytes c.args.key.now (path_to at.ctx) at.part) c.in-MismatchPrefix.is at.meets in
    let sub = point_subtree g.K.AsBytes.bytes g.row.PREFIX_LEN c.args.reader.now.arena.now c.args.key.now c.args.root c.in-MismatchPrefix.inner_node_ptr s c.args.point stores at (ap name_of meets.2) in
    let few = c.nearest_parted.ensures.few (path_to at.ctx) at.part sub longest (part_within g.K.AsBytes.bytes longest s at.ctx at.part at.toward.place.is short) in
    omega (arith, few)

pub returns-in-IntoExisting-clause-few : goal.returns-in-IntoExisting-clause-few
returns-in-IntoExisting-clause-few g c = λ s stores at longest short.
    let meets = subst (MeetsAt g.K.AsBytes.bytes c.args.key.now (path_to at.ctx) at.part) c.in-IntoExisting.is at.meets in
    let sub = point_subtree g.K.AsBytes.bytes g.row.PREFIX_LEN c.args.reader.now.arena.now c.args.key.now c.args.root c.in-IntoExisting.inner_node_ptr s c.args.point stores at (ap name_of meets.2) in
    c.nearest_child.ensures.few (path_to at.ctx) meets.0 meets.1 (subst (IsSubtree g.K.AsBytes.bytes g.row.PREFIX_LEN (node_at c.args.reader.now.arena.now) c.in-IntoExisting.inner_node_ptr (path_to at.ctx)) meets.2 sub) meets.3
    longest (subst (λ t. KeysWithin g.K.AsBytes.bytes longest (leaves t)) meets.2 (part_within g.K.AsBytes.bytes longest s at.ctx at.part at.toward.place.is short))

pub returns-in-Exact-clause-counts : goal.returns-in-Exact-clause-counts
returns-in-Exact-clause-counts g c = λ s stores at.
    let meets = subst (MeetsAt g.K.AsBytes.bytes c.args.key.now (path_to at.ctx) at.part) c.in-Exact.is at.meets in
    let near = point-near g.K.AsBytes.bytes c.args.key.now s c.args.point at _ 1 meets.2 refl in
    omega (arith, near, c.visit_leaf.ensures.counts)

pub returns-in-SplitLeaf-clause-counts : goal.returns-in-SplitLeaf-clause-counts
returns-in-SplitLeaf-clause-counts g c = λ s stores at.
    let meets = subst (MeetsAt g.K.AsBytes.bytes c.args.key.now (path_to at.ctx) at.part) c.in-SplitLeaf.is at.meets in
    let near = point-near g.K.AsBytes.bytes c.args.key.now s c.args.point at _ 1 meets.2 refl in
    omega (arith, near, c.visit_leaf-in-SplitLeaf.ensures.counts)

pub returns-in-MismatchPrefix-clause-counts : goal.returns-in-MismatchPrefix-clause-counts
returns-in-MismatchPrefix-clause-counts g c = λ s stores at.
    let meets = subst (MeetsAt g.K.AsBytes.bytes c.args.key.now (path_to at.ctx) at.part) c.in-MismatchPrefix.is at.meets in
    let sub = point_subtree g.K.AsBytes.bytes g.row.PREFIX_LEN c.args.reader.now.arena.now c.args.key.now c.args.root c.in-MismatchPrefix.inner_node_ptr s c.args.point stores at (ap name_of meets.2) in
    let counts = c.nearest_parted.ensures.counts (path_to at.ctx) _ (subst (IsSubtree g.K.AsBytes.bytes g.row.PREFIX_LEN (node_at c.args.reader.now.arena.now) c.in-MismatchPrefix.inner_node_ptr (path_to at.ctx)) meets.2 sub) in
    let near = point-near g.K.AsBytes.bytes c.args.key.now s c.args.point at _ _ meets.2 (parted-ends g.K.AsBytes.bytes c.args.key.now (path_to at.ctx) at.toward.begins meets.0 (erase_in meets.1) c.in-MismatchPrefix.parted meets.3).1 in
    omega (arith, near, counts)

pub returns-in-IntoExisting-clause-counts : goal.returns-in-IntoExisting-clause-counts
returns-in-IntoExisting-clause-counts g c = λ s stores at.
    let meets = subst (MeetsAt g.K.AsBytes.bytes c.args.key.now (path_to at.ctx) at.part) c.in-IntoExisting.is at.meets in
    let sub = point_subtree g.K.AsBytes.bytes g.row.PREFIX_LEN c.args.reader.now.arena.now c.args.key.now c.args.root c.in-IntoExisting.inner_node_ptr s c.args.point stores at (ap name_of meets.2) in
    let counts = c.nearest_child.ensures.counts (path_to at.ctx) meets.0 meets.1 (subst (IsSubtree g.K.AsBytes.bytes g.row.PREFIX_LEN (node_at c.args.reader.now.arena.now) c.in-IntoExisting.inner_node_ptr (path_to at.ctx)) meets.2 sub) meets.3 in
    let near = point-near g.K.AsBytes.bytes c.args.key.now s c.args.point at _ _ meets.2 (missing-near g.K.AsBytes.bytes c.args.key.now (path_to at.ctx) at.toward.begins meets.0 (erase_in meets.1) c.in-IntoExisting.key_byte meets.4) in
    omega (arith, near, counts)
