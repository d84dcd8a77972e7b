use Rattle.std.proofs.Common.{◌≡◌, ◌≢◌, length, length-append, drop, refl, sym, ap, subst, ◌∙◌, lit<, arith}
use Rattle.art_nodes.specs.declared.kind.NodeType.TheVariants.{Leaf}
use Rattle.art_nodes.specs.declared.leaf.LeafNode.{LeafNode}
use Rattle.art_arena.proofs.Common.{prefix_of, tail}
use Rattle.art_arena.proofs.shapes.Guides.{deep_within}
use Rattle.art_operations.proofs.Terms.{IsEndAtLeaf, IsSearchEnd}
use Rattle.art_operations.proofs.Points.{leaf_named, seen_leaf, leaf_end, inner_there, inner_end}
use Rattle.art_arena.proofs.Terms.{erase, prefix_reads}
use Rattle.art_operations.proofs.Terms.{EndsInside, IsEndAtInner}
use Rattle.art_operations.proofs.WayParts.{pass_ends}
use Rattle.art_operations.proofs.insert.point.search_end_with.Goals as goal

pub visit_leaf-requires : goal.visit_leaf-requires
visit_leaf-requires g c =
    let r = c.requires.stands in
    let l = seen_leaf g.K.AsBytes.bytes g.row.PREFIX_LEN c.args.reader.now.arena.now c.args.node c.in-Some.leaf r.0 r.1 (c.in-Some.ensures.variant.0 refl) c.in-Some.ensures.slot r.2.subtree in
    (lit< tt, rw l.there refl)

pub end_at_leaf-requires-clause-stored : goal.end_at_leaf-requires-clause-stored
end_at_leaf-requires-clause-stored g c =
    let r = c.requires.stands in
    let l = seen_leaf g.K.AsBytes.bytes g.row.PREFIX_LEN c.args.reader.now.arena.now c.args.node c.in-Some.leaf r.0 r.1 (c.in-Some.ensures.variant.0 refl) c.in-Some.ensures.slot r.2.subtree in
    let read : c.visit_leaf.result.now ≡ l.leaf = let there = l.there in let found = c.visit_leaf.ensures.value in cc in
    omega (arith, ap (λ (m : LeafNode _ _). length (g.K.AsBytes.bytes m.key)) read, ap length l.begins.1, length-append r.0 l.begins.0, r.2.path_len)

pub end_at_leaf-requires-clause-key : goal.end_at_leaf-requires-clause-key
end_at_leaf-requires-clause-key g c = let r = c.requires.stands in omega (arith, ap length r.3.1, length-append r.0 r.3.0, r.2.path_len)

pub returns-in-Some-clause-way : goal.returns-in-Some-clause-way
returns-in-Some-clause-way g c = λ path s at begins.
    let kind = c.in-Some.ensures.variant.0 refl in
    let l = seen_leaf g.K.AsBytes.bytes g.row.PREFIX_LEN c.args.reader.now.arena.now c.args.node c.in-Some.leaf path s kind c.in-Some.ensures.slot at.subtree in
    let read : c.visit_leaf.result.now ≡ l.leaf = let there = l.there in let found = c.visit_leaf.ensures.value in cc in
    subst (λ n. IsSearchEnd g.K.AsBytes.bytes c.args.key.now path s n c.end_at_leaf.result) (sym (leaf_named c.args.node c.in-Some.leaf kind c.in-Some.ensures.slot))
    (leaf_end g.K.AsBytes.bytes c.args.key.now path c.args.depth at.path_len begins c.in-Some.leaf l.leaf.key l.value s l.is l.begins _
    (subst (λ (m : LeafNode _ _). IsEndAtLeaf (drop c.args.depth (g.K.AsBytes.bytes m.key)) (drop c.args.depth c.args.key.now) c.end_at_leaf.result) read c.end_at_leaf.ensures))

pub returns-in-None-clause-way : goal.returns-in-None-clause-way
returns-in-None-clause-way g c = λ path s at begins.
    let inner : c.args.node.kind ≢ Leaf = λ leaf. let some = c.in-None.ensures.variant.1 leaf in cc in
    let i = inner_there g.K.AsBytes.bytes g.row.PREFIX_LEN c.args.reader.now.arena.now c.args.node path s at.subtree inner in
    let is = c.read_full_prefix_with.ensures.prefix path s at ∙ ap prefix_of i.is in
    inner_end g.K.AsBytes.bytes c.args.key.now path c.args.depth at.path_len begins c.args.node i.prefix i.kids i.under s i.is (c.requires.stops path s at begins) _
    (rw (is, tail c.args.depth c.args.key.now) at c.end_at_inner.ensures)

pub returns-in-Some-clause-few : goal.returns-in-Some-clause-few
returns-in-Some-clause-few g c = λ path s at longest short.
    omega (arith, deep_within g.K.AsBytes.bytes path s at.subtree.under longest short, at.path_len, c.visit_leaf.ensures.counts)

pub returns-in-Some-clause-counts : goal.returns-in-Some-clause-counts
returns-in-Some-clause-counts g c = λ path s at.
    let l = seen_leaf g.K.AsBytes.bytes g.row.PREFIX_LEN c.args.reader.now.arena.now c.args.node c.in-Some.leaf path s (c.in-Some.ensures.variant.0 refl) c.in-Some.ensures.slot at.subtree in
    omega (arith, c.visit_leaf.ensures.counts, ap (λ t. prefix_reads g.row.PREFIX_LEN (erase t)) l.is)

pub returns-in-None-clause-counts : goal.returns-in-None-clause-counts
returns-in-None-clause-counts g c = λ path s at. c.read_full_prefix_with.ensures.exact path s at

pub returns-in-Some-clause-inside : goal.returns-in-Some-clause-inside
returns-in-Some-clause-inside g c = λ conflict path s at.
    let l = seen_leaf g.K.AsBytes.bytes g.row.PREFIX_LEN c.args.reader.now.arena.now c.args.node c.in-Some.leaf path s (c.in-Some.ensures.variant.0 refl) c.in-Some.ensures.slot at.subtree in
    subst (λ t. EndsInside (erase t) (drop c.args.depth c.args.key.now)) (sym l.is) tt

pub returns-in-None-clause-inside : goal.returns-in-None-clause-inside
returns-in-None-clause-inside g c = λ conflict path s at.
    let inner : c.args.node.kind ≢ Leaf = λ leaf. let some = c.in-None.ensures.variant.1 leaf in cc in
    let i = inner_there g.K.AsBytes.bytes g.row.PREFIX_LEN c.args.reader.now.arena.now c.args.node path s at.subtree inner in
    let is = c.read_full_prefix_with.ensures.prefix path s at ∙ ap prefix_of i.is in
    let met = rw (is, tail c.args.depth c.args.key.now) at c.end_at_inner.ensures in
    subst (λ t. EndsInside (erase t) (drop c.args.depth c.args.key.now)) (sym i.is)
    (pass_ends i.prefix (drop c.args.depth c.args.key.now) (subst (IsEndAtInner i.prefix (drop c.args.depth c.args.key.now)) conflict met))
