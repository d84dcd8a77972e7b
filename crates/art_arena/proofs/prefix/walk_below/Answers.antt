use Rattle.std.proofs.Common.{sym, ◌∙◌, arith, lit<}
use Rattle.art_arena.proofs.Terms.{First}
use Rattle.art_arena.proofs.shapes.LinkedLists.{some_of}
use Rattle.art_arena.proofs.shapes.Reads.{read_child, read_first, read_some}
use Rattle.art_arena.proofs.prefix.walk_below.Goals as goal

pub assume_proved-requires : goal.assume_proved-requires
assume_proved-requires g c =
    let r = c.requires in
    let some = some_of _ (read_some g.K.AsBytes.bytes g.row.PREFIX_LEN c.args.reader.now.arena.now c.args.inner.now.node r.0 r.1 r.2 r.3 r.4 First) in
    let e = sym some.1 ∙ sym c.end_child.ensures ∙ c.in-None.is in cc

pub end_leaf_with-requires : goal.end_leaf_with-requires
end_leaf_with-requires g c =
    let r = c.requires in
    let child = read_child g.K.AsBytes.bytes g.row.PREFIX_LEN c.args.reader.now.arena.now c.args.inner.now.node r.0 r.1 r.2 r.3 r.4 First c.in-Some.child (sym c.end_child.ensures ∙ c.in-Some.is) in
    (lit< tt, (child.below, child.part, child.subtree))

pub returns-clause-value : goal.returns-clause-value
returns-clause-value g c = λ root depth path s at.
    let child = read_child g.K.AsBytes.bytes g.row.PREFIX_LEN c.args.reader.now.arena.now c.args.inner.now.node root depth path s at First c.in-Some.child (sym c.end_child.ensures ∙ c.in-Some.is) in
    sym child.same_end ∙ c.end_leaf_with.ensures.value child.below child.part child.subtree

pub returns-clause-few : goal.returns-clause-few
returns-clause-few g c = λ root depth path s at longest short.
    let child = read_child g.K.AsBytes.bytes g.row.PREFIX_LEN c.args.reader.now.arena.now c.args.inner.now.node root depth path s at First c.in-Some.child (sym c.end_child.ensures ∙ c.in-Some.is) in
    let few = c.end_leaf_with.ensures.few child.below child.part child.subtree longest (child.within longest short) in
    omega (arith, few, child.deeper)

pub returns-clause-counts : goal.returns-clause-counts
returns-clause-counts g c = λ root depth path s at.
    let child = read_child g.K.AsBytes.bytes g.row.PREFIX_LEN c.args.reader.now.arena.now c.args.inner.now.node root depth path s at First c.in-Some.child (sym c.end_child.ensures ∙ c.in-Some.is) in
    let first = sym child.same_end ∙ c.end_leaf_with.ensures.value child.below child.part child.subtree in
    read_first g.K.AsBytes.bytes g.row.PREFIX_LEN c.args.reader.now.arena.now c.args.inner.now.node root depth path s at c.in-Some.child child
    c.end_leaf_with.result.name c.end_leaf_with.result.leaf.now _ _ first c.end_leaf_with.ensures.leaf
    (c.end_leaf_with.ensures.counts child.below child.part child.subtree)

pub returns-clause-exact : goal.returns-clause-exact
returns-clause-exact g c = λ root depth path s at.
    let child = read_child g.K.AsBytes.bytes g.row.PREFIX_LEN c.args.reader.now.arena.now c.args.inner.now.node root depth path s at First c.in-Some.child (sym c.end_child.ensures ∙ c.in-Some.is) in
    let exact = c.end_leaf_with.ensures.exact child.below child.part child.subtree in
    omega (arith, exact, child.led)

pub returns-clause-least : goal.returns-clause-least
returns-clause-least g c = omega (arith, c.end_leaf_with.ensures.least)
