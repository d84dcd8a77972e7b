use Rattle.std.proofs.Common.{◌≢◌, refl, sym, ap, ◌∙◌}
use Rattle.art_arena.proofs.Common.{leaf_name, node_at, cell_of}
use Rattle.art_nodes.specs.declared.kind.NodeType.TheVariants.{Leaf}
use Rattle.art_walks.proofs.KeyWalks.{key-below, leaf-key, step, no-child}
use Rattle.art_walks.proofs.checker.keys.first_below.Goals as goal

pub down-init : goal.down-init
down-init g c = (c.requires, λ s part. key-below g.K.AsBytes.bytes g.row.PREFIX_LEN (node_at c.args.arena.now) c.args.name c.requires.shape s c.requires.part part)

pub returns-in-Some : goal.returns-in-Some
returns-in-Some g c = λ s part.
    let key = leaf-key g.K.AsBytes.bytes g.row.PREFIX_LEN (node_at c.args.arena.now) c.down.current c.down.invariant.0 (c.in-Some.ensures.variant.0 refl) in
    (key.0, key.1, ap (λ slot. node_at c.args.arena.now (leaf_name slot)) c.in-Some.ensures.slot ∙ key.2, key.3 ∙ c.down.invariant.1 s part)

pub down-smaller : goal.down-smaller
down-smaller g c =
    let other : c.down.current.kind ≢ Leaf = λ e. let h = c.in_default.ensures.variant.1 e in cc in
    (step g.K.AsBytes.bytes g.row.PREFIX_LEN c.args.arena.now c.down.current c.down.invariant.0 other c.inner.result.node (ap cell_of c.inner.ensures.value)
    c.in-Some-first_child.child (sym c.first_child.ensures ∙ c.in-Some-first_child.is)).nearer

pub down-preserved : goal.down-preserved
down-preserved g c =
    let other : c.down.current.kind ≢ Leaf = λ e. let h = c.in_default.ensures.variant.1 e in cc in
    let on = step g.K.AsBytes.bytes g.row.PREFIX_LEN c.args.arena.now c.down.current c.down.invariant.0 other c.inner.result.node (ap cell_of c.inner.ensures.value)
    c.in-Some-first_child.child (sym c.first_child.ensures ∙ c.in-Some-first_child.is) in
    (on.next, λ s part. on.same_key ∙ c.down.invariant.1 s part)

pub unreachable-requires : goal.unreachable-requires
unreachable-requires g c =
    let other : c.down.current.kind ≢ Leaf = λ e. let h = c.in_default.ensures.variant.1 e in cc in
    no-child g.K.AsBytes.bytes g.row.PREFIX_LEN c.args.arena.now c.down.current c.down.invariant.0 other c.inner.result.node (ap cell_of c.inner.ensures.value)
    (sym c.first_child.ensures ∙ c.in-None.is)
