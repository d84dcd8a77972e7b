use Rattle.std.proofs.Common.{refl, arith}
use Rattle.art_arena.proofs.Common.{leaves}
use Rattle.art_operations.proofs.Nearest.{inside-is, nearest_held, neighbours_are}
use Rattle.art_operations.proofs.bounds.leaf_inside.Goals as goal

pub visit_leaf-leaf-requires : goal.visit_leaf-leaf-requires
visit_leaf-leaf-requires g c =
    let r = c.requires in
    let near = c.nearest_leaf-nearest.ensures.nearest r.0 r.1 in
    (omega arith, rw c.nearest_leaf-nearest.ensures.kept (nearest_held g.K.AsBytes.bytes c.args.key.now c.args.reader.now.arena.now (leaves r.0) c.nearest_leaf-nearest.result.leaf c.nearest_leaf-nearest.result.order near r.2))

pub returns-clause-value : goal.returns-clause-value
returns-clause-value g c = λ s stores linked.
    let near = c.nearest_leaf-nearest.ensures.nearest s stores in
    let links = neighbours_are g.K.AsBytes.bytes c.args.key.now c.args.reader.now.arena.now (leaves s) c.nearest_leaf-nearest.result.leaf c.nearest_leaf-nearest.result.order near linked c.visit_leaf-leaf.result.now (rw c.nearest_leaf-nearest.ensures.kept at c.visit_leaf-leaf.ensures.value) in
    rw (c.inside.ensures, c.takes.ensures, inside-is g.K.AsBytes.bytes c.args.key.now c.args.includes (leaves s) c.nearest_leaf-nearest.result.leaf c.nearest_leaf-nearest.result.order near c.args.is_start, links.0, links.1) refl

pub returns-clause-few : goal.returns-clause-few
returns-clause-few g c = λ s stores longest short. omega (arith, c.nearest_leaf-nearest.ensures.few s stores longest short, c.visit_leaf-leaf.ensures.counts)

pub returns-clause-counts : goal.returns-clause-counts
returns-clause-counts g c = λ s stores. omega (arith, c.nearest_leaf-nearest.ensures.counts s stores, c.visit_leaf-leaf.ensures.counts)
