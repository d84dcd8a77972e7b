use Rattle.std.proofs.Common.{ap, ◌∙◌, drop, length, subst, sym, arith}
use Rattle.art_arena.proofs.Common.{erase, path_to, leaves, Stores, part_within}
use Rattle.art_operations.proofs.Terms.{IsNearest, near_reads}
use Rattle.art_operations.proofs.Nearest.{nearest_in, nearest_of_conflicts, told_of}
use Rattle.art_operations.proofs.Stops.{way_part}
use Rattle.art_operations.proofs.WayParts.{inside-end, inside_near}
use Rattle.art_operations.proofs.bounds.nearest_leaf.Goals as goal

pub end_leaf_with-first-requires : goal.end_leaf_with-first-requires
end_leaf_with-first-requires g c =
    let r = c.requires in
    let way = c.in-Err.ensures.part r.0 r.1 in
    (omega arith, (path_to way.ctx, way.part, way_part g.K.AsBytes.bytes g.row.PREFIX_LEN c.args.key.now c.args.reader.now.arena.now _ c.in-Err.ensures.kept c.args.root c.in-Err.conflict.part r.0 r.1 way))

pub returns-in-Err-clause-nearest : goal.returns-in-Err-clause-nearest
returns-in-Err-clause-nearest g c = λ s stores.
    let way = c.in-Err.ensures.part s stores in
    let sub = way_part g.K.AsBytes.bytes g.row.PREFIX_LEN c.args.key.now c.args.reader.now.arena.now _ c.in-Err.ensures.kept c.args.root c.in-Err.conflict.part s stores way in
    nearest_in g.K.AsBytes.bytes c.args.key.now s way.part way.ctx c.compared.result.leaf c.compared.result.order way.toward.place way.toward.begins
    (subst (λ slot. IsNearest g.K.AsBytes.bytes c.args.key.now (leaves way.part) slot c.compared.result.order) (sym c.compared.ensures.leaf)
    (nearest_of_conflicts g.K.AsBytes.bytes g.row.PREFIX_LEN c.find_insert_point_with.new.reader.arena.now c.args.key.now c.in-Err.conflict.part
    c.end_leaf_with-first.result.name c.compared.result.order (path_to way.ctx) way.part sub
    (c.end_leaf_with-first.ensures.value (path_to way.ctx) way.part sub) way.conflicts
    (told_of g.K.AsBytes.bytes g.row.PREFIX_LEN c.find_insert_point_with.new.reader.arena.now c.args.key.now c.end_leaf_with-first.result.name c.compared.result.order c.end_leaf_with-first.result.leaf.now c.end_leaf_with-first.ensures.leaf c.compared.ensures.order)))

pub returns-in-Err-clause-few : goal.returns-in-Err-clause-few
returns-in-Err-clause-few g c = λ s stores longest short.
    let way = c.in-Err.ensures.part s stores in
    let few = c.end_leaf_with-first.ensures.few (path_to way.ctx) way.part
    (way_part g.K.AsBytes.bytes g.row.PREFIX_LEN c.args.key.now c.args.reader.now.arena.now _ c.in-Err.ensures.kept c.args.root c.in-Err.conflict.part s
    stores way) longest (part_within g.K.AsBytes.bytes longest s way.ctx way.part way.toward.place.is short) in
    let place = c.in-Err.ensures.few s stores longest short in
    omega (arith, few, place)

pub nearest_at-requires : goal.nearest_at-requires
nearest_at-requires g c =
    let r = c.requires in
    (omega arith, (r.0, subst (λ a. Stores g.K.AsBytes.bytes g.row.PREFIX_LEN a c.args.root r.0) (sym c.in-Ok.ensures.kept) r.1, (c.in-Ok.ensures.value r.0 r.1).0))

pub returns-in-Ok-clause-nearest : goal.returns-in-Ok-clause-nearest
returns-in-Ok-clause-nearest g c = λ s stores.
    c.nearest_at.ensures.nearest s (subst (λ a. Stores g.K.AsBytes.bytes g.row.PREFIX_LEN a c.args.root s) (sym c.in-Ok.ensures.kept) stores) (c.in-Ok.ensures.value s stores).0

pub returns-in-Ok-clause-few : goal.returns-in-Ok-clause-few
returns-in-Ok-clause-few g c = λ s stores longest short.
    let few = c.nearest_at.ensures.few s (subst (λ a. Stores g.K.AsBytes.bytes g.row.PREFIX_LEN a c.args.root s) (sym c.in-Ok.ensures.kept) stores) (c.in-Ok.ensures.value s stores).0 longest short in
    let place = c.in-Ok.ensures.few s stores longest short in
    omega (arith, few, place)

pub returns-in-Err-clause-counts : goal.returns-in-Err-clause-counts
returns-in-Err-clause-counts g c = λ s stores.
    let w = c.in-Err.ensures.inside s stores in
    let rest = drop (length (path_to w.0.ctx)) c.args.key.now in
    let exact = c.end_leaf_with-first.ensures.exact (path_to w.0.ctx) w.0.part (way_part g.K.AsBytes.bytes g.row.PREFIX_LEN c.args.key.now c.args.reader.now.arena.now _ c.in-Err.ensures.kept c.args.root c.in-Err.conflict.part s stores w.0) in
    let near = ap near_reads (inside-end g.K.AsBytes.bytes c.args.key.now s w.0.ctx w.0.part w.0.toward.place w.0.toward.begins w.1) ∙ inside_near (erase w.0.part) rest w.1 in
    omega (arith, exact, near, c.in-Err.ensures.counts s stores)

pub returns-in-Ok-clause-counts : goal.returns-in-Ok-clause-counts
returns-in-Ok-clause-counts g c = λ s stores.
    let near = c.nearest_at.ensures.counts s (subst (λ a. Stores g.K.AsBytes.bytes g.row.PREFIX_LEN a c.args.root s) (sym c.in-Ok.ensures.kept) stores) (c.in-Ok.ensures.value s stores).0 in
    omega (arith, near, c.in-Ok.ensures.counts s stores)
