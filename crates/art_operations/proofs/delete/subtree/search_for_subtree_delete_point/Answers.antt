use Rattle.std.proofs.Common.{None, length, arith}
use Rattle.art_arena.proofs.Common.{path_to, Shape, leaves, Stores, begins_with, part_within}
use Rattle.art_operations.proofs.Terms.{ForLongest, SpanReads}
use Rattle.art_operations.proofs.FoundParts.{conflict_point, found_leaf, leaf_root}
use Rattle.art_operations.proofs.Openings.{opening_of}
use Rattle.art_operations.proofs.Segments.{begin_in, ends_same}
use Rattle.art_operations.proofs.Stops.{way_part}
use Rattle.art_operations.proofs.WayParts.{part-both, part-first, point-free}
use Rattle.art_operations.proofs.delete.subtree.search_for_subtree_delete_point.Goals as goal
use Rattle.art_operations.proofs.delete.subtree.search_for_subtree_delete_point.Goals.{After-segment_at}

pub returns-in-Ok-clause-value : goal.returns-in-Ok-clause-value
returns-in-Ok-clause-value g c = λ s stores.
    let answer = c.in-Ok.ensures.value s stores in
    found_leaf g.K.AsBytes.bytes c.args.prefix.now s c.args.root stores.part.named c.in-Ok.point c.leaf_part.result answer.0 answer.1 c.leaf_part.ensures

pub returns-in-Ok-clause-root : goal.returns-in-Ok-clause-root
returns-in-Ok-clause-root g c = leaf_root c.args.root c.in-Ok.point c.leaf_part.result c.leaf_part.ensures

pub returns-in-Ok-clause-few : goal.returns-in-Ok-clause-few
returns-in-Ok-clause-few g c = λ s stores longest short.
    opening_of longest (length c.args.prefix.now) c.args.reader.now.count c.find_insert_point_with.new.reader.count (omega (arith, c.in-Ok.ensures.few s stores longest short))

pub returns-in-Ok-clause-linear : goal.returns-in-Ok-clause-linear
returns-in-Ok-clause-linear g c = λ s stores longest short. omega (arith, c.in-Ok.ensures.few s stores longest short)

pub segment_at-requires : goal.segment_at-requires
segment_at-requires g c =
    let r = c.requires in
    let way = c.in-Err.ensures.part r.0 r.1 in
    (omega arith, (path_to way.ctx, way.part, (way_part g.K.AsBytes.bytes g.row.PREFIX_LEN c.args.prefix.now c.args.reader.now.arena.now _ c.in-Err.ensures.kept c.args.root c.in-Err.conflict.part r.0 r.1 way)))

pub returns-in_default-clause-value : goal.returns-in_default-clause-value
returns-in_default-clause-value g c = λ s stores.
    let way = c.in-Err.ensures.part s stores in
    ends_same g.K.AsBytes.bytes (λ k. begins_with c.args.prefix.now k) (leaves s) (leaves way.part) None (begin_in g.K.AsBytes.bytes c.args.prefix.now s way.part way.ctx way.toward.place way.toward.begins)
    (c.in_default.ensures.value (path_to way.ctx) way.part (way_part g.K.AsBytes.bytes g.row.PREFIX_LEN c.args.prefix.now c.args.reader.now.arena.now _ c.in-Err.ensures.kept c.args.root c.in-Err.conflict.part s stores way) way.conflicts)

-- how much was read
reads : (g : _) (c : After-segment_at g) (s : Shape g.row.K.Denot g.row.V.Denot) → Stores g.K.AsBytes.bytes g.row.PREFIX_LEN c.args.reader.now.arena.now c.args.root s
    → ForLongest g.K.AsBytes.bytes s (λ longest. SpanReads longest c.args.reader.now.count c.segment_at.new.reader.count)
reads g c s stores longest short =
    let way = c.in-Err.ensures.part s stores in
    omega (
      arith,
      c.in-Err.ensures.few s stores longest short,
      c.segment_at.ensures.few (path_to way.ctx) way.part
          (way_part g.K.AsBytes.bytes g.row.PREFIX_LEN c.args.prefix.now c.args.reader.now.arena.now _ c.in-Err.ensures.kept c.args.root c.in-Err.conflict.part
          s stores way) longest (part_within g.K.AsBytes.bytes longest s way.ctx way.part way.toward.place.is short),
    )

pub returns-in_default-clause-linear : goal.returns-in_default-clause-linear
returns-in_default-clause-linear g c = reads g (goal.at.returns-in_default-clause-linear g c).After-segment_at

pub returns-in_default-clause-few : goal.returns-in_default-clause-few
returns-in_default-clause-few g c = λ s stores longest short. opening_of longest (length c.args.prefix.now) _ _ (reads g (goal.at.returns-in_default-clause-few g c).After-segment_at s stores longest short)

pub returns-clause-value : goal.returns-clause-value
returns-clause-value g c = λ s stores.
    let way = c.in-Err.ensures.part s stores in
    conflict_point g.K.AsBytes.bytes c.args.prefix.now s c.args.root stores.part.named c.in-Err.conflict.root c.in-Err.conflict.part c.in-Err.conflict.path c.in-Some.ends.0 c.in-Some.ends.1 way
    (c.in-Some.ensures.value (path_to way.ctx) way.part (way_part g.K.AsBytes.bytes g.row.PREFIX_LEN c.args.prefix.now c.args.reader.now.arena.now _ c.in-Err.ensures.kept c.args.root c.in-Err.conflict.part s stores way) way.conflicts)
    (c.in-Some.ensures.all (path_to way.ctx) way.part (way_part g.K.AsBytes.bytes g.row.PREFIX_LEN c.args.prefix.now c.args.reader.now.arena.now _ c.in-Err.ensures.kept c.args.root c.in-Err.conflict.part s stores way) way.conflicts)

pub returns-clause-linear : goal.returns-clause-linear
returns-clause-linear g c = reads g (goal.at.returns-clause-linear g c).After-segment_at

pub returns-clause-few : goal.returns-clause-few
returns-clause-few g c = λ s stores longest short. opening_of longest (length c.args.prefix.now) _ _ (reads g (goal.at.returns-clause-few g c).After-segment_at s stores longest short)

pub returns-in-Ok-clause-counts : goal.returns-in-Ok-clause-counts
returns-in-Ok-clause-counts g c = λ s stores.
    let answer = c.in-Ok.ensures.value s stores in
    omega (arith, c.in-Ok.ensures.counts s stores, point-free g.K.AsBytes.bytes c.args.prefix.now s c.in-Ok.point answer.0 answer.1)

pub returns-in_default-clause-counts : goal.returns-in_default-clause-counts
returns-in_default-clause-counts g c = λ s stores.
    let w = c.in-Err.ensures.inside s stores in
    let there = way_part g.K.AsBytes.bytes g.row.PREFIX_LEN c.args.prefix.now c.args.reader.now.arena.now _ c.in-Err.ensures.kept c.args.root c.in-Err.conflict.part s stores w.0 in
    let counts = c.in_default.ensures.counts (path_to w.0.ctx) w.0.part there in
    omega (arith, counts, c.in-Err.ensures.counts s stores, part-first g.K.AsBytes.bytes c.args.prefix.now s w.0.ctx w.0.part w.0.toward.place w.0.toward.begins w.1 w.0.conflicts (c.in_default.ensures.value (path_to w.0.ctx) w.0.part there w.0.conflicts))

pub returns-clause-counts : goal.returns-clause-counts
returns-clause-counts g c = λ s stores.
    let w = c.in-Err.ensures.inside s stores in
    let there = way_part g.K.AsBytes.bytes g.row.PREFIX_LEN c.args.prefix.now c.args.reader.now.arena.now _ c.in-Err.ensures.kept c.args.root c.in-Err.conflict.part s stores w.0 in
    let counts = c.in-Some.ensures.counts (path_to w.0.ctx) w.0.part there in
    omega (arith, counts, c.in-Err.ensures.counts s stores, part-both g.K.AsBytes.bytes c.args.prefix.now s w.0.ctx w.0.part w.0.toward.place w.0.toward.begins w.1 w.0.conflicts (c.in-Some.ensures.all (path_to w.0.ctx) w.0.part there w.0.conflicts))
