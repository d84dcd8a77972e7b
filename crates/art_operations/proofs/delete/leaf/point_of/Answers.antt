use Rattle.std.proofs.Common.{arith}
use Rattle.art_arena.proofs.Common.{steps_of}
use Rattle.art_operations.proofs.NamedLeaves.{leaf-held, named-stores, named-place, same-named, bytes-held, not-missed}
use Rattle.art_operations.proofs.delete.leaf.point_of.Goals as goal

pub as_key_ref-requires : goal.as_key_ref-requires
as_key_ref-requires g c = (omega arith, leaf-held g.K.AsBytes.bytes g.row.PREFIX_LEN c.args.arena.now c.args.root c.requires.0 c.requires.2 c.args.leaf c.requires.3)

pub search_for_delete_point-requires : goal.search_for_delete_point-requires
search_for_delete_point-requires g c = (omega arith, (c.requires.0, named-stores g.K.AsBytes.bytes g.row.PREFIX_LEN c.args.arena.now c.args.root c.requires.0 c.requires.2 c.args.leaf c.requires.3))

pub unreachable-requires : goal.unreachable-requires
unreachable-requires g c =
    let s = c.requires.0 in
    let tree = c.requires.2 in
    let there = c.requires.3 in
    let stores = named-stores g.K.AsBytes.bytes g.row.PREFIX_LEN c.args.arena.now c.args.root s tree c.args.leaf there in
    let key = bytes-held g.K.AsBytes.bytes g.row.PREFIX_LEN c.args.arena.now c.args.root s tree c.args.leaf there c.as_key_ref.result.now c.as_bytes.result.now c.as_bytes.ensures.value c.as_key_ref.ensures in
    not-missed g.K.AsBytes.bytes g.row.PREFIX_LEN c.args.arena.now c.args.root s tree c.args.leaf there (rw key at c.in-None.ensures.value s stores)

pub returns-clause-same : goal.returns-clause-same
returns-clause-same g c =
    let s = c.requires.0 in
    let tree = c.requires.2 in
    let there = c.requires.3 in
    let stores = named-stores g.K.AsBytes.bytes g.row.PREFIX_LEN c.args.arena.now c.args.root s tree c.args.leaf there in
    let key = bytes-held g.K.AsBytes.bytes g.row.PREFIX_LEN c.args.arena.now c.args.root s tree c.args.leaf there c.as_key_ref.result.now c.as_bytes.result.now c.as_bytes.ensures.value c.as_key_ref.ensures in
    same-named g.K.AsBytes.bytes g.row.PREFIX_LEN c.args.arena.now c.args.root s tree c.args.leaf there c.in-Some.point.leaf_node_ptr (steps_of c.in-Some.point.path) (rw key at c.in-Some.ensures.place s stores)

pub returns-clause-place : goal.returns-clause-place
returns-clause-place g c = λ s rest tree there.
    let stores = named-stores g.K.AsBytes.bytes g.row.PREFIX_LEN c.args.arena.now c.args.root s tree c.args.leaf there in
    let key = bytes-held g.K.AsBytes.bytes g.row.PREFIX_LEN c.args.arena.now c.args.root s tree c.args.leaf there c.as_key_ref.result.now c.as_bytes.result.now c.as_bytes.ensures.value c.as_key_ref.ensures in
    named-place g.K.AsBytes.bytes g.row.PREFIX_LEN c.args.arena.now c.args.root s tree c.args.leaf there c.in-Some.point.leaf_node_ptr (steps_of c.in-Some.point.path) (rw key at c.in-Some.ensures.place s stores)
