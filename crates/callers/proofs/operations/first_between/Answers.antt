use Rattle.std.proofs.Common.{arith}
use Rattle.std.specs.BTreeMap.Range.{range_contains}
use Rattle.std.specs.Range.Bound.{bound_map}
use Rattle.art_bytes.proofs.Common.{bytes_cmp}
use Rattle.art_arena.proofs.Common.{node_at, leaves, nodes-subtree}
use Rattle.art_operations.proofs.Common.{leaf-held}
use Rattle.callers.proofs.FirstLeaf.{first-passing, key-passes}
use Rattle.callers.proofs.operations.first_between.Goals as goal

pub as_key_ref-requires : goal.as_key_ref-requires
as_key_ref-requires g c =
    let (s, tree) = c.requires in
    let found = (c.in-Some.ensures s (nodes-subtree g.K.AsBytes.bytes g.row.PREFIX_LEN (node_at c.args.arena.now) c.args.root s tree.nodes) tree.linked).0 in
    let there = first-passing g.K.AsBytes.bytes (λ k. range_contains bytes_cmp (bound_map (λ key. key.now) c.args.start) (bound_map (λ key. key.now) c.args.end) k) (leaves s) _ found in
    (omega arith, leaf-held g.K.AsBytes.bytes g.row.PREFIX_LEN c.args.arena.now c.args.root s tree _ there.0)

pub returns-in-Some : goal.returns-in-Some
returns-in-Some g c =
    let (s, tree) = c.requires in
    let found = (c.in-Some.ensures s (nodes-subtree g.K.AsBytes.bytes g.row.PREFIX_LEN (node_at c.args.arena.now) c.args.root s tree.nodes) tree.linked).0 in
    key-passes g.K.AsBytes.bytes (λ k. range_contains bytes_cmp (bound_map (λ key. key.now) c.args.start) (bound_map (λ key. key.now) c.args.end) k) g.row.PREFIX_LEN c.args.arena.now c.args.root s tree _ found c.as_key_ref.result.now c.as_key_ref.ensures

pub find_range_segment-requires : goal.find_range_segment-requires
find_range_segment-requires g c =
    let (s, tree) = c.requires in
    (omega arith, (s, nodes-subtree g.K.AsBytes.bytes g.row.PREFIX_LEN (node_at c.args.arena.now) c.args.root s tree.nodes, tree.linked))
