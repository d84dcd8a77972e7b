use Rattle.std.proofs.Common.{arith}
use Rattle.art_arena.proofs.Common.{node_at, leaves, begins_with, nodes-subtree}
use Rattle.art_operations.proofs.Common.{leaf-held}
use Rattle.callers.proofs.FirstLeaf.{first-passing, key-passes}
use Rattle.callers.proofs.operations.first_under_prefix.Goals as goal

pub as_key_ref-requires : goal.as_key_ref-requires
as_key_ref-requires g c =
    let (s, tree) = c.requires in
    let found = (c.in-Some.ensures s (nodes-subtree g.K.AsBytes.bytes g.row.PREFIX_LEN (node_at c.args.arena.now) c.args.root s tree.nodes)).0 in
    let there = first-passing g.K.AsBytes.bytes (λ k. begins_with c.args.prefix.now k) (leaves s) _ found in
    (omega arith, leaf-held g.K.AsBytes.bytes g.row.PREFIX_LEN c.args.arena.now c.args.root s tree _ there.0)

pub returns-in-Some : goal.returns-in-Some
returns-in-Some g c =
    let (s, tree) = c.requires in
    let found = (c.in-Some.ensures s (nodes-subtree g.K.AsBytes.bytes g.row.PREFIX_LEN (node_at c.args.arena.now) c.args.root s tree.nodes)).0 in
    key-passes g.K.AsBytes.bytes (λ k. begins_with c.args.prefix.now k) g.row.PREFIX_LEN c.args.arena.now c.args.root s tree _ found c.as_key_ref.result.now c.as_key_ref.ensures
