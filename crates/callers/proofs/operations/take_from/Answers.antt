use Rattle.std.proofs.Common.{[], sym, arith}
use Rattle.std.specs.BTreeMap.Range.{is_from_start}
use Rattle.std.specs.declared.ops.Bound.TheVariants.{Included}
use Rattle.art_bytes.proofs.Common.{bytes_cmp}
use Rattle.art_arena.proofs.Common.{node_at, leaves, nodes-subtree}
use Rattle.callers.proofs.FirstLeaf.{first-passing}
use Rattle.callers.proofs.operations.take_from.Goals as goal

pub take_leaf-requires : goal.take_leaf-requires
take_leaf-requires g c =
    let (s, tree) = c.requires in
    let stores = nodes-subtree g.K.AsBytes.bytes g.row.PREFIX_LEN (node_at c.args.arena.now) c.args.root s tree.nodes in
    let there = first-passing g.K.AsBytes.bytes (λ k. is_from_start bytes_cmp (Included c.args.key.now) k) (leaves s) c.in-Some.leaf (sym (c.in-Some.ensures s stores tree.linked)) in
    (omega arith, (s, [], tree, there.0))

pub returns-clause-ok : goal.returns-clause-ok
returns-clause-ok g c = λ s tree.
    let stores = nodes-subtree g.K.AsBytes.bytes g.row.PREFIX_LEN (node_at c.args.arena.now) c.args.root s tree.nodes in
    let there = first-passing g.K.AsBytes.bytes (λ k. is_from_start bytes_cmp (Included c.args.key.now) k) (leaves s) c.in-Some.leaf (sym (c.in-Some.ensures s stores tree.linked)) in
    (c.in-Some.leaf, c.in_ok-deleted.ensures.ok s [] tree there.0)
