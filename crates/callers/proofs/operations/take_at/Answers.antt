use Rattle.std.proofs.Common.{[], arith}
use Rattle.art_arena.proofs.Common.{node_at, nodes-subtree}
use Rattle.callers.proofs.operations.take_at.Goals as goal

pub apply-requires : goal.apply-requires
apply-requires g c =
    let (s, tree) = c.requires in
    let found = c.in-Some.ensures.place s (nodes-subtree g.K.AsBytes.bytes g.row.PREFIX_LEN (node_at c.args.arena.now) c.args.root s tree.nodes) in
    (omega arith, (s, [], tree, record { ctx = found.ctx; key = found.leaf_key; value = found.value; place = found.place; steps = found.steps }))

pub returns-clause-ok : goal.returns-clause-ok
returns-clause-ok g c = λ s tree.
    let found = c.in-Some.ensures.place s (nodes-subtree g.K.AsBytes.bytes g.row.PREFIX_LEN (node_at c.args.arena.now) c.args.root s tree.nodes) in
    (c.in-Some.point.leaf_node_ptr, c.in_ok-deleted.ensures.ok s [] tree (record { ctx = found.ctx; key = found.leaf_key; value = found.value; place = found.place; steps = found.steps }))
