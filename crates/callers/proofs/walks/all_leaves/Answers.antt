use Rattle.std.proofs.Common.{[], arith}
use Rattle.callers.proofs.TreeRuns.{all-run, stores}
use Rattle.callers.proofs.walks.all_leaves.Goals as goal

pub returns : goal.returns
returns g c = λ s tree.
    let there = stores g.K.AsBytes.bytes 4 c.args.arena.now c.args.root s tree in
    all-run g.K.AsBytes.bytes 4 c.args.arena.now c.args.root s tree c.new-run.result c.first_leaf.result c.last_leaf.result c.leaf_count.result
    (c.first_leaf.ensures [] s there) (c.last_leaf.ensures [] s there) c.new-run.ensures (c.leaf_count.ensures.tree g.K.AsBytes.bytes c.args.root s tree)

pub first_leaf-requires : goal.first_leaf-requires
first_leaf-requires g c =
    let (s, tree) = c.requires in
    (omega arith, ([], s, stores g.K.AsBytes.bytes 4 c.args.arena.now c.args.root s tree))

pub last_leaf-requires : goal.last_leaf-requires
last_leaf-requires g c =
    let (s, tree) = c.requires in
    (omega arith, ([], s, stores g.K.AsBytes.bytes 4 c.args.arena.now c.args.root s tree))
