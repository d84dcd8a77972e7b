use Rattle.std.proofs.Common.{[], arith}
use Rattle.art_arena.proofs.Common.{node_at, nodes-subtree}
use Rattle.art_operations.proofs.ClonedTrees.{cloned-tree}
use Rattle.art_operations.proofs.clone.clone_unchecked.Goals as goal

pub first_leaf-min_leaf-requires : goal.first_leaf-min_leaf-requires
first_leaf-min_leaf-requires g c =
    let r = c.requires.tree in
    let t = cloned-tree g.K.Clone.is_clone g.V.Clone.is_clone g.K.AsBytes.bytes c.requires.keys g.row.PREFIX_LEN c.args.arena.now c.in_ok-copy.copy c.in_ok-copy.ensures.clones c.args.root r.0 r.1 in
    (omega arith, ([], t.shape, nodes-subtree g.K.AsBytes.bytes g.row.PREFIX_LEN (node_at c.in_ok-copy.copy) c.args.root t.shape t.is_tree.nodes))

pub last_leaf-max_leaf-requires : goal.last_leaf-max_leaf-requires
last_leaf-max_leaf-requires g c =
    let r = c.requires.tree in
    let t = cloned-tree g.K.Clone.is_clone g.V.Clone.is_clone g.K.AsBytes.bytes c.requires.keys g.row.PREFIX_LEN c.args.arena.now c.in_ok-copy.copy c.in_ok-copy.ensures.clones c.args.root r.0 r.1 in
    (omega arith, ([], t.shape, nodes-subtree g.K.AsBytes.bytes g.row.PREFIX_LEN (node_at c.in_ok-copy.copy) c.args.root t.shape t.is_tree.nodes))

pub returns : goal.returns
returns g c = λ s tree.
    let t = cloned-tree g.K.Clone.is_clone g.V.Clone.is_clone g.K.AsBytes.bytes c.requires.keys g.row.PREFIX_LEN c.args.arena.now c.in_ok-copy.copy c.in_ok-copy.ensures.clones c.args.root s tree in
    let sub = nodes-subtree g.K.AsBytes.bytes g.row.PREFIX_LEN (node_at c.in_ok-copy.copy) c.args.root t.shape t.is_tree.nodes in
    record {
      shape = t.shape;
      is_tree = t.is_tree;
      clone = t.clone;
      first = c.first_leaf-min_leaf.ensures [] t.shape sub;
      last = c.last_leaf-max_leaf.ensures [] t.shape sub;
    }
