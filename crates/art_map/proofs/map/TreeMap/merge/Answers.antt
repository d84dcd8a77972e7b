use Rattle.std.proofs.Common.{◌-◌, length, sym, subst, arith}
use Rattle.art_map.proofs.Terms.{with_pairs_put, pairs_from}
use Rattle.art_map.proofs.Below.{has-seen}
use Rattle.art_map.proofs.Maps.{make}
use Rattle.art_map.specs.Room.{UsesLeafRoom}
use Rattle.art_map.proofs.map.TreeMap.merge.Goals as goal

pub merge_leaves-root-requires : goal.merge_leaves-root-requires
merge_leaves-root-requires g c = (
  omega arith,
  (
    omega arith,
    (
      (pairs_from c.self.inside.arena c.self.inside.root, c.self.invariant.has, c.self.invariant.keys, rw (← c.self.view_is) at c.requires.over),
      (c.requires.ordered, (rw (← c.self.view_is) at c.requires.leaves, rw (← c.self.view_is) at c.requires.inner)),
    ),
  ),
)

pub invariant_of-self : goal.invariant_of-self
invariant_of-self g c =
    let tree = c.merge_leaves-root.ensures.tree (pairs_from c.self.inside.arena c.self.inside.root) c.self.invariant.has c.self.invariant.keys in
    make g.K.AsBytes.bytes g.K.AsBytes.is_key g.row.PREFIX_LEN c.merge_leaves-root.new.arena c.merge_leaves-root.result (with_pairs_put g.K.AsBytes.bytes c.args.pairs (pairs_from c.self.inside.arena c.self.inside.root)) tree.0 tree.1

pub returns-clause-pairs : goal.returns-clause-pairs
returns-clause-pairs g c =
    let tree = c.merge_leaves-root.ensures.tree (pairs_from c.self.inside.arena c.self.inside.root) c.self.invariant.has c.self.invariant.keys in
    rw (← c.self.view_is)
    (has-seen g.K.AsBytes.bytes g.row.PREFIX_LEN c.merge_leaves-root.new.arena c.merge_leaves-root.result (with_pairs_put g.K.AsBytes.bytes c.args.pairs (pairs_from c.self.inside.arena c.self.inside.root)) tree.0)

pub returns-clause-names : goal.returns-clause-names
returns-clause-names g c = rw (← c.self.view_is) c.merge_leaves-root.ensures.names

pub returns-clause-leaf_room : goal.returns-clause-leaf_room
returns-clause-leaf_room g c =
    let had = pairs_from c.self.inside.arena c.self.inside.root in
    let tree = c.merge_leaves-root.ensures.tree had c.self.invariant.has c.self.invariant.keys in
    rw (← c.self.view_is)
    (subst (λ ps. UsesLeafRoom (length ps - length had) c.self.inside.arena c.merge_leaves-root.new.arena)
    (sym (has-seen g.K.AsBytes.bytes g.row.PREFIX_LEN c.merge_leaves-root.new.arena c.merge_leaves-root.result (with_pairs_put g.K.AsBytes.bytes c.args.pairs had) tree.0))
    (c.merge_leaves-root.ensures.leaf_room had c.self.invariant.has c.self.invariant.keys))

pub returns-clause-room : goal.returns-clause-room
returns-clause-room g c =
    rw (← c.self.view_is)
    (c.merge_leaves-root.ensures.room (pairs_from c.self.inside.arena c.self.inside.root) c.self.invariant.has c.self.invariant.keys (rw (← c.self.view_is) at c.requires.over))
