use Rattle.std.proofs.Common.{◌+◌, ◌++◌, length, sym, ap, ap₂, subst, ◌∙◌, arith}
use Rattle.art_arena.proofs.Common.{all_left, all_right}
use Rattle.art_map.proofs.Terms.{pairs_from}
use Rattle.art_map.proofs.Below.{has-seen}
use Rattle.art_map.proofs.Maps.{AreKeys, make}
use Rattle.art_map.proofs.map.TreeMap.split_into.Goals as goal

pub cut_last-roots-requires : goal.cut_last-roots-requires
cut_last-roots-requires g c = (
  omega arith,
  (
    (pairs_from c.self.inside.arena c.self.inside.root, c.self.invariant.has, rw (← c.self.view_is) at c.requires.long),
    (c.requires.off_long, (c.requires.none, (c.requires.leaves, (rw (← c.self.view_is) at c.requires.inner, c.requires.off_inner)))),
  ),
)

pub invariant_of-self : goal.invariant_of-self
invariant_of-self g c =
    let is = c.cut_last-roots.ensures.cut (pairs_from c.self.inside.arena c.self.inside.root) c.self.invariant.has in
    let keys = subst (AreKeys g.K.AsBytes.is_key) (sym is.joined) c.self.invariant.keys in
    make g.K.AsBytes.bytes g.K.AsBytes.is_key g.row.PREFIX_LEN c.cut_last-roots.new.arena c.cut_last-roots.result.0 is.left is.has (all_left (λ p. g.K.AsBytes.is_key p.0) is.left is.moved keys)

pub invariant_of-result : goal.invariant_of-result
invariant_of-result g c =
    let is = c.cut_last-roots.ensures.cut (pairs_from c.self.inside.arena c.self.inside.root) c.self.invariant.has in
    let keys = subst (AreKeys g.K.AsBytes.is_key) (sym is.joined) c.self.invariant.keys in
    make g.K.AsBytes.bytes g.K.AsBytes.is_key g.row.PREFIX_LEN c.cut_last-roots.new.to c.cut_last-roots.result.1 is.moved is.to_has (all_right (λ p. g.K.AsBytes.is_key p.0) is.left is.moved keys)

pub returns-clause-joined : goal.returns-clause-joined
returns-clause-joined g c =
    let is = c.cut_last-roots.ensures.cut (pairs_from c.self.inside.arena c.self.inside.root) c.self.invariant.has in
    rw (← c.self.view_is)
    (ap₂ (λ xs ys. xs ++ ys) (has-seen g.K.AsBytes.bytes g.row.PREFIX_LEN c.cut_last-roots.new.arena c.cut_last-roots.result.0 is.left is.has) (has-seen g.K.AsBytes.bytes g.row.PREFIX_LEN c.cut_last-roots.new.to c.cut_last-roots.result.1 is.moved is.to_has) ∙ is.joined)

pub returns-clause-moved : goal.returns-clause-moved
returns-clause-moved g c =
    let is = c.cut_last-roots.ensures.cut (pairs_from c.self.inside.arena c.self.inside.root) c.self.invariant.has in
    rw (← c.self.view_is) (ap (λ ps. length ps + c.args.count) (has-seen g.K.AsBytes.bytes g.row.PREFIX_LEN c.cut_last-roots.new.arena c.cut_last-roots.result.0 is.left is.has) ∙ is.long)

pub returns-clause-none_new : goal.returns-clause-none_new
returns-clause-none_new g c = rw (← c.self.view_is) c.cut_last-roots.ensures.names

pub returns-clause-leaf_room : goal.returns-clause-leaf_room
returns-clause-leaf_room g c = rw (← c.self.view_is) c.cut_last-roots.ensures.leaf_room

pub returns-clause-room : goal.returns-clause-room
returns-clause-room g c = rw (← c.self.view_is) c.cut_last-roots.ensures.room
