use Rattle.std.proofs.Common.{◌-◌, ◌+◌, ◌*◌, length, sym, ap, subst, ◌∙◌, arith}
use Rattle.art_nodes.specs.declared.kind.NodeType.TheVariants.{Leaf}
use Rattle.art_arena.proofs.Common.{HasRoomOf, key_of, AscendsByKey}
use Rattle.art_operations.proofs.Common.{HasInnerRoom, same-names}
use Rattle.art_arena.specs.arena.Arena.{HasNoRoom, UsesRoom}
use Rattle.art_map.proofs.RoomKept.{then-uses}
use Rattle.art_map.proofs.RoomUsed.{kept-then}
use Rattle.art_map.specs.Room.{UsesLeafRoom}
use Rattle.art_map.proofs.map.TreeMap.append_at_once.Goals as goal

pub merge-requires : goal.merge-requires
merge-requires g c =
    let all = c.into_iter.ensures.into_iter_gives ∙ ap (λ m. m.pairs) c.replace.ensures.value in
    let long = ap length all in
    let same = ap length c.reserve_anew.ensures.pairs in
    let over = c.in_ok-room.ensures.over in
    let added = c.in-Some.ensures in (
      omega arith,
      (
        omega arith,
        (
          subst (AscendsByKey (key_of g.K.AsBytes.bytes)) (sym all) c.nodes-root.ensures.ordered,
          (
            subst (HasRoomOf c.reserve_anew.new.self.nodes Leaf) (c.len-more.ensures ∙ sym long) c.in_ok-room.ensures.leaves,
            (omega (arith, long, same, over, added), subst (HasInnerRoom c.reserve_anew.new.self.nodes) (sym over) c.in_ok-room.ensures.inner),
          ),
        ),
      ),
    )

pub returns-clause-names : goal.returns-clause-names
returns-clause-names g c = λ slot key has.
    c.merge.ensures.names slot key (same-names g.K.AsBytes.bytes c.args.self.now.nodes c.reserve_anew.new.self.nodes c.reserve_anew.ensures.kept.0 slot key has)

pub returns-clause-leaf_room : goal.returns-clause-leaf_room
returns-clause-leaf_room g c =
    kept-then c.args.self.now.nodes c.reserve_anew.new.self.nodes c.merge.new.self.nodes _ c.reserve_anew.ensures.kept.2
    (subst (λ ps. UsesLeafRoom (length c.merge.new.self.pairs - length ps) c.reserve_anew.new.self.nodes c.merge.new.self.nodes) c.reserve_anew.ensures.pairs c.merge.ensures.leaf_room)

pub returns-clause-room : goal.returns-clause-room
returns-clause-room g c =
    let all = c.into_iter.ensures.into_iter_gives ∙ ap (λ m. m.pairs) c.replace.ensures.value in
    then-uses c.args.self.now.nodes c.reserve_anew.new.self.nodes c.merge.new.self.nodes _ c.reserve_anew.ensures.kept.2
    (subst (λ k. UsesRoom (k - 1 + 2 * length c.args.other.now.pairs) c.reserve_anew.new.self.nodes c.merge.new.self.nodes) (ap length c.reserve_anew.ensures.pairs)
    (subst (λ k. UsesRoom (length c.reserve_anew.new.self.pairs - 1 + 2 * k) c.reserve_anew.new.self.nodes c.merge.new.self.nodes) (ap length all) c.merge.ensures.room))

pub returns-clause-freed : goal.returns-clause-freed
returns-clause-freed g c = subst (λ m. HasNoRoom m.nodes) (sym c.replace.ensures.after) c.with_prefix_len-none.ensures.no_room
