use Rattle.std.proofs.Common.{◌*◌, ◌-◌, length, sym, ap, subst, ◌∙◌, arith}
use Rattle.art_arena.proofs.Common.{HasRoom}
use Rattle.art_operations.proofs.Common.{same-names}
use Rattle.art_arena.specs.arena.Arena.{HasNoRoom, UsesRoom}
use Rattle.art_map.proofs.RoomKept.{then-uses}
use Rattle.art_map.proofs.RoomUsed.{kept-then}
use Rattle.art_map.specs.Room.{UsesLeafRoom}
use Rattle.art_map.proofs.map.TreeMap.append_by_search.Goals as goal

pub put_pairs-requires : goal.put_pairs-requires
put_pairs-requires g c =
    let all = c.into_iter.ensures.into_iter_gives ∙ ap (λ m. m.pairs) c.replace.ensures.value in (
      omega arith,
      (
        omega arith,
        (c.requires.fits, subst (λ n. HasRoom c.reserve_insertions.new.self.nodes (2 * n)) (c.len.ensures ∙ ap length (sym all)) c.in_ok-reserve_insertions.ensures.room),
      ),
    )

pub returns-clause-names : goal.returns-clause-names
returns-clause-names g c = λ slot key has.
    c.put_pairs.ensures.names slot key (same-names g.K.AsBytes.bytes c.args.self.now.nodes c.reserve_insertions.new.self.nodes c.reserve_insertions.ensures.kept.0 slot key has)

pub returns-clause-leaf_room : goal.returns-clause-leaf_room
returns-clause-leaf_room g c =
    kept-then c.args.self.now.nodes c.reserve_insertions.new.self.nodes c.put_pairs.new.self.nodes _ c.reserve_insertions.ensures.kept.2
    (subst (λ ps. UsesLeafRoom (length c.put_pairs.new.self.pairs - length ps) c.reserve_insertions.new.self.nodes c.put_pairs.new.self.nodes) c.reserve_insertions.ensures.pairs c.put_pairs.ensures.leaf_room)

pub returns-clause-room : goal.returns-clause-room
returns-clause-room g c =
    let all = c.into_iter.ensures.into_iter_gives ∙ ap (λ m. m.pairs) c.replace.ensures.value in
    then-uses c.args.self.now.nodes c.reserve_insertions.new.self.nodes c.put_pairs.new.self.nodes _ c.reserve_insertions.ensures.kept.2
    (subst (λ n. UsesRoom (2 * n) c.reserve_insertions.new.self.nodes c.put_pairs.new.self.nodes) (ap length all) c.put_pairs.ensures.room)

pub returns-clause-freed : goal.returns-clause-freed
returns-clause-freed g c = subst (λ m. HasNoRoom m.nodes) (sym c.replace.ensures.after) c.with_prefix_len-none.ensures.no_room
