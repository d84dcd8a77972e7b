use Rattle.std.proofs.Common.{◌-◌, length, sym, ap, subst, ◌∙◌, arith}
use Rattle.art_nodes.specs.declared.kind.NodeType.TheVariants.{Leaf}
use Rattle.art_operations.proofs.Common.{HasInnerRoom, same-names}
use Rattle.art_arena.specs.arena.Arena.{UsesRoom}
use Rattle.art_map.proofs.RoomKept.{then-uses}
use Rattle.art_map.proofs.map.TreeMap.split_at_once.Goals as goal

pub split_into-requires : goal.split_into-requires
split_into-requires g c =
    let over = c.in_ok-room.ensures.over in
    let long = ap length c.reserve_anew.ensures.pairs in
    let len = c.len.ensures in
    let many = c.requires.many in
    let off = c.in_ok-off_room.ensures.over in (
      omega arith,
      (
        omega arith,
        (
          c.requires.fits,
          (
            (λ n. c.reserve_leaves.ensures.kept n ∙ c.new-arena.ensures.none n),
            (omega (arith, over, long, len, many), (off, (c.in_ok-off_room.ensures.leaves, (c.in_ok-off_room.ensures.inner, subst (HasInnerRoom c.reserve_anew.new.self.nodes) (sym over) c.in_ok-room.ensures.inner)))),
          ),
        ),
      ),
    )

pub returns-clause-none_new : goal.returns-clause-none_new
returns-clause-none_new g c = λ slot key has.
    same-names g.K.AsBytes.bytes c.reserve_anew.new.self.nodes c.args.self.now.nodes (λ n. sym (c.reserve_anew.ensures.kept.0 n)) slot key (c.split_into.ensures.none_new slot key has)

pub returns-clause-leaf_room : goal.returns-clause-leaf_room
returns-clause-leaf_room g c = λ n room. c.split_into.ensures.leaf_room n (c.reserve_anew.ensures.kept.2 Leaf n room)

pub returns-clause-room : goal.returns-clause-room
returns-clause-room g c =
    let over = c.in_ok-room.ensures.over in
    let len = c.len.ensures in
    then-uses c.args.self.now.nodes c.reserve_anew.new.self.nodes c.split_into.new.self.nodes _ c.reserve_anew.ensures.kept.2
    (subst (λ k. UsesRoom k c.reserve_anew.new.self.nodes c.split_into.new.self.nodes) (omega (arith, over, len)) c.split_into.ensures.room)
