use Rattle.std.proofs.Common.{◌++◌, length, sym, ap, ap₂, ◌∙◌, arith}
use Rattle.std.proofs.lemmas.List.{append-nil}
use Rattle.art_nodes.specs.declared.kind.NodeType.TheVariants.{Leaf}
use Rattle.art_operations.proofs.Common.{same-names}
use Rattle.art_map.proofs.RoomKept.{then-uses}
use Rattle.art_map.proofs.map.TreeMap.split_by_ends.Goals as goal

pub move_last-requires : goal.move_last-requires
move_last-requires g c =
    let many = c.requires.many in
    let none = c.reserve_insertions.ensures.pairs ∙ c.with_prefix_len-off.ensures.pairs in
    let long = ap length c.reserve_removals.ensures.pairs in (
      omega arith,
      (
        omega (arith, many, long),
        (
          rw (none, append-nil c.reserve_removals.new.self.pairs, c.reserve_removals.ensures.pairs) c.nodes-root.ensures.ordered,
          (c.in_ok-reserve_removals.ensures.room, c.in_ok-reserve_insertions.ensures.room),
        ),
      ),
    )

pub returns-clause-joined : goal.returns-clause-joined
returns-clause-joined g c =
    c.move_last.ensures.joined ∙ ap₂ (λ xs ys. xs ++ ys) c.reserve_removals.ensures.pairs (c.reserve_insertions.ensures.pairs ∙ c.with_prefix_len-off.ensures.pairs) ∙ append-nil c.args.self.now.pairs

pub returns-clause-moved : goal.returns-clause-moved
returns-clause-moved g c = c.move_last.ensures.moved ∙ ap length c.reserve_removals.ensures.pairs

pub returns-clause-none_new : goal.returns-clause-none_new
returns-clause-none_new g c = λ slot key has.
    same-names g.K.AsBytes.bytes c.reserve_removals.new.self.nodes c.args.self.now.nodes (λ n. sym (c.reserve_removals.ensures.kept.0 n)) slot key (c.move_last.ensures.none_new slot key has)

pub returns-clause-leaf_room : goal.returns-clause-leaf_room
returns-clause-leaf_room g c = λ n room. c.move_last.ensures.leaf_room n (c.reserve_removals.ensures.kept.2 Leaf n room)

pub returns-clause-room : goal.returns-clause-room
returns-clause-room g c =
    then-uses c.args.self.now.nodes c.reserve_removals.new.self.nodes c.move_last.new.self.nodes _ c.reserve_removals.ensures.kept.2 c.move_last.ensures.from_room
