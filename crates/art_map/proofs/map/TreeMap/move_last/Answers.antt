use Rattle.std.proofs.Common.{refl, sym, subst, ◌∙◌, ◌+◌, ◌-◌, ◌*◌, arith}
use Rattle.art_nodes.specs.declared.kind.NodeType.TheVariants.{Leaf}
use Rattle.art_arena.proofs.Common.{HasRoom, HasRoomOf, key_of, AscendsByKey}
use Rattle.art_operations.proofs.NewNodes.{fewer}
use Rattle.art_map.proofs.LeafNames.{then-names}
use Rattle.art_map.proofs.map.TreeMap.move_last.Goals as goal

pub loop-init : goal.loop-init
loop-init g c = record {
  joined = refl;
  moved = omega arith;
  none_new = λ slot key has. has;
  leaf_room = λ n room. subst (HasRoomOf c.args.self.now.nodes Leaf) (omega arith) room;
  from_room = λ n room. subst (HasRoom c.args.self.now.nodes) (omega arith) room;
  to_room = subst (HasRoom c.args.to.now.nodes) (omega arith) c.requires.to_room;
}

pub move_pair-requires : goal.move_pair-requires
move_pair-requires g c =
    let kept = c.loop.invariant in
    let moved = kept.moved in
    let many = c.requires.many in (
      omega arith,
      (
        omega (arith, moved, many),
        (
          subst (AscendsByKey (key_of g.K.AsBytes.bytes)) (sym kept.joined) c.requires.ordered,
          (
            kept.from_room 1 (fewer c.args.self.now.nodes (1 + c.loop.counter) c.args.count (omega arith) c.requires.from_room),
            fewer c.loop.to.nodes 2 (2 * (c.args.count - c.loop.counter)) (omega arith) kept.to_room,
          ),
        ),
      ),
    )

pub loop-preserved : goal.loop-preserved
loop-preserved g c =
    let kept = c.loop.invariant in
    let moved = kept.moved in
    let one = c.move_pair.ensures.moved in record {
      joined = c.move_pair.ensures.joined ∙ kept.joined;
      moved = omega (arith, moved, one);
      none_new = then-names g.K.AsBytes.bytes c.args.self.now.nodes c.loop.self.nodes c.move_pair.new.self.nodes kept.none_new c.move_pair.ensures.none_new;
      leaf_room = λ n room. subst (HasRoomOf c.move_pair.new.self.nodes Leaf) (omega arith) (c.move_pair.ensures.leaf_room (n + c.loop.counter) (kept.leaf_room n room));
      from_room = λ n room. c.move_pair.ensures.from_room n (kept.from_room (n + 1) (subst (HasRoom c.args.self.now.nodes) (omega arith) room));
      to_room = c.move_pair.ensures.to_room _ (subst (HasRoom c.loop.to.nodes) (omega arith) kept.to_room);
    }

pub returns-clause-leaf_room : goal.returns-clause-leaf_room
returns-clause-leaf_room g c = λ n room. let kept = c.loop.invariant.leaf_room n room in omega (arith, kept)

pub returns-clause-from_room : goal.returns-clause-from_room
returns-clause-from_room g c = λ n room. c.loop.invariant.from_room n (subst (HasRoom c.args.self.now.nodes) (omega arith) room)
