use Rattle.std.proofs.Common.{◌+◌, subst, arith}
use Rattle.art_nodes.specs.declared.kind.NodeType.TheVariants.{Leaf}
use Rattle.art_arena.proofs.Common.{HasRoomOf}
use Rattle.art_operations.proofs.LeafListsMoved.{none-moved, one-more}
use Rattle.art_operations.proofs.leaf_list.move_leaves.Goals as goal

pub loop-init : goal.loop-init
loop-init g c = record {
  moved = λ ls stands. none-moved c.args.from.now c.args.cursor.now c.args.to.now ls c.requires.none stands;
  none_new = λ n cell there. there;
  room_of = λ kind n room. room;
  leaf_room = λ n room. omega (arith, room);
  used = λ n room. omega (arith, room);
  room = let room = c.requires.room in omega (arith, room);
  kept_room = λ kind other n room. room;
}

pub move_leaf-first-requires : goal.move_leaf-first-requires
move_leaf-first-requires g c =
    let r = c.requires.list in
    let is = c.loop.invariant.moved r.0 r.1 in
    let long = is.long in
    let many = r.2 in
    let room = c.loop.invariant.room in (
      omega arith,
      (
        (is.left, is.stands, omega (arith, long, many)),
        ((is.moved, is.held), omega (arith, room)),
      ),
    )

pub loop-preserved : goal.loop-preserved
loop-preserved g c =
    let kept = c.loop.invariant in record {
      moved = λ ls stands.
          let is = kept.moved ls stands in
          one-more c.move_leaf-first.new.from c.move_leaf-first.new.to c.move_leaf-first.new.cursor c.move_leaf-first.result c.loop.counter ls is.left is.moved is.joined is.long (c.move_leaf-first.ensures.moved is.left is.moved is.stands is.held);
      none_new = λ n cell there. kept.none_new n cell (c.move_leaf-first.ensures.none_new n cell there);
      room_of = λ kind n room. c.move_leaf-first.ensures.room_of kind n (kept.room_of kind n room);
      leaf_room = λ n room. let freed = c.move_leaf-first.ensures.leaf_room _ (kept.leaf_room n room) in omega (arith, freed);
      used = λ n room.
          let before : HasRoomOf c.args.to.now Leaf ((n + 1) + c.loop.counter) = omega (arith, room) in
          let still : HasRoomOf c.loop.to Leaf (n + 1) = (let at = kept.used (n + 1) before in omega (arith, at)) in
          let now = c.move_leaf-first.ensures.used.own n still in omega (arith, now);
      room = c.move_leaf-first.ensures.used.own _ (subst (HasRoomOf c.loop.to Leaf) (omega arith) kept.room);
      kept_room = λ kind other n room. c.move_leaf-first.ensures.used.others kind other n (kept.kept_room kind other n room);
    }

pub returns-clause-leaf_room : goal.returns-clause-leaf_room
returns-clause-leaf_room g c = λ n room. let freed = c.loop.invariant.leaf_room n room in omega (arith, freed)

pub returns-clause-used : goal.returns-clause-used
returns-clause-used g c = λ n room.
    let before : HasRoomOf c.args.to.now Leaf (n + c.loop.counter) = omega (arith, room) in
    let left = c.loop.invariant.used n before in
    omega (arith, left)
