use Rattle.std.proofs.Common.{arith}
use Rattle.art_nodes.specs.declared.kind.NodeType.TheVariants.{Leaf}
use Rattle.art_operations.proofs.LeafListsParted.{inserted, stored-parted}
use Rattle.art_operations.proofs.leaf_list.LeafCursor.insert.Goals as goal

pub set_next_of_before-requires : goal.set_next_of_before-requires
set_next_of_before-requires g c =
    let r = c.requires in
    (omega arith, (r.0, _, _, r.1, stored-parted c.args.arena.now c.store.new.arena c.args.self.now c.in_ok-leaf.leaf c.args.key c.args.value c.in_ok-leaf.ensures.ok r.0 r.1 r.2))

pub set_previous_of_after-requires : goal.set_previous_of_after-requires
set_previous_of_after-requires g c =
    let r = c.requires in
    let stored = stored-parted c.args.arena.now c.store.new.arena c.args.self.now c.in_ok-leaf.leaf c.args.key c.args.value c.in_ok-leaf.ensures.ok r.0 r.1 r.2 in
    (omega arith, (r.0, _, _, r.1, c.set_next_of_before.ensures.parted r.0 _ _ r.1 stored))

pub returns-clause-ok : goal.returns-clause-ok
returns-clause-ok g c = λ front back stands.
    let stored = stored-parted c.args.arena.now c.store.new.arena c.args.self.now c.in_ok-leaf.leaf c.args.key c.args.value c.in_ok-leaf.ensures.ok front back stands in
    let led = c.set_next_of_before.ensures.parted front _ _ back stored in
    let both = c.set_previous_of_after.ensures.parted front _ _ back led in
    inserted c.args.arena.now c.store.new.arena c.args.self.now c.in_ok-leaf.leaf c.args.key c.args.value c.in_ok-leaf.ensures.ok front back stands c.set_next_of_before.new.arena c.set_previous_of_after.new.arena c.set_next_of_before.new.self
    c.set_next_of_before.ensures.cells c.set_previous_of_after.ensures.cells both c.set_next_of_before.ensures.others c.set_previous_of_after.ensures.others

pub returns-clause-room_of : goal.returns-clause-room_of
returns-clause-room_of g c = record {
  own = λ n room. c.set_previous_of_after.ensures.room_of Leaf n (c.set_next_of_before.ensures.room_of Leaf n (c.in_ok-leaf.ensures.room_of.own n room));
  others = λ kind other n room. c.set_previous_of_after.ensures.room_of kind n (c.set_next_of_before.ensures.room_of kind n (c.in_ok-leaf.ensures.room_of.others kind other n room));
}
