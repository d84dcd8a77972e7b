use Rattle.std.proofs.Common.{refl, ◌∙◌, lit<}
use Rattle.art_operations.proofs.FreedAll.{left-start, left-step, left-end}
use Rattle.art_operations.proofs.deallocate.free_nodes.Goals as goal

pub free-init : goal.free-init
free-init g c = record {
  left = λ s rest part. left-start g.row.PREFIX_LEN c.args.with_leaves c.args.arena.now c.args.root s rest part;
  room_of = λ kind n room. room;
  capacity = refl;
}

pub free_one-requires : goal.free_one-requires
free_one-requires g c =
    let r = c.requires in
    let left = c.free.invariant.left r.0 r.1 r.2 in
    (lit< tt, (left.part, r.1, left.holds))

pub free-smaller : goal.free-smaller
free-smaller g c =
    let r = c.requires in
    let left = c.free.invariant.left r.0 r.1 r.2 in
    (left-step g.row.PREFIX_LEN c.args.with_leaves c.args.arena.now c.free.arena c.free_one.new.arena r.0 c.free.current c.in-Some.left.root _ _ r.1 left c.saturating_add-count.ensures (c.in-Some.ensures.freed left.part r.1 left.holds) (c.free_one.ensures.kept left.part r.1 left.holds)).1

pub free-preserved : goal.free-preserved
free-preserved g c = record {
  left = λ s rest part. let left = c.free.invariant.left s rest part in
      (left-step g.row.PREFIX_LEN c.args.with_leaves c.args.arena.now c.free.arena c.free_one.new.arena s c.free.current c.in-Some.left.root _ _ rest left
      c.saturating_add-count.ensures (c.in-Some.ensures.freed left.part rest left.holds) (c.free_one.ensures.kept left.part rest left.holds)).0;
  room_of = λ kind n room. c.free_one.ensures.room_of kind n (c.free.invariant.room_of kind n room);
  capacity = c.free_one.ensures.capacity ∙ c.free.invariant.capacity;
}

pub returns-in-None-clause-kept : goal.returns-in-None-clause-kept
returns-in-None-clause-kept g c = λ s rest part.
    let left = c.free.invariant.left s rest part in
    left-end g.row.PREFIX_LEN c.args.with_leaves c.args.arena.now c.free.arena c.free_one.new.arena s c.free.current _ rest left (c.free_one.ensures.kept left.part rest left.holds)

pub returns-in-None-clause-room_of : goal.returns-in-None-clause-room_of
returns-in-None-clause-room_of g c = λ kind n room. c.free_one.ensures.room_of kind n (c.free.invariant.room_of kind n room)

pub returns-in-None-clause-capacity : goal.returns-in-None-clause-capacity
returns-in-None-clause-capacity g c = c.free_one.ensures.capacity ∙ c.free.invariant.capacity
