use Rattle.std.proofs.Common.{◌++◌, ◌∙◌, inr, lit<}
use Rattle.art_operations.proofs.Terms.{cells_with}
use Rattle.art_operations.proofs.Hanging.{both-other, bottom-part, hung-alone, kept-alone, above_node, above_there, above_child, above_inner, hung-below, kept-below}
use Rattle.art_operations.proofs.deallocate.hang.Goals as goal

pub find_bottom-bottom-requires : goal.find_bottom-bottom-requires
find_bottom-bottom-requires g c =
    let r = c.requires in
    (lit< tt, (c.args.with_leaves, r.1, cells_with g.row.PREFIX_LEN c.args.with_leaves r.0 ++ r.2, both-other g.row.PREFIX_LEN c.args.with_leaves c.args.arena.now c.args.node r.0 c.args.below r.1 r.2 r.3))

pub free_node-requires : goal.free_node-requires
free_node-requires g c =
    let r = c.requires in
    let part = both-other g.row.PREFIX_LEN c.args.with_leaves c.args.arena.now c.args.node r.0 c.args.below r.1 r.2 r.3 in
    let b = c.find_bottom-bottom.ensures c.args.with_leaves r.1 (cells_with g.row.PREFIX_LEN c.args.with_leaves r.0 ++ r.2) part in
    let end = bottom-part g.row.PREFIX_LEN c.args.with_leaves c.args.arena.now c.args.below r.1 (cells_with g.row.PREFIX_LEN c.args.with_leaves r.0 ++ r.2) part c.find_bottom-bottom.result b in
    (lit< tt, (b.end, _, end))

pub edit_inner-requires : goal.edit_inner-requires
edit_inner-requires g c =
    let r = c.requires in
    let place = c.in-Some.place in
    rw c.in-Some.is (
      lit< tt,
      (
        lit< tt,
        (
          (
            above_node g.row.PREFIX_LEN c.args.with_leaves c.args.arena.now c.free_node.new.arena r.0 r.1 c.args.node c.args.below
                r.2 r.3 c.find_bottom-bottom.result (c.find_bottom-bottom.ensures c.args.with_leaves) c.free_node.ensures.freed place c.in-Some.is,
            above_there g.row.PREFIX_LEN c.args.with_leaves c.args.arena.now c.free_node.new.arena r.0 r.1 c.args.node c.args.below r.2 r.3
                c.find_bottom-bottom.result (c.find_bottom-bottom.ensures c.args.with_leaves) c.free_node.ensures.freed place c.in-Some.is,
            inr (above_child g.row.PREFIX_LEN c.args.with_leaves c.args.arena.now c.free_node.new.arena r.0 r.1 c.args.node c.args.below r.2 r.3
                c.find_bottom-bottom.result (c.find_bottom-bottom.ensures c.args.with_leaves) c.free_node.ensures.freed place c.in-Some.is),
          ),
          above_inner g.row.PREFIX_LEN c.args.with_leaves c.args.arena.now c.free_node.new.arena r.0 r.1 c.args.node c.args.below r.2 r.3
              c.find_bottom-bottom.result (c.find_bottom-bottom.ensures c.args.with_leaves) c.free_node.ensures.freed place c.in-Some.is,
        ),
      ),
    )

pub returns-in-None-clause-freed : goal.returns-in-None-clause-freed
returns-in-None-clause-freed g c = λ s t rest both.
    hung-alone g.row.PREFIX_LEN c.args.with_leaves c.args.arena.now c.free_node.new.arena s t c.args.node c.args.below rest both c.find_bottom-bottom.result (c.find_bottom-bottom.ensures c.args.with_leaves) c.free_node.ensures.freed c.in-None.is

pub returns-in-None-clause-kept : goal.returns-in-None-clause-kept
returns-in-None-clause-kept g c = λ s t rest both.
    kept-alone g.row.PREFIX_LEN c.args.with_leaves c.args.arena.now c.free_node.new.arena s t c.args.node c.args.below rest both c.find_bottom-bottom.result (c.find_bottom-bottom.ensures c.args.with_leaves) c.free_node.ensures.freed

pub returns-in-Some-clause-freed : goal.returns-in-Some-clause-freed
returns-in-Some-clause-freed g c = λ s t rest both.
    let place = c.in-Some.place in
    let updates = rw c.in-Some.is at (c.edit_inner.ensures.updates) in
    let written = updates (above_node g.row.PREFIX_LEN c.args.with_leaves c.args.arena.now c.free_node.new.arena s t c.args.node c.args.below rest both
    c.find_bottom-bottom.result (c.find_bottom-bottom.ensures c.args.with_leaves) c.free_node.ensures.freed place c.in-Some.is)
    (above_there g.row.PREFIX_LEN c.args.with_leaves c.args.arena.now c.free_node.new.arena s t c.args.node c.args.below rest both
    c.find_bottom-bottom.result (c.find_bottom-bottom.ensures c.args.with_leaves) c.free_node.ensures.freed place c.in-Some.is) in
    hung-below g.row.PREFIX_LEN c.args.with_leaves c.args.arena.now c.free_node.new.arena s t c.args.node c.args.below rest both c.find_bottom-bottom.result (c.find_bottom-bottom.ensures c.args.with_leaves) c.free_node.ensures.freed place c.in-Some.is c.edit_inner.new.self written

pub returns-in-Some-clause-kept : goal.returns-in-Some-clause-kept
returns-in-Some-clause-kept g c = λ s t rest both.
    let place = c.in-Some.place in
    let updates = rw c.in-Some.is at (c.edit_inner.ensures.updates) in
    let written = updates (above_node g.row.PREFIX_LEN c.args.with_leaves c.args.arena.now c.free_node.new.arena s t c.args.node c.args.below rest both
    c.find_bottom-bottom.result (c.find_bottom-bottom.ensures c.args.with_leaves) c.free_node.ensures.freed place c.in-Some.is)
    (above_there g.row.PREFIX_LEN c.args.with_leaves c.args.arena.now c.free_node.new.arena s t c.args.node c.args.below rest both
    c.find_bottom-bottom.result (c.find_bottom-bottom.ensures c.args.with_leaves) c.free_node.ensures.freed place c.in-Some.is) in
    kept-below g.row.PREFIX_LEN c.args.with_leaves c.args.arena.now c.free_node.new.arena s t c.args.node c.args.below rest both c.find_bottom-bottom.result (c.find_bottom-bottom.ensures c.args.with_leaves) c.free_node.ensures.freed place c.in-Some.is c.edit_inner.new.self written

pub returns-in-Some-clause-room_of : goal.returns-in-Some-clause-room_of
returns-in-Some-clause-room_of g c = λ kind n room. c.edit_inner.ensures.room_of kind n (c.free_node.ensures.room_of kind n room)

pub returns-in-Some-clause-capacity : goal.returns-in-Some-clause-capacity
returns-in-Some-clause-capacity g c = c.edit_inner.ensures.capacity ∙ c.free_node.ensures.capacity
