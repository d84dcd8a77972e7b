use Rattle.std.proofs.Common.{◌+◌, sym, arith}
use Rattle.art_operations.proofs.PutBack.{undone}
use Rattle.art_nodes.specs.declared.kind.NodeType.TheVariants.{Leaf}
use Rattle.art_operations.proofs.NewNodes.{fewer, smaller-inner}
use Rattle.art_operations.proofs.delete.detach.take_child.Goals as goal

pub returns-then-not-should_shrink_inner_node-clause-room : goal.returns-then-not-should_shrink_inner_node-clause-room
returns-then-not-should_shrink_inner_node-clause-room g c = λ n room. c.edit_inner.ensures.room n (fewer c.args.arena.now n (n + 1) (omega arith) room)

pub returns-in-Ok-clause-room : goal.returns-in-Ok-clause-room
returns-in-Ok-clause-room g c = λ n room. c.edit_inner-in-Ok.ensures.room n (c.in-Ok.ensures.room n (c.edit_inner.ensures.room _ room))

pub returns-in-Err-clause-err : goal.returns-in-Err-clause-err
returns-in-Err-clause-err g c =
    let h = c.requires.held in
    undone c.args.arena.now c.edit_inner.new.self c.shrink.new.self c.edit_inner-in-Err.new.self c.args.parent h.0 c.args.byte c.args.child h.1 h.2 c.edit_inner.ensures.updates c.in-Err.ensures.err c.edit_inner-in-Err.ensures.updates

pub returns-in-Ok-clause-leaf_room : goal.returns-in-Ok-clause-leaf_room
returns-in-Ok-clause-leaf_room g c = λ n room.
    c.edit_inner-in-Ok.ensures.room_of Leaf n
    (c.in-Ok.ensures.room_of.others Leaf (λ e. smaller-inner c.args.parent.kind c.in-Ok.smaller.kind c.in-Ok.ensures.kind (sym e)) n (c.edit_inner.ensures.room_of Leaf n room))

pub returns-then-not-should_shrink_inner_node-clause-leaf_room : goal.returns-then-not-should_shrink_inner_node-clause-leaf_room
returns-then-not-should_shrink_inner_node-clause-leaf_room g c = λ n room. c.edit_inner.ensures.room_of Leaf n room

pub returns-in-Err-clause-leaf_room : goal.returns-in-Err-clause-leaf_room
returns-in-Err-clause-leaf_room g c = λ n room. c.edit_inner-in-Err.ensures.room_of Leaf n (c.in-Err.ensures.kept_room Leaf n (c.edit_inner.ensures.room_of Leaf n room))
