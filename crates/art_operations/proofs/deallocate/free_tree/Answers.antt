use Rattle.std.proofs.Common.{ap, ◌∙◌, lit<, arith}
use Rattle.art_arena.proofs.Common.{copies}
use Rattle.art_operations.proofs.FreedAll.{all-part, leaves-gone, with_all}
use Rattle.art_operations.proofs.NewNodes.{all_room}
use Rattle.art_operations.proofs.deallocate.free_tree.Goals as goal

pub free_nodes-nodes-requires : goal.free_nodes-nodes-requires
free_nodes-nodes-requires g c =
    let r = c.requires in
    (lit< tt, (r.0, r.1, all-part g.row.PREFIX_LEN c.args.arena.now c.args.root r.0 r.1 r.2))

pub overflow_sub-result : goal.overflow_sub-result
overflow_sub-result g c =
    let r = c.requires in
    let left = c.free_nodes-nodes.ensures.freed r.0 r.1 (all-part g.row.PREFIX_LEN c.args.arena.now c.args.root r.0 r.1 r.2) in
    let gone = leaves-gone g.row.PREFIX_LEN c.args.arena.now c.free_nodes-nodes.new.arena c.args.root r.0 r.1 r.2 left in
    omega (arith, gone, c.leaf_count-before.ensures.value, c.leaf_count.ensures.value)

pub returns-clause-freed : goal.returns-clause-freed
returns-clause-freed g c = λ s rest beside. c.free_nodes-nodes.ensures.freed s rest (all-part g.row.PREFIX_LEN c.args.arena.now c.args.root s rest beside)

pub returns-clause-leaves : goal.returns-clause-leaves
returns-clause-leaves g c = λ s rest beside.
    let left = c.free_nodes-nodes.ensures.freed s rest (all-part g.row.PREFIX_LEN c.args.arena.now c.args.root s rest beside) in
    let gone = leaves-gone g.row.PREFIX_LEN c.args.arena.now c.free_nodes-nodes.new.arena c.args.root s rest beside left in
    omega (arith, gone, c.leaf_count-before.ensures.value, c.leaf_count.ensures.value)

pub returns-clause-kept : goal.returns-clause-kept
returns-clause-kept g c = λ s rest beside.
    λ k none. c.free_nodes-nodes.ensures.kept s rest (all-part g.row.PREFIX_LEN c.args.arena.now c.args.root s rest beside) k (ap (copies k) (with_all g.row.PREFIX_LEN s) ∙ none)

pub returns-clause-nodes : goal.returns-clause-nodes
returns-clause-nodes g c = λ s rest beside. c.free_nodes-nodes.ensures.value s rest (all-part g.row.PREFIX_LEN c.args.arena.now c.args.root s rest beside)

pub returns-clause-room : goal.returns-clause-room
returns-clause-room g c = all_room c.args.arena.now c.free_nodes-nodes.new.arena c.free_nodes-nodes.ensures.room_of

pub returns-clause-leaf_room : goal.returns-clause-leaf_room
returns-clause-leaf_room g c = λ n room.
    let r = c.requires in
    let left = c.free_nodes-nodes.ensures.freed r.0 r.1 (all-part g.row.PREFIX_LEN c.args.arena.now c.args.root r.0 r.1 r.2) in
    let gone = leaves-gone g.row.PREFIX_LEN c.args.arena.now c.free_nodes-nodes.new.arena c.args.root r.0 r.1 r.2 left in
    omega (arith, room, gone, c.leaf_count-before.ensures.value, c.leaf_count.ensures.value, c.free_nodes-nodes.ensures.capacity)
