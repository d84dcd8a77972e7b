use Rattle.std.proofs.Common.{lit<}
use Rattle.art_operations.proofs.NewNodes.{all_room}
use Rattle.art_operations.proofs.deallocate.deallocate_tree_non_leaves.Goals as goal

pub free_nodes-requires : goal.free_nodes-requires
free_nodes-requires g c =
    let r = c.requires in
    (lit< tt, (r.0, r.1, record { named = r.2.named; holds = r.2.holds }))

pub returns-clause-room : goal.returns-clause-room
returns-clause-room g c = all_room c.args.arena.now c.free_nodes.new.arena c.free_nodes.ensures.room_of
