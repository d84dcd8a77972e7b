use Rattle.std.proofs.Common.{arith}
use Rattle.art_operations.proofs.FreedRuns.{run-gone}
use Rattle.art_operations.proofs.NewNodes.{all_room}
use Rattle.art_operations.proofs.deallocate.deallocate_leaves.Goals as goal

pub returns-in-Some-clause-room : goal.returns-in-Some-clause-room
returns-in-Some-clause-room g c = all_room c.args.arena.now c.free_run.new.arena c.free_run.ensures.room_of

pub returns-in-Some-clause-leaf_room : goal.returns-in-Some-clause-leaf_room
returns-in-Some-clause-leaf_room g c = rw c.in-Some.is (λ ls rest run n room.
    let gone = run-gone c.args.arena.now c.free_run.new.arena c.in-Some.ends.0 c.in-Some.ends.1 ls rest run (c.free_run.ensures.freed ls rest run) in
    let capacity = c.free_run.ensures.capacity in
    omega (arith, room, gone, capacity))
