use Rattle.std.proofs.Common.{◌+◌, is_some, arith}
use Rattle.art_operations.proofs.NewNodes.{fewer, swapped}
use Rattle.art_operations.proofs.insert.point.InsertPoint.apply.Goals as goal

pub returns-in-Exact-clause-room : goal.returns-in-Exact-clause-room
returns-in-Exact-clause-room g c = λ n room. c.replace_pair.ensures.room n (fewer c.args.arena.now n (n + 2) (omega arith) room)

pub returns-in-Exact-clause-leaf_room : goal.returns-in-Exact-clause-leaf_room
returns-in-Exact-clause-leaf_room g c = swapped c.args.arena.now c.replace_pair.new.arena (is_some c.replace_pair.result.existing_leaf) c.replace_pair.ensures.room_of
