use Rattle.art_operations.proofs.Common.{inner-kept-of}
use Rattle.art_map.proofs.map.joins.reserve_leaves.Goals as goal

pub returns-clause-inner : goal.returns-clause-inner
returns-clause-inner g c = inner-kept-of c.new.new.arena c.reserve_kind.new.self c.args.leaves c.reserve_kind.ensures.room_of c.in_ok-room.ensures.room
