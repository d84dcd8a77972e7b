use Rattle.std.proofs.Common.{◌*◌, ◌-◌, length, arith}
use Rattle.std.proofs.lemmas.Result.{on_ok_weaker}
use Rattle.art_map.proofs.RoomUsed.{uses-more}
use Rattle.art_map.proofs.map.TreeMap.split_last.Goals as goal

pub returns-then-count-stay-clause-room : goal.returns-then-count-stay-clause-room
returns-then-count-stay-clause-room g c =
    on_ok_weaker c.split_by_ends.result (uses-more c.args.count (4 * c.args.count) c.args.self.now.nodes c.split_by_ends.new.self.nodes (omega arith)) c.split_by_ends.ensures.room

pub returns-clause-room : goal.returns-clause-room
returns-clause-room g c =
    let few = c.if-count-stay.false in
    let len = c.len.ensures in
    let many = c.requires.many in
    on_ok_weaker c.split_at_once.result
    (uses-more (length c.args.self.now.pairs - c.args.count - 1) (4 * c.args.count) c.args.self.now.nodes c.split_at_once.new.self.nodes (omega (arith, few, len, many)))
    c.split_at_once.ensures.room
