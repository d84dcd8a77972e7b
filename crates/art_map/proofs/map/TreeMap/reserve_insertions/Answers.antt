use Rattle.std.proofs.Common.{arith, ◌*◌, ◌<◌, ◌^◌}
use Rattle.art_map.proofs.map.TreeMap.reserve_insertions.Goals as goal

pub returns-in-None-clause-succeeds : goal.returns-in-None-clause-succeeds
returns-in-None-clause-succeeds g c room =
    let few : 2 * c.args.count < 2 ^ 64 = c.room_is_bounded.ensures (2 * c.args.count) (rw (← c.self.view_is) at room) in
    let none = c.in-None.ensures in
    absurd (omega (arith, few, none))
