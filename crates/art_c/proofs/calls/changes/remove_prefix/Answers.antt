use Rattle.std.proofs.Common.{refl}
use Rattle.art_c.proofs.NodeRoom.{not-ok}
use Rattle.art_c.proofs.calls.changes.remove_prefix.Goals as goal

pub returns-in-Err : goal.returns-in-Err
returns-in-Err g c =
    let e = c.in-Err.ensures in (e.shrinks, e.err, (e.kept_room, not-ok e.succeeds), refl)
