use Rattle.std.proofs.Common.{refl, inr}
use Rattle.art_c.proofs.NodeRoom.{not-ok}
use Rattle.art_c.proofs.calls.wholes.put_in_order.Goals as goal

pub returns-in-Err-clause-pairs : goal.returns-in-Err-clause-pairs
returns-in-Err-clause-pairs g c =
    let e = c.in-Err.ensures in (inr (refl, not-ok e.empty, e.err), e.pairs)
