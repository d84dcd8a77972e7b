use Rattle.std.proofs.Common.{subst}
use Rattle.art_map.proofs.Common.{IsTryRefused}
use Rattle.art_set.proofs.KeyViews.{blocks}
use Rattle.art_set.proofs.set.changes.without_value.Goals as goal

pub returns-in-Prefix : goal.returns-in-Prefix
returns-in-Prefix g c = λ pairs key h.
    let why = subst (λ refused. IsTryRefused g.K.AsBytes.bytes pairs key tt refused) c.in-Prefix.is h in
    (why.0, why.2, blocks g.K.AsBytes.bytes (g.K.AsBytes.bytes key) pairs why.3)
