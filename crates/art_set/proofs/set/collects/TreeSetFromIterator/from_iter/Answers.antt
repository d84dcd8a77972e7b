use Rattle.std.proofs.Common.{[], ap, map-id, ◌∙◌}
use Rattle.art_set.proofs.Terms.{with_keys_put}
use Rattle.art_set.proofs.set.collects.TreeSetFromIterator.from_iter.Goals as goal

pub returns-in-Ok : goal.returns-in-Ok
returns-in-Ok g c =
    let (it, given, gives, outcome) = c.in-Ok.ensures in
    let (u, came) = outcome.0 in
    let (t, yielded, step) = came in
    record { ran = (it, given, gives, (t, yielded, λ complete. (u, step)), outcome.1 ∙ ap (λ ks. with_keys_put g.K.AsBytes.bytes ks []) (map-id given)) }
