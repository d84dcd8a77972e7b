use Rattle.std.proofs.Common.{[], ap, map-id, ◌∙◌}
use Rattle.art_map.proofs.Terms.{with_pairs_put}
use Rattle.art_map.proofs.map.collects.TreeMapFromIteratorTuple2.from_iter.Goals as goal

pub returns-in-Ok : goal.returns-in-Ok
returns-in-Ok g c =
    let (it, given, gives, outcome) = c.in-Ok.ensures in
    let (u, came) = outcome.0 in
    let (t, yielded, step) = came in
    record { ran = (it, given, gives, (t, yielded, λ complete. (u, step)), outcome.1 ∙ ap (λ ps. with_pairs_put g.K.AsBytes.bytes ps []) (map-id given)) }
