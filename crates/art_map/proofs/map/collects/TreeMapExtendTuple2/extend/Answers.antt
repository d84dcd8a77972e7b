use Rattle.std.proofs.Common.{ap, map-id, ◌∙◌}
use Rattle.art_map.proofs.Terms.{with_pairs_put}
use Rattle.art_map.proofs.map.collects.TreeMapExtendTuple2.extend.Goals as goal

pub returns-in-Ok : goal.returns-in-Ok
returns-in-Ok g c =
    let (it, given, gives, put, room, drains) = c.in-Ok.ensures.pairs in
    record { ran = (it, given, gives, (put ∙ ap (λ ps. with_pairs_put g.K.AsBytes.bytes ps c.args.self.now.pairs) (map-id given), c.in-Ok.ensures.names, room), drains) }

pub returns-in-Err : goal.returns-in-Err
returns-in-Err g c =
    let (it, given, gives, put, room, outcome) = c.in-Err.ensures.pairs in
    let (item, rest, came, is) = outcome.0 in
    let (t, yielded, step) = came in
    record { ran = (it, given, gives, (put ∙ ap (λ ps. with_pairs_put g.K.AsBytes.bytes ps c.args.self.now.pairs) (map-id given), c.in-Err.ensures.names, room), (t, yielded)) }
