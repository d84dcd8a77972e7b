use Rattle.std.proofs.Common.{ap, map-id, ◌∙◌}
use Rattle.art_set.proofs.Terms.{with_keys_put}
use Rattle.art_set.proofs.set.collects.TreeSetExtend.extend.Goals as goal

pub returns-in-Ok : goal.returns-in-Ok
returns-in-Ok g c =
    let (it, given, gives, put, room, drains) = c.in-Ok.ensures.keys in
    record { ran = (it, given, gives, (put ∙ ap (λ ks. with_keys_put g.K.AsBytes.bytes ks c.args.self.now.keys) (map-id given), c.in-Ok.ensures.names, room), drains) }

pub returns-in-Err : goal.returns-in-Err
returns-in-Err g c =
    let (it, given, gives, put, room, outcome) = c.in-Err.ensures.keys in
    let (item, rest, came, is) = outcome.0 in
    let (t, yielded, step) = came in
    record { ran = (it, given, gives, (put ∙ ap (λ ks. with_keys_put g.K.AsBytes.bytes ks c.args.self.now.keys) (map-id given), c.in-Err.ensures.names, room), (t, yielded)) }
