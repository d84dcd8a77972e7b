use Rattle.std.proofs.Common.{refl}
use Rattle.art_map.proofs.Entries.{put-lent}
use Rattle.art_map.proofs.Written.{one-pair}
use Rattle.art_map.proofs.map.entry.vacant.VacantEntry+K+V+PREFIX_LEN.insert.Goals as goal

pub returns : goal.returns
returns g c =
    let e = c.args.self in
    let m = c.insert_leaf.new.self in
    let lent = c.pair_mut_at-value.ensures in (
      (refl, (λ w ok. put-lent m c.in-Ok.leaf (e.key, c.args.value) _ c.in-Ok.ensures.leaf lent.value g.K.AsBytes.bytes e.map.now c.in-Ok.ensures.pairs c.in-Ok.ensures.names c.insert_leaf.ensures.room lent.pairs w), tt),
      record { writes_back = tt; value = (one-pair m c.in-Ok.leaf (e.key, c.args.value) _ c.in-Ok.ensures.leaf lent.value).1; handed_back = tt; succeeds = λ room. refl },
    )
