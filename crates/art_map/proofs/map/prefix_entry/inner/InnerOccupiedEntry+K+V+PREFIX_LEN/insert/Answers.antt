use Rattle.std.proofs.Common.{refl}
use Rattle.art_map.proofs.Written.{one-pair}
use Rattle.art_map.proofs.Overwritten.{over-written}
use Rattle.art_map.proofs.map.prefix_entry.inner.InnerOccupiedEntry+K+V+PREFIX_LEN.insert.Goals as goal

pub returns : goal.returns
returns g c =
    let read = c.pair_mut_at-stored.ensures.value in (
      (refl, (λ w _. over-written g.K.AsBytes.bytes c.prefix_put.new.self c.in-Ok.put.leaf c.args.self.key _ c.args.value _ c.args.self.map.now c.in-Ok.ensures.pairs c.in-Ok.ensures.names c.prefix_put.ensures.room c.in-Ok.ensures.leaf read c.pair_mut_at-stored.ensures.pairs w), tt),
      record {
        writes_back = tt;
        value = (one-pair c.prefix_put.new.self c.in-Ok.put.leaf (c.args.self.key, c.args.value) (_, _) c.in-Ok.ensures.leaf read).1;
        handed_back = tt;
        succeeds = λ room. refl;
      },
    )
