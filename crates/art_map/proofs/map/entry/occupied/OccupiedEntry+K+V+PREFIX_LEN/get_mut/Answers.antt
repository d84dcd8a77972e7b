use Rattle.std.proofs.Common.{refl}
use Rattle.art_map.proofs.Entries.{key-is, value-is, same-written, is-written}
use Rattle.art_map.proofs.map.entry.occupied.OccupiedEntry+K+V+PREFIX_LEN.get_mut.Goals as goal

pub returns : goal.returns
returns g c =
    let o = c.args.self.now in
    let lent = c.pair_mut_at-value.ensures in (
      (refl, λ w. same-written o w _),
      record { writes_back = tt; value = value-is o _ _ lent.value; written = is-written o _ (key-is o _ _ lent.value) lent.pairs },
    )
