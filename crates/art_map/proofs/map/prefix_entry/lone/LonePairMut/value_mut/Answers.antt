use Rattle.std.proofs.Common.{refl, sym, ap}
use Rattle.art_map.proofs.Terms.{option_value}
use Rattle.art_map.proofs.LonePairs.{lone-shown, lone-written}
use Rattle.art_map.proofs.map.prefix_entry.lone.LonePairMut.value_mut.Goals as goal

pub returns : goal.returns
returns g c =
    let e = c.args.self.now in
    let lent = c.pair_mut_at-value.ensures in (
      (refl, (λ w. lone-written e c.in_ok-leaf.leaf c.in_ok-leaf.was _ lent.value lent.pairs w _ refl refl), (refl, refl)),
      record { writes_back = tt; value = sym (ap option_value (lone-shown e c.in_ok-leaf.leaf c.in_ok-leaf.was _ lent.value)) },
    )
