use Rattle.std.proofs.Common.{refl, sym, ap, ◌∙◌}
use Rattle.art_operations.proofs.Common.{with_pair_put}
use Rattle.art_map.proofs.Entries.{has-pair, key-is, value-is}
use Rattle.art_map.proofs.LeafNames.{written-all}
use Rattle.art_map.proofs.RoomKept.{pair-room}
use Rattle.art_map.proofs.map.entry.occupied.OccupiedEntry+K+V+PREFIX_LEN.into_mut.Goals as goal

pub returns : goal.returns
returns g c =
    let o = c.args.self in
    let lent = c.pair_mut_at-value.ensures in (
      (refl, λ w. refl),
      record {
        writes_back = tt;
        value = value-is o _ _ lent.value;
        pairs = λ w. lent.pairs w ∙ sym (ap (λ k. with_pair_put g.K.AsBytes.bytes k w o.map.now.pairs) (key-is o _ _ lent.value));
        names = written-all g.K.AsBytes.bytes o.map.now o.leaf _ (has-pair o);
        room = pair-room o.map.now o.leaf _ (has-pair o);
      },
    )
