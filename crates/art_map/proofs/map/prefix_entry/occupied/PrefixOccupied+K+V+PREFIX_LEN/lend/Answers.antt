use Rattle.std.proofs.Common.{refl, arith}
use Rattle.art_map.proofs.Terms.{has_leaf}
use Rattle.art_map.proofs.PrefixEntries.{held-at, names-shown, pairs-shown, room-shown, slot-of, value-shown}
use Rattle.art_map.proofs.map.prefix_entry.occupied.PrefixOccupied+K+V+PREFIX_LEN.lend.Goals as goal

pub pair_mut_at-value-requires : goal.pair_mut_at-value-requires
pair_mut_at-value-requires g c = (omega arith, has_leaf c.args.self.map.now c.args.leaf (held-at c.args.self c.args.leaf (slot-of c.args.self.spot c.args.leaf c.requires)))

pub returns : goal.returns
returns g c =
    let e = c.args.self in
    let is = slot-of e.spot c.args.leaf c.requires in
    let lent = c.pair_mut_at-value.ensures in (
      (refl, λ w. refl),
      record {
        writes_back = tt;
        value = value-shown e c.args.leaf is _ _ lent.value;
        pairs = pairs-shown e c.args.leaf is _ _ lent.value lent.pairs;
        names = names-shown e c.args.leaf is _ _ lent.value;
        room = room-shown e c.args.leaf is _ _ lent.value;
      },
    )
