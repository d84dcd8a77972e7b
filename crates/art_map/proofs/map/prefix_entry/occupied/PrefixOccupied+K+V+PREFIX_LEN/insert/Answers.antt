use Rattle.std.proofs.Common.{refl}
use Rattle.art_map.proofs.Overwritten.{over-written}
use Rattle.art_map.proofs.PrefixEntries.{kind-new, names-shown, pairs-shown, room-shown, stored-leaves, value-shown}
use Rattle.art_map.proofs.Written.{one-pair}
use Rattle.art_map.proofs.map.prefix_entry.occupied.PrefixOccupied+K+V+PREFIX_LEN.insert.Goals as goal

pub returns-in-Stored : goal.returns-in-Stored
returns-in-Stored g c =
    let e = c.args.self in
    let lent = c.pair_mut_at-lent.ensures in (
      (
        refl,
        (λ w _. (
          pairs-shown e c.in-Stored.leaf c.in-Stored.is _ _ lent.value lent.pairs w,
          names-shown e c.in-Stored.leaf c.in-Stored.is _ _ lent.value w,
          stored-leaves _ _ _ _ (value-shown e c.in-Stored.leaf c.in-Stored.is _ _ lent.value)
              (room-shown e c.in-Stored.leaf c.in-Stored.is _ _ lent.value w),
        )),
        tt,
      ),
      record { writes_back = tt; value = refl; handed_back = tt },
    )

pub returns-in-Ok : goal.returns-in-Ok
returns-in-Ok g c =
    let e = c.args.self in
    let k = c.in-New.key in
    let read = c.pair_mut_at-stored.ensures.value in (
      (refl, (λ w _. rw (kind-new e k c.in-New.is) (over-written g.K.AsBytes.bytes c.prefix_put.new.self c.in-Ok.put.leaf k _ c.args.value _ e.map.now c.in-Ok.ensures.pairs c.in-Ok.ensures.names c.prefix_put.ensures.room c.in-Ok.ensures.leaf read c.pair_mut_at-stored.ensures.pairs w)), tt),
      record {
        writes_back = tt;
        value = (one-pair c.prefix_put.new.self c.in-Ok.put.leaf (k, c.args.value) (_, _) c.in-Ok.ensures.leaf read).1;
        handed_back = tt;
      },
    )
