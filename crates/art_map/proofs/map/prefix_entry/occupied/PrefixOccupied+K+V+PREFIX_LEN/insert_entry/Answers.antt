use mathlib.Core.Option.{some}
use Rattle.std.proofs.Common.{refl, sym, ap}
use Rattle.art_map.proofs.Entries.{remade}
use Rattle.art_map.proofs.Overwritten.{over-as}
use Rattle.art_map.proofs.PrefixEntries.{held-at, kind-new, kind-stored, leaf-entry}
use Rattle.art_map.proofs.map.prefix_entry.occupied.PrefixOccupied+K+V+PREFIX_LEN.insert_entry.Goals as goal

pub returns-in-Stored : goal.returns-in-Stored
returns-in-Stored g c =
    let e = c.args.self in
    let held = held-at e c.in-Stored.leaf c.in-Stored.is in (
      (ap some (sym c.new.ensures.same_map.0), (λ w. refl), tt),
      record {
        rests = tt;
        written = rw (kind-stored e c.in-Stored.leaf c.in-Stored.is held) (remade (leaf-entry e c.in-Stored.leaf held) c.write_at.new.self c.args.value c.write_at.ensures.now c.new.result c.new.ensures.same_map c.new.ensures.pair c.write_at.ensures.pairs);
        handed_back = tt;
      },
    )

pub returns-in-Ok : goal.returns-in-Ok
returns-in-Ok g c =
    let e = c.args.self in
    let k = c.in-New.key in
    let made = c.new-in-Ok.ensures in (
      (ap some (sym made.same_map.0), (λ w. refl), tt),
      record {
        rests = tt;
        written = rw (kind-new e k c.in-New.is) (over-as (record { map = e.map; key = k; mark = e.mark }) c.prefix_put.new.self c.args.value c.in-Ok.ensures.pairs c.in-Ok.ensures.names c.prefix_put.ensures.room c.new-in-Ok.result made.same_map (made.pair (k, c.args.value) c.in-Ok.ensures.leaf));
        handed_back = tt;
      },
    )
