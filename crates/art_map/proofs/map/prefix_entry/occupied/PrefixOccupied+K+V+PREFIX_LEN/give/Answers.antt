use mathlib.Core.Option.{some}
use Rattle.std.proofs.Common.{refl, sym, ap, arith}
use Rattle.art_map.proofs.Entries.{same-as}
use Rattle.art_map.proofs.PrefixEntries.{held-at, kind-stored, leaf-entry, slot-of}
use Rattle.art_map.proofs.map.prefix_entry.occupied.PrefixOccupied+K+V+PREFIX_LEN.give.Goals as goal

pub new-requires : goal.new-requires
new-requires g c = (omega arith, (omega arith, held-at c.args.self c.args.leaf (slot-of c.args.self.spot c.args.leaf c.requires)))

pub returns : goal.returns
returns g c =
    let e = c.args.self in
    let is = slot-of e.spot c.args.leaf c.requires in
    let held = held-at e c.args.leaf is in (
      (ap some (sym c.new.ensures.same_map.0), (λ w. refl), tt),
      record {
        rests = tt;
        same = rw (kind-stored e c.args.leaf is held) (same-as (leaf-entry e c.args.leaf held) c.new.result c.new.ensures.same_map c.new.ensures.pair);
        ok = refl;
      },
    )
