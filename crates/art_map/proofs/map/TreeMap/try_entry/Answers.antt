use mathlib.Core.Option.{some}
use Rattle.std.proofs.Common.{refl, sym, ap}
use Rattle.art_map.proofs.Entries.{found-entry, absent-entry}
use Rattle.art_map.proofs.map.TreeMap.try_entry.Goals as goal

pub returns-in-Some : goal.returns-in-Some
returns-in-Some g c =
    let key = g.K.AsBytes.bytes c.args.key in
    let known = ∣ c.in-Ok.ensures.place ∣₁ in (
      (ap some (sym c.new.ensures.same_map.0), (λ w. refl), tt),
      record {
        rests = tt;
        same_map = c.new.ensures.same_map.0;
        unchanged = c.new.ensures.same_map.1;
        entry = found-entry c.args.self.now c.args.key key refl c.new.result c.in-Some.leaf (c.in-Some.ensures key known) c.new.ensures.pair;
        free = c.in-Ok.ensures.placed.1;
        stored = λ has. refl;
        refused = tt;
      },
    )

pub returns-in-Ok : goal.returns-in-Ok
returns-in-Ok g c =
    let key = g.K.AsBytes.bytes c.args.key in
    let known = ∣ c.in-Ok.ensures.place ∣₁ in (
      (refl, (λ w. refl), tt),
      record {
        rests = tt;
        same_map = refl;
        unchanged = refl;
        entry = absent-entry c.args.self.now c.args.key key refl _ refl (c.in-None.ensures key known);
        free = c.in-Ok.ensures.placed.1;
        stored = λ has. refl;
        refused = tt;
      },
    )
