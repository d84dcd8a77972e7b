use mathlib.Core.Option.{some}
use Rattle.std.proofs.Common.{refl, sym, ap}
use Rattle.art_map.proofs.Overwritten.{over-as}
use Rattle.art_map.proofs.map.prefix_entry.inner.InnerOccupiedEntry+K+V+PREFIX_LEN.insert_entry.Goals as goal

pub returns-in-Ok : goal.returns-in-Ok
returns-in-Ok g c =
    let e = c.args.self in (
      (ap some (sym c.new.ensures.same_map.0), (λ w. refl), tt),
      record {
        rests = tt;
        written = over-as e c.prefix_put.new.self c.args.value c.in-Ok.ensures.pairs c.in-Ok.ensures.names c.prefix_put.ensures.room c.new.result c.new.ensures.same_map (c.new.ensures.pair (e.key, c.args.value) c.in-Ok.ensures.leaf);
        handed_back = tt;
        succeeds = λ room. refl;
      },
    )
