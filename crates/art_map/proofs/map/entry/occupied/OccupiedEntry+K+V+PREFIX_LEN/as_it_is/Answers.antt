use mathlib.Core.Option.{some}
use Rattle.std.proofs.Common.{refl, sym, ap}
use Rattle.art_map.proofs.Entries.{same-as}
use Rattle.art_map.proofs.map.entry.occupied.OccupiedEntry+K+V+PREFIX_LEN.as_it_is.Goals as goal

pub returns : goal.returns
returns g c =
    ((ap some (sym c.new.ensures.same_map.0), (λ w. refl), tt), record { rests = tt; same = same-as c.args.self c.new.result c.new.ensures.same_map c.new.ensures.pair; ok = refl })
