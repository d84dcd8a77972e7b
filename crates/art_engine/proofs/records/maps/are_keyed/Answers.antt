use Rattle.std.proofs.Common.{sym, subst}
use Rattle.std.specs.List.{AllByRecursion}
use Rattle.art_engine.proofs.HeldMaps.{IsRecord, are_pairs}
use Rattle.art_engine.proofs.records.maps.are_keyed.Goals as goal

pub returns-clause-records : goal.returns-clause-records
returns-clause-records g c = λ e.
    are_pairs c.args.map.now.pairs c.iter-key-items.ensures.ordered (c.loop-key.invariant.good (subst (AllByRecursion IsRecord) (sym c.in-None.ensures.steps.0) tt))
