use Rattle.std.proofs.Common.{sym, subst}
use Rattle.std.specs.List.{AllByRecursion}
use Rattle.art_engine.proofs.HeldMaps.{IsNumberRecord, are_number_pairs}
use Rattle.art_engine.proofs.records.maps.are_numbered.Goals as goal

pub returns-clause-records : goal.returns-clause-records
returns-clause-records g c = λ e.
    are_number_pairs c.args.map.now.pairs c.iter-key-items.ensures.ordered (c.loop-key.invariant.good (subst (AllByRecursion IsNumberRecord) (sym c.in-None.ensures.steps.0) tt))
