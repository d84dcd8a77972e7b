use Rattle.std.proofs.Common.{arith}
use Rattle.art_engine.proofs.HeldMaps.{is_record}
use Rattle.art_engine.proofs.records.maps.is_record.Goals as goal

pub returns-clause-record : goal.returns-clause-record
returns-clause-record c = λ e.
    is_record c.args.full.now c.args.value.now (λ i. let fits = c.type_inv.full i in omega arith) (λ i. let fits = c.type_inv.value i in omega arith) (c.is_short.ensures.0 e)
