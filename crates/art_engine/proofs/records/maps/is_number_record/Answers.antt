use Rattle.std.proofs.Common.{arith}
use Rattle.art_engine.proofs.HeldMaps.{is_number_record}
use Rattle.art_engine.proofs.records.maps.is_number_record.Goals as goal

pub returns-clause-record : goal.returns-clause-record
returns-clause-record c = λ e.
    is_number_record c.args.key.now c.args.value.now (let output = c.told-key in omega arith) (λ i. let fits = c.fits-key i in omega arith) (λ i. let fits = c.type_inv.value i in omega arith) (c.is_short_number.ensures.0 e)
