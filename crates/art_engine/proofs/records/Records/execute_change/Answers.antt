use Rattle.art_engine.proofs.CarriedOut.{change_told}
use Rattle.art_engine.proofs.records.Records.execute_change.Goals as goal

pub returns : goal.returns
returns g c =
    change_told c.write_changed.result _ _ _ c.change-changed.result c.args.word c.args.fields.now c.args.self.now c.change-changed.new.self c.is_memory.result c.of.result.number
    c.is_memory.ensures c.of.ensures c.change-changed.ensures c.write_changed.ensures
