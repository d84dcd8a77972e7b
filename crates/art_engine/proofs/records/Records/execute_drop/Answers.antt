use Rattle.std.proofs.Common.{◌∙◌}
use Rattle.art_lines.proofs.Common.{tenant_in_place}
use Rattle.art_engine.proofs.CarriedOut.{drop_told}
use Rattle.art_engine.proofs.records.Records.execute_drop.Goals as goal

pub returns : goal.returns
returns g c =
    drop_told c.write_dropped.result _ _ _ c.drop_tenant-dropped.result (tenant_in_place c.args.fields.now) c.args.self.now c.drop_tenant-dropped.new.self c.is_memory.result c.of.result.number
    c.is_memory.ensures (c.of.ensures ∙ c.visits.ensures) c.drop_tenant-dropped.ensures c.write_dropped.ensures
