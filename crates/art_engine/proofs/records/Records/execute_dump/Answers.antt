use Rattle.std.proofs.Common.{refl, false}
use Rattle.std.specs.Prelude.{Some}
use Rattle.art_lines.proofs.Common.{dump}
use Rattle.art_engine.proofs.CarriedOut.{at_none, uncounted}
use Rattle.art_engine.proofs.records.Records.execute_dump.Goals as goal

pub returns : goal.returns
returns g c =
    let r = c.args.self.now in
    at_none c.write_dump.result _ _ _ (Some dump) false c.of.result.number r r c.of.ensures (uncounted c.write_dump.result _ _ _ (Some dump) r r refl tt refl c.write_dump.ensures)
