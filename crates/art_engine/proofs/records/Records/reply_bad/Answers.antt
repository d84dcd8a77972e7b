use Rattle.std.proofs.Common.{refl, false}
use Rattle.std.specs.Prelude.{None}
use Rattle.art_engine.proofs.CarriedOut.{at_none, uncounted}
use Rattle.art_engine.proofs.records.Records.reply_bad.Goals as goal

pub returns : goal.returns
returns g c =
    let r = c.args.self.now in
    at_none c.write_piece.result _ _ _ None false c.of.result.number r r c.of.ensures (uncounted c.write_piece.result _ _ _ None r r refl tt refl c.write_piece.ensures)
