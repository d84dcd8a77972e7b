use Rattle.std.proofs.Common.{refl, false, true}
use Rattle.std.specs.Prelude.{Some}
use Rattle.art_lines.proofs.Common.{audit}
use Rattle.art_engine.proofs.CarriedOut.{at_none, audited, refused}
use Rattle.art_engine.proofs.records.Records.execute_audit.Goals as goal

pub returns-in-Ok : goal.returns-in-Ok
returns-in-Ok g c =
    let r = c.args.self.now in let e = c.in-Ok.ensures in
    at_none c.write_audit.result _ _ _ (Some audit) false c.of.result.number r r c.of.ensures (audited c.write_audit.result _ _ _ r _ _ e.0 e.1 c.write_audit.ensures)

pub returns-in-Err : goal.returns-in-Err
returns-in-Err g c =
    let r = c.args.self.now in
    at_none c.write_piece.result _ _ _ (Some audit) true c.of-in-Err.result.number r r c.of-in-Err.ensures (refused c.write_piece.result _ _ _ audit r r tt tt tt refl c.write_piece.ensures)
