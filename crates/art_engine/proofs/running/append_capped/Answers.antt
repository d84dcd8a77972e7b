use Rattle.std.proofs.Common.{◌≤◌, length, ◌∙◌, arith}
use Rattle.std.proofs.lemmas.List.{length-take-le}
use Rattle.art_engine.proofs.Carrying.{held_as_fits}
use Rattle.art_lines.proofs.Parsing.{on_ok}
use Rattle.art_engine.proofs.running.append_capped.Goals as goal

pub returns : goal.returns
returns c =
    let fits = c.len.ensures.fits in let value = c.len.ensures.value in let room = c.min-room.ensures in
    let within : c.min-room.result ≤ length c.args.part.now = omega arith in
    let shorter = length-take-le c.min-room.result c.args.part.now within in
    let e = c.try_extend_from_slice.ensures in
    on_ok c.try_extend_from_slice.result (e.variant.1 (omega arith)) e.ok
    ∙ held_as_fits c.args.held.now.items c.args.part.now c.min-room.result (omega arith) (omega arith) (omega arith)
