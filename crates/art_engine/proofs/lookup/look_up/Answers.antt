use Rattle.art_lines.proofs.Common.{writes_cut}
use Rattle.art_engine.proofs.lookup.look_up.Goals as goal

pub returns-in_err-write_look_up-clause-output : goal.returns-in_err-write_look_up-clause-output
returns-in_err-write_look_up-clause-output g c = λ ps ns r s.
    let output = c.in_err-write_look_up.ensures.output ps ns r s in
    writes_cut _ _ _ _ _ c.from_residual.ensures.0 output.failed output.cut

pub returns-clause-output : goal.returns-clause-output
returns-clause-output g c = λ ps ns r s.
    let output = c.in_ok-write_look_up.ensures.output ps ns r s in
    record { ok = output.ok; cut = tt; failed = output.failed }
