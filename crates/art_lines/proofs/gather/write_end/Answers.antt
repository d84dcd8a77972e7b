use Rattle.std.proofs.Common.{arith, ap, sym, ◌∙◌, ◌++◌, take}
use Rattle.std.proofs.lemmas.Fmt.{length-decimal-le}
use Rattle.art_lines.proofs.Cuts.{cut_before, taken_from, taken_longer, writes_cut, writes_rest}
use Rattle.art_lines.proofs.Gathering.{puts_then}
use Rattle.art_lines.proofs.ReplyLines.{end_parts}
use Rattle.art_lines.proofs.gather.write_end.Goals as goal

pub returns-in_err-at : goal.returns-in_err-at
returns-in_err-at g c = writes_cut _ _ _ _ _ c.from_residual.ensures.0 c.in_err-at.ensures.failed (cut_before _ _ _ _ c.in_err-at.ensures.cut)

pub put_number-newline-requires : goal.put_number-newline-requires
put_number-newline-requires g c =
    omega (arith, length-decimal-le 20 c.args.count (omega arith) (omega arith) (omega arith), c.in_ok-at.ensures.fits)

pub put_text-end-requires : goal.put_text-end-requires
put_text-end-requires g c =
    omega (arith, length-decimal-le 20 c.args.count (omega arith) (omega arith) (omega arith), c.in_ok-at.ensures.fits)

pub returns : goal.returns
returns g c =
    let line = puts_then _ _ _ _ _ _ _ _ c.put_text-number.ensures (puts_then _ _ _ _ _ _ _ _ c.put_number-newline.ensures c.put_text-end.ensures) in
    let left = taken_longer _ _ _ _ _ c.in_ok-at.ensures.taken in
    writes_rest _ _ _ _ _ _ _ (taken_from _ _ _ _ _ (ap (λ t. take c.in_ok-at.at c.args.room.now ++ t) (end_parts c.args.count) ∙ sym line.output) left) c.write_piece.ensures
