use Rattle.art_lines.proofs.Cuts.{cut_before, cut_same, writes_cut, writes_then}
use Rattle.art_lines.proofs.ReplyLines.{found_parts}
use Rattle.art_lines.proofs.reply.write_long.Goals as goal

pub returns-in_err-write_piece : goal.returns-in_err-write_piece
returns-in_err-write_piece g c =
    writes_cut _ _ _ _ _ c.from_residual.ensures.0 c.in_err-write_piece.ensures.failed
    (cut_same _ _ _ _ (found_parts c.args.word.now c.args.value.now) (cut_before _ _ _ _ c.in_err-write_piece.ensures.cut))

pub returns : goal.returns
returns g c = writes_then _ _ _ _ _ _ _ _ c.in_ok-write_piece.ensures.ok (found_parts c.args.word.now c.args.value.now) c.write_last_field.ensures
