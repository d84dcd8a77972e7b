use Rattle.art_lines.proofs.Cuts.{cut_before, writes_cut}
use Rattle.art_lines.proofs.reply.write_over.Goals as goal

pub returns-in_err-write_piece : goal.returns-in_err-write_piece
returns-in_err-write_piece g c = writes_cut _ _ _ _ _ c.from_residual.ensures.0 c.in_err-write_piece.ensures.failed (cut_before _ _ _ _ c.in_err-write_piece.ensures.cut)
