use Rattle.std.proofs.Common.{refl}
use Rattle.art_lines.proofs.Cuts.{cut_before, cut_after, writes_cut, writes_then}
use Rattle.art_lines.proofs.reply.write_sum.Goals as goal

pub returns-in_err-write_piece : goal.returns-in_err-write_piece
returns-in_err-write_piece g c = writes_cut _ _ _ _ _ c.from_residual.ensures.0 c.in_err-write_piece.ensures.failed (cut_before _ _ _ _ c.in_err-write_piece.ensures.cut)

pub returns-in_err-write_wide : goal.returns-in_err-write_wide
returns-in_err-write_wide g c =
    writes_cut _ _ _ _ _ c.from_residual-in_err-write_wide.ensures.0 c.in_err-write_wide.ensures.failed
    (cut_after _ _ _ _ _ c.in_ok-write_piece.ensures.ok (cut_before _ _ _ _ c.in_err-write_wide.ensures.cut))

pub returns : goal.returns
returns g c = writes_then _ _ _ _ _ _ _ _ c.in_ok-write_piece.ensures.ok refl (writes_then _ _ _ _ _ _ _ _ c.in_ok-write_wide.ensures.ok refl c.write_piece-2.ensures)
