use Rattle.art_lines.proofs.Cuts.{cut_before, cut_same, writes_cut, writes_then}
use Rattle.art_lines.proofs.ReplyLines.{pair_parts}
use Rattle.art_lines.proofs.reply.write_pair.Goals as goal

pub returns-in_err-write_bytes : goal.returns-in_err-write_bytes
returns-in_err-write_bytes g c =
    writes_cut _ _ _ _ _ c.from_residual.ensures.0 c.in_err-write_bytes.ensures.failed
    (cut_same _ _ _ _ (pair_parts c.args.key.now c.args.value.now) (cut_before _ _ _ _ c.in_err-write_bytes.ensures.cut))

pub returns : goal.returns
returns g c = writes_then _ _ _ _ _ _ _ _ c.in_ok-write_bytes.ensures.ok (pair_parts c.args.key.now c.args.value.now) c.write_last_field.ensures
