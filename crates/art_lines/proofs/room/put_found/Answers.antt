use Rattle.art_lines.proofs.ReplyLines.{found_parts}
use Rattle.art_lines.proofs.Gathering.{puts_then, puts_same}
use Rattle.art_lines.proofs.room.put_found.Goals as goal

pub returns : goal.returns
returns c =
    puts_same _ _ _ _ _ _ (found_parts c.args.word.now c.args.value.now)
    (puts_then _ _ _ _ _ _ _ _ c.put_text-space.ensures (puts_then _ _ _ _ _ _ _ _ c.put_text-digits.ensures
    (puts_then _ _ _ _ _ _ _ _ c.put_bytes-newline.ensures c.put_text.ensures)))
