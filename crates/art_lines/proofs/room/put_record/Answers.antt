use Rattle.art_lines.proofs.Gathering.{line_by_head, puts_then, puts_same}
use Rattle.art_lines.proofs.room.put_record.Goals as goal

pub returns : goal.returns
returns c =
    puts_same _ _ _ _ _ _ (line_by_head c.args.head.now.tenant c.args.key.now c.args.value.now)
    (puts_then _ _ _ _ _ _ _ _ c.put-digits.ensures (puts_then _ _ _ _ _ _ _ _ c.put_bytes-space.ensures
    (puts_then _ _ _ _ _ _ _ _ c.put_text-digits.ensures (puts_then _ _ _ _ _ _ _ _ c.put_bytes-newline.ensures c.put_text.ensures))))
