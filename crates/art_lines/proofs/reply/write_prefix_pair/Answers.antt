use Rattle.std.proofs.Common.{arith}
use Rattle.art_lines.proofs.Gathering.{length-shown}
use Rattle.art_lines.proofs.ReplyLines.{length-pair}
use Rattle.art_lines.proofs.reply.write_prefix_pair.Goals as goal

pub write_at-requires-clause-room : goal.write_at-requires-clause-room
write_at-requires-clause-room g c =
    omega (arith, length-pair c.in-Some.key.now c.in-Some.value.now, length-shown c.in-Some.key.now, length-shown c.in-Some.value.now)
