use Rattle.std.proofs.Common.{arith}
use Rattle.std.proofs.lemmas.Fmt.{length-decimal-le}
use Rattle.art_lines.proofs.head.Head.new.Goals as goal

pub put_number-space-requires : goal.put_number-space-requires
put_number-space-requires c = omega (arith, length-decimal-le 10 c.from.result (omega arith) (omega arith) (omega arith))

pub put_text-len-requires : goal.put_text-len-requires
put_text-len-requires c = omega (arith, length-decimal-le 10 c.from.result (omega arith) (omega arith) (omega arith))
