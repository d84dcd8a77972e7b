use Rattle.std.proofs.Common.{arith}
use Rattle.art_lines.proofs.Cuts.{writes_same}
use Rattle.art_lines.proofs.Gathering.{length-found, length-shown}
use Rattle.art_lines.proofs.reply.write_found.Goals as goal

pub put_found-len-requires : goal.put_found-len-requires
put_found-len-requires g c = omega (arith, length-found c.args.word.now c.args.value.now, length-shown c.args.value.now)

pub returns : goal.returns
returns g c = writes_same _ _ _ _ _ _ c.put_found-len.ensures.output c.write_piece.ensures
