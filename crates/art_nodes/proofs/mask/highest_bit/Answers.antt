use Rattle.std.proofs.Common.{arith}
use Rattle.art_nodes.proofs.BitLemmas.{highest_set}
use Rattle.art_nodes.proofs.mask.highest_bit.Goals as goal

pub returns : goal.returns
returns c = highest_set c.args.word (omega arith) c.ranges.word.fits
