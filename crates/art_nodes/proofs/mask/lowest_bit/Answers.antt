use Rattle.std.proofs.Common.{arith}
use Rattle.art_nodes.proofs.BitLemmas.{lowest_set}
use Rattle.art_nodes.proofs.mask.lowest_bit.Goals as goal

pub returns : goal.returns
returns c = lowest_set c.args.word (omega arith) c.ranges.word.fits
