use Rattle.art_nodes.proofs.BitLemmas.{cut_below}
use Rattle.art_nodes.proofs.mask.bits_below.Goals as goal

pub returns : goal.returns
returns c = rw (c.low_bits.ensures, c.saturating_sub.ensures) (cut_below c.args.word c.args.at c.args.bound)
