use Rattle.art_nodes.proofs.BitLemmas.{cut_from}
use Rattle.art_nodes.proofs.mask.bits_from.Goals as goal

pub returns : goal.returns
returns c = rw (c.low_bits.ensures, c.saturating_sub.ensures) (cut_from c.args.word c.args.at c.args.bound)
