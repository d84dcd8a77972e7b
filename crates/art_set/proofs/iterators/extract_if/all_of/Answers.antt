use Rattle.std.proofs.Common.{◌∙◌}
use Rattle.art_set.proofs.AskedPairs.{all-between}
use Rattle.art_set.proofs.iterators.extract_if.all_of.Goals as goal

pub returns-clause-left : goal.returns-clause-left
returns-clause-left g c = c.extraction.ensures.left ∙ all-between c.args.map.now.pairs
