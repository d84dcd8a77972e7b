use Rattle.art_operations.proofs.FewReads.{counts-few}
use Rattle.art_operations.proofs.laws.counts_are_few.Goals as goal

pub returns : goal.returns
returns g c = counts-few _
