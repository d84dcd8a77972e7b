use Rattle.art_walks.proofs.Ways.{fault_means_no_tree}
use Rattle.art_walks.proofs.laws.fault_means_no_tree.Goals as goal

pub returns : goal.returns
returns g c = fault_means_no_tree _ _
