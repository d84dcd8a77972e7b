use Rattle.art_map.proofs.PairChanges.{in-cut}
use Rattle.art_map.proofs.laws.is_in_after_prefix_removal.Goals as goal

pub returns : goal.returns
returns g c = in-cut
