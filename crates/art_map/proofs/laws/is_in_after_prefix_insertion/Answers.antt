use Rattle.art_map.proofs.PairChanges.{in-over}
use Rattle.art_map.proofs.laws.is_in_after_prefix_insertion.Goals as goal

pub returns : goal.returns
returns g c = in-over
