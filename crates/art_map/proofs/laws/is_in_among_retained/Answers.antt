use Rattle.art_map.proofs.PairChanges.{in-retained}
use Rattle.art_map.proofs.laws.is_in_among_retained.Goals as goal

pub returns : goal.returns
returns g c = in-retained
