use Rattle.art_map.proofs.PairChanges.{in-removed}
use Rattle.art_map.proofs.laws.is_in_after_removal.Goals as goal

pub returns : goal.returns
returns g c = in-removed
