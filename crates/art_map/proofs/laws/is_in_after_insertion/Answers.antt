use Rattle.art_map.proofs.PairChanges.{in-inserted}
use Rattle.art_map.proofs.laws.is_in_after_insertion.Goals as goal

pub returns : goal.returns
returns g c = in-inserted
