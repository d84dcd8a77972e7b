use Rattle.art_map.proofs.PairChanges.{in-inserted-all}
use Rattle.art_map.proofs.laws.is_in_after_insertions.Goals as goal

pub returns : goal.returns
returns g c = in-inserted-all
