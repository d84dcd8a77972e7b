use Rattle.art_map.proofs.PairChanges.{pair-by-key}
use Rattle.art_map.proofs.laws.found_by_key.Goals as goal

pub returns : goal.returns
returns g c = pair-by-key
