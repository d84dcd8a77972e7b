use Rattle.art_map.proofs.PairChanges.{pair-by-front}
use Rattle.art_map.proofs.laws.found_by_prefix.Goals as goal

pub returns : goal.returns
returns g c = pair-by-front
