use Rattle.art_set.proofs.MembersAfter.{key-found}
use Rattle.art_set.proofs.laws.found_by_key.Goals as goal

pub returns : goal.returns
returns g c = key-found
