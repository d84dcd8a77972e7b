use Rattle.art_set.proofs.MembersAfter.{in-retained-keys}
use Rattle.art_set.proofs.laws.is_in_among_retained.Goals as goal

pub returns : goal.returns
returns g c = in-retained-keys
