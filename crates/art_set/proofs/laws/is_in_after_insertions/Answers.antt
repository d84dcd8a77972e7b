use Rattle.art_set.proofs.MembersAfter.{in-keys-inserted}
use Rattle.art_set.proofs.laws.is_in_after_insertions.Goals as goal

pub returns : goal.returns
returns g c = in-keys-inserted
