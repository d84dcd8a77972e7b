use Rattle.art_set.proofs.MembersAfter.{in-key-inserted}
use Rattle.art_set.proofs.laws.is_in_after_insertion.Goals as goal

pub returns : goal.returns
returns g c = in-key-inserted
