use Rattle.art_set.proofs.MembersAfter.{in-key-removed}
use Rattle.art_set.proofs.laws.is_in_after_removal.Goals as goal

pub returns : goal.returns
returns g c = in-key-removed
