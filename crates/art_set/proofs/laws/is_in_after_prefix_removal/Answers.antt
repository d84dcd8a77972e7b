use Rattle.art_set.proofs.MembersAfter.{in-keys-cut}
use Rattle.art_set.proofs.laws.is_in_after_prefix_removal.Goals as goal

pub returns : goal.returns
returns g c = in-keys-cut
