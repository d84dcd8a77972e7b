use Rattle.art_engine.proofs.OwnRefusals.{deletions_go_by_own_keys}
use Rattle.art_engine.proofs.laws.deletions_go_by_own_keys.Goals as goal

pub returns : goal.returns
returns c = deletions_go_by_own_keys
