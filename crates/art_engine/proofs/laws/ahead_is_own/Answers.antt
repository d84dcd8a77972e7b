use Rattle.art_engine.proofs.OwnAhead.{ahead_is_own}
use Rattle.art_engine.proofs.laws.ahead_is_own.Goals as goal

pub returns : goal.returns
returns c = ahead_is_own
