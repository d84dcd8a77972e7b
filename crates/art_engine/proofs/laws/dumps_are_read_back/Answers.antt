use Rattle.art_engine.proofs.ReadBack.{dumps_are_read_back}
use Rattle.art_engine.proofs.laws.dumps_are_read_back.Goals as goal

pub returns : goal.returns
returns c = dumps_are_read_back
