use Rattle.art_engine.proofs.ReadBack.{dumps_tell_records}
use Rattle.art_engine.proofs.laws.dumps_tell_records.Goals as goal

pub returns : goal.returns
returns c = dumps_tell_records
