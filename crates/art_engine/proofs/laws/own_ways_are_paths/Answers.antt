use Rattle.art_engine.proofs.OwnAhead.{own_ways_are_paths}
use Rattle.art_engine.proofs.laws.own_ways_are_paths.Goals as goal

pub returns : goal.returns
returns c = own_ways_are_paths
