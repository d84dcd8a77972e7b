use Rattle.std.proofs.Common.{ap}
use Rattle.std.specs.Map.{keys_of}
use Rattle.art_set.proofs.set.TreeSet.put_back.Goals as goal

pub returns-clause-keys : goal.returns-clause-keys
returns-clause-keys g c = λ pairs has. ap keys_of (c.finish.ensures.pairs pairs has)
