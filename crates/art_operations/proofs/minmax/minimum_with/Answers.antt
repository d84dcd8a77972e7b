use Rattle.std.proofs.Common.{arith}
use Rattle.art_operations.proofs.minmax.minimum_with.Goals as goal

pub returns-clause-few : goal.returns-clause-few
returns-clause-few g c = λ path s at longest short. let few = c.end_leaf_with.ensures.few path s at longest short in omega (arith, few)
