use Rattle.std.proofs.Common.{arith}
use Rattle.art_arena.proofs.guide.guide_at.Goals as goal

pub returns-in-None-clause-few : goal.returns-in-None-clause-few
returns-in-None-clause-few g c = λ root path s at longest short.
    let few = c.guide_below-leaf.ensures.few root path s at longest short in
    rw c.in-None.is (omega (arith, few))
