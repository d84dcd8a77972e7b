use Rattle.std.proofs.Common.{None, ap}
use Rattle.art_arena.proofs.Common.{first_slot}
use Rattle.art_operations.proofs.lookup.search_with.Goals as goal

pub returns-in-Some-clause-value : goal.returns-in-Some-clause-value
returns-in-Some-clause-value g c = λ s tree. ap (λ ls. first_slot ls None) (c.in-Some.ensures.value s tree)

pub returns-in-None-clause-value : goal.returns-in-None-clause-value
returns-in-None-clause-value g c = λ s tree. ap (λ ls. first_slot ls None) (c.in-None.ensures.value s tree)
