use Rattle.std.proofs.Common.{None, sym, ap, ◌∙◌}
use Rattle.art_arena.proofs.Common.{first_slot, last_slot}
use Rattle.art_operations.proofs.bounds.find_prefix_segment_with.Goals as goal

pub returns-in-Some-clause-value : goal.returns-in-Some-clause-value
returns-in-Some-clause-value g c = λ s stores.
    let is = c.in-Some.ensures.value s stores in
    (ap (λ ls. first_slot ls None) (sym is.block) ∙ is.first_is, ap (last_slot None) (sym is.block) ∙ is.last_is)
