use Rattle.std.proofs.Common.{◌∷◌, [], sym, ap, ◌∙◌}
use Rattle.art_nodes.proofs.Common.{inner_name_of}
use Rattle.art_arena.proofs.Common.{Step, steps_of}
use Rattle.art_operations.proofs.parent.last_step.Goals as goal

pub returns-in-Normal : goal.returns-in-Normal
returns-in-Normal c =
    let above : Step = record { node = inner_name_of c.in-Normal.grandparent; byte = c.in-Normal.parent_key_byte } in
    (above ∷ [], ap steps_of c.in-Normal.is ∙ ap (λ n. record { node = n; byte = c.in-Normal.child_key_byte } ∷ above ∷ []) (sym c.to_opaque-in-Normal.ensures))
