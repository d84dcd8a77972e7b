use Rattle.std.proofs.Common.{Some, ap, ◌∙◌}
use Rattle.art_c.specs.Handles.{own}
use Rattle.art_c.proofs.calls.wholes.split.Goals as goal

pub returns-in-Ok-split_off : goal.returns-in-Ok-split_off
returns-in-Ok-split_off g c =
    let e = c.in-Ok-split_off.ensures in (
      e.pairs,
      own c.in-Ok-split_off.map,
      ap g.V.Kind.view (c.replace.ensures ∙ ap Some c.store-in-Ok-split_off.ensures) ∙ g.met.V.Kind.seen _,
      e.off,
      (λ some. (e.leaf_room some, e.room some), e.nothing, e.swapped),
    )
