use Rattle.std.proofs.Common.{◌≡◌, sym, refl}
use Rattle.art_arena.proofs.descent.land.Goals as goal

pub returns-in-Some-clause-lands : goal.returns-in-Some-clause-lands
returns-in-Some-clause-lands g c = λ s tree.
    let lands = rw c.in-Some.is at (c.descend-stop.ensures.lands refl s tree) in
    let slots : c.descend-stop.result.node.slot ≡ c.with_kind.result = sym c.with_kind.ensures in
    rw c.finish.ensures (rw slots at lands)
