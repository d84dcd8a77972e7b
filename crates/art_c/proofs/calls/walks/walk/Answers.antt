use Rattle.std.proofs.Common.{[], refl, arith}
use Rattle.art_c.proofs.calls.walks.walk.Goals as goal

pub returns-in_default : goal.returns-in_default
returns-in_default g c =
    ([], [], ((λ f. absurd (c.in_default.ensures f)), (λ _. refl)), (omega arith, omega arith), tt, (refl, refl))
