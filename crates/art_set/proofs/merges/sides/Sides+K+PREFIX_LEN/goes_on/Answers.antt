use Rattle.std.proofs.Common.{refl}
use Rattle.art_set.proofs.Comparisons.{no-first, no-second, on-false}
use Rattle.art_map.proofs.Asks.{none-left}
use Rattle.art_set.proofs.MergeLemmas.{none-of-first, none-of-second}
use Rattle.art_set.proofs.merges.sides.Sides+K+PREFIX_LEN.goes_on.Goals as goal

pub returns-in-true-false-clause-off : goal.returns-in-true-false-clause-off
returns-in-true-false-clause-off g c =
    rw (← c.self.view_is) (none-of-first g.K.AsBytes.bytes c.args.wanted _ _ (none-left _ c.in-true-false.ensures refl))

pub returns-in-false-true-clause-off : goal.returns-in-false-true-clause-off
returns-in-false-true-clause-off g c =
    rw (← c.self.view_is) (none-of-second g.K.AsBytes.bytes c.args.wanted _ _ (none-left _ c.in-false-true.ensures' refl))

pub returns-in-true-false-clause-ended : goal.returns-in-true-false-clause-ended
returns-in-true-false-clause-ended g c =
    rw (← c.self.view_is) (on-false c.args.wanted.second (no-first g.K.AsBytes.bytes _ _ (none-left _ c.in-true-false.ensures refl)))

pub returns-in-false-true-clause-ended : goal.returns-in-false-true-clause-ended
returns-in-false-true-clause-ended g c =
    rw (← c.self.view_is) (on-false c.args.wanted.first (no-second g.K.AsBytes.bytes _ _ (none-left _ c.in-false-true.ensures' refl)))
