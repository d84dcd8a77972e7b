use Rattle.std.proofs.Common.{◌∙◌}
use Rattle.art_set.proofs.KeyCompares.{partial-cmp-keys}
use Rattle.art_set.proofs.set.compared.TreeSetPartialOrd.partial_cmp.Goals as goal

pub returns : goal.returns
returns g c = rw (← c.self.view_is, ← c.other.view_is) (c.partial_cmp.ensures ∙ partial-cmp-keys g.K.PartialOrd.partial_cmp c.self.inside.map.pairs c.other.inside.map.pairs)
