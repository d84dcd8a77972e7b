use Rattle.std.proofs.Common.{◌∙◌}
use Rattle.art_set.proofs.KeyCompares.{eq-keys}
use Rattle.art_set.proofs.set.compared.TreeSetPartialEq.eq.Goals as goal

pub returns : goal.returns
returns g c = rw (← c.self.view_is, ← c.other.view_is) (c.eq.ensures ∙ eq-keys g.K.PartialEq.eq c.self.inside.map.pairs c.other.inside.map.pairs)
