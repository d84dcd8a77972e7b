use Rattle.std.proofs.Common.{◌∙◌}
use Rattle.art_set.proofs.KeyCompares.{cmp-keys}
use Rattle.art_set.proofs.set.compared.TreeSetOrd.cmp.Goals as goal

pub returns : goal.returns
returns g c = rw (← c.self.view_is, ← c.other.view_is) (c.cmp.ensures ∙ cmp-keys g.K.Ord.cmp c.self.inside.map.pairs c.other.inside.map.pairs)
