use Rattle.std.proofs.Common.{ap, ◌∙◌}
use Rattle.art_set.proofs.Terms.{key_if_some}
use Rattle.art_set.proofs.KeyViews.{found}
use Rattle.art_set.proofs.set.TreeSet.get.Goals as goal

pub returns-in-Some : goal.returns-in-Some
returns-in-Some g c = rw (← c.self.view_is) (ap key_if_some c.in-Some.ensures ∙ found _ c.self.inside.map.pairs)

pub returns-in-None : goal.returns-in-None
returns-in-None g c = rw (← c.self.view_is) (ap key_if_some c.in-None.ensures ∙ found _ c.self.inside.map.pairs)
