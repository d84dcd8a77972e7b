use Rattle.std.proofs.Common.{◌∙◌}
use Rattle.std.proofs.lemmas.Map.Made.{is_some-lookup}
use Rattle.art_set.proofs.set.TreeSet.contains.Goals as goal

pub returns : goal.returns
returns g c = rw (← c.self.view_is) (c.contains_key.ensures ∙ is_some-lookup _ c.self.inside.map.pairs)
