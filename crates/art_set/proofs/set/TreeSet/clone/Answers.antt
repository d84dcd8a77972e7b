use Rattle.art_set.proofs.KeyViews.{clone-keys}
use Rattle.art_set.proofs.set.TreeSet.clone.Goals as goal

pub returns-clause-clones : goal.returns-clause-clones
returns-clause-clones g c = rw (← c.self.view_is) (clone-keys _ _ _ _ c.in_ok-map.ensures.clones)

pub returns-clause-shape : goal.returns-clause-shape
returns-clause-shape g c = rw (← c.self.view_is) c.in_ok-map.ensures.shape

pub returns-clause-exact : goal.returns-clause-exact
returns-clause-exact g c = rw (← c.self.view_is) c.in_ok-map.ensures.exact
