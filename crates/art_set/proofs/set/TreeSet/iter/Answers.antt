use Rattle.art_set.proofs.KeyViews.{ascending}
use Rattle.art_set.proofs.set.TreeSet.iter.Goals as goal

pub returns-clause-ordered : goal.returns-clause-ordered
returns-clause-ordered g c = rw (← c.self.view_is) (ascending g.K.AsBytes.bytes c.self.inside.map.pairs c.iter.ensures.ordered)
