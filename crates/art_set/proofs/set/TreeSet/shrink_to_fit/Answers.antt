use Rattle.art_set.proofs.KeyViews.{no-pair}
use Rattle.art_set.proofs.set.TreeSet.shrink_to_fit.Goals as goal

pub returns-clause-empty : goal.returns-clause-empty
returns-clause-empty g c = rw (← c.self.view_is) (λ none. c.shrink_to_fit.ensures.empty (no-pair c.self.inside.map.pairs none))
