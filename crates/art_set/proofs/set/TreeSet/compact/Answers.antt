use Rattle.art_set.proofs.KeyViews.{no-pair}
use Rattle.art_set.proofs.set.TreeSet.compact.Goals as goal

pub returns-clause-empty : goal.returns-clause-empty
returns-clause-empty g c = rw (← c.self.view_is) (λ none. c.compact.ensures.empty (no-pair c.self.inside.map.pairs none))

pub returns-clause-no_room : goal.returns-clause-no_room
returns-clause-no_room g c = rw (← c.self.view_is) (λ none. c.compact.ensures.no_room (no-pair c.self.inside.map.pairs none))
