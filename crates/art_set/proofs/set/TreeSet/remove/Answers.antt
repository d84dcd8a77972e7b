use Rattle.std.proofs.Common.{ap, ◌∙◌}
use Rattle.std.specs.Prelude.{is_some}
use Rattle.std.proofs.lemmas.Map.Made.{is_some-lookup}
use Rattle.art_operations.proofs.Common.{on-err}
use Rattle.art_set.proofs.KeyViews.{has-key, kept-names, keys-without, none-found, shrinking, some-found}
use Rattle.art_set.proofs.set.TreeSet.remove.Goals as goal

pub returns-in_err-found-clause-shrinks : goal.returns-in_err-found-clause-shrinks
returns-in_err-found-clause-shrinks g c =
    let (there, shrinks) = c.in_err-found.ensures.shrinks in
    on-err c.from_residual.result (rw (← c.self.view_is) (has-key g.K.AsBytes.bytes _ c.self.inside.map.pairs there, shrinking g.K.AsBytes.bytes _ c.self.inside.map.pairs shrinks))

pub returns-clause-found : goal.returns-clause-found
returns-clause-found g c = rw (← c.self.view_is) (c.is_some.ensures ∙ ap is_some c.in_ok-found.ensures.value ∙ is_some-lookup _ c.self.inside.map.pairs)

pub returns-clause-keys : goal.returns-clause-keys
returns-clause-keys g c = rw (← c.self.view_is, c.in_ok-found.ensures.pairs) (keys-without g.K.AsBytes.bytes _ c.self.inside.map.pairs)

pub returns-clause-names : goal.returns-clause-names
returns-clause-names g c = rw (← c.self.view_is) (kept-names g.K.AsBytes.bytes c.remove.new.self.pairs c.self.inside.map.nodes c.remove.new.self.nodes c.in_ok-found.ensures.names)

pub returns-in_err-found-clause-room : goal.returns-in_err-found-clause-room
returns-in_err-found-clause-room g c = rw (← c.self.view_is) c.in_err-found.ensures.room

pub returns-clause-room : goal.returns-clause-room
returns-clause-room g c = rw (← c.self.view_is) c.in_ok-found.ensures.room

pub returns-clause-none_room : goal.returns-clause-none_room
returns-clause-none_room g c = rw (← c.self.view_is) (none-found _ c.in_ok-found.found c.is_some.result c.is_some.ensures c.in_ok-found.ensures.none_room)

pub returns-clause-leaf_room : goal.returns-clause-leaf_room
returns-clause-leaf_room g c = rw (← c.self.view_is) (some-found _ c.in_ok-found.found c.is_some.result c.is_some.ensures c.in_ok-found.ensures.leaf_room)
