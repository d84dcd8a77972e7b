use Rattle.std.proofs.Common.{ap, ◌∙◌}
use Rattle.art_operations.proofs.Common.{on-err}
use Rattle.art_set.proofs.Terms.{key_if_some}
use Rattle.art_set.proofs.KeyViews.{found, has-key, kept-names, keys-without, none-key, shrinking, some-key}
use Rattle.art_set.proofs.set.TreeSet.take.Goals as goal

pub returns-in_err-pair-clause-shrinks : goal.returns-in_err-pair-clause-shrinks
returns-in_err-pair-clause-shrinks g c =
    let (there, shrinks) = c.in_err-pair.ensures.shrinks in
    on-err c.from_residual.result (rw (← c.self.view_is) (has-key g.K.AsBytes.bytes _ c.self.inside.map.pairs there, shrinking g.K.AsBytes.bytes _ c.self.inside.map.pairs shrinks))

pub returns-clause-key : goal.returns-clause-key
returns-clause-key g c = rw (← c.self.view_is) (c.key_of.ensures ∙ ap key_if_some c.in_ok-pair.ensures.value ∙ found _ c.self.inside.map.pairs)

pub returns-clause-keys : goal.returns-clause-keys
returns-clause-keys g c = rw (← c.self.view_is, c.in_ok-pair.ensures.pairs) (keys-without g.K.AsBytes.bytes _ c.self.inside.map.pairs)

pub returns-clause-names : goal.returns-clause-names
returns-clause-names g c = rw (← c.self.view_is) (kept-names g.K.AsBytes.bytes c.remove_entry.new.self.pairs c.self.inside.map.nodes c.remove_entry.new.self.nodes c.in_ok-pair.ensures.names)

pub returns-in_err-pair-clause-room : goal.returns-in_err-pair-clause-room
returns-in_err-pair-clause-room g c = rw (← c.self.view_is) c.in_err-pair.ensures.room

pub returns-clause-room : goal.returns-clause-room
returns-clause-room g c = rw (← c.self.view_is) c.in_ok-pair.ensures.room

pub returns-clause-none_room : goal.returns-clause-none_room
returns-clause-none_room g c = rw (← c.self.view_is) (none-key _ c.in_ok-pair.pair c.key_of.result c.key_of.ensures c.in_ok-pair.ensures.none_room)

pub returns-clause-leaf_room : goal.returns-clause-leaf_room
returns-clause-leaf_room g c = rw (← c.self.view_is) (some-key _ c.in_ok-pair.pair c.key_of.result c.key_of.ensures c.in_ok-pair.ensures.leaf_room)
