use Rattle.art_arena.specs.declared.ends.End.TheVariants.{Last}
use Rattle.art_operations.proofs.Common.{on-err}
use Rattle.art_set.proofs.KeyViews.{kept-names, none-key, shrinks-at-end, some-key}
use Rattle.art_set.proofs.set.TreeSet.pop_last.Goals as goal

pub returns-in_err-pair-clause-shrinks : goal.returns-in_err-pair-clause-shrinks
returns-in_err-pair-clause-shrinks g c = on-err c.from_residual.result (rw (← c.self.view_is) (shrinks-at-end g.K.AsBytes.bytes Last c.self.inside.map.pairs c.in_err-pair.ensures.shrinks))

pub returns-clause-names : goal.returns-clause-names
returns-clause-names g c = rw (← c.self.view_is) (kept-names g.K.AsBytes.bytes c.pop_last.new.self.pairs c.self.inside.map.nodes c.pop_last.new.self.nodes c.in_ok-pair.ensures.names)

pub returns-in_err-pair-clause-room : goal.returns-in_err-pair-clause-room
returns-in_err-pair-clause-room g c = rw (← c.self.view_is) c.in_err-pair.ensures.room

pub returns-clause-room : goal.returns-clause-room
returns-clause-room g c = rw (← c.self.view_is) c.in_ok-pair.ensures.room

pub returns-clause-none_room : goal.returns-clause-none_room
returns-clause-none_room g c = rw (← c.self.view_is) (none-key _ c.in_ok-pair.pair c.key_of.result c.key_of.ensures c.in_ok-pair.ensures.none_room)

pub returns-clause-leaf_room : goal.returns-clause-leaf_room
returns-clause-leaf_room g c = rw (← c.self.view_is) (some-key _ c.in_ok-pair.pair c.key_of.result c.key_of.ensures c.in_ok-pair.ensures.leaf_room)
