use Rattle.std.proofs.Common.{ap, ◌∙◌}
use Rattle.art_set.proofs.Terms.{key_if_some}
use Rattle.art_set.proofs.KeyViews.{found, has-pair, keys-put, leaf-room}
use Rattle.art_set.proofs.set.TreeSet.replace.Goals as goal

pub returns-in-Err-clause-stored : goal.returns-in-Err-clause-stored
returns-in-Err-clause-stored g c = rw (← c.self.view_is) (λ h. c.in-Err.ensures.stored (has-pair g.K.AsBytes.bytes (g.K.AsBytes.bytes c.args.key) c.self.inside.map.pairs h))

pub returns-clause-old : goal.returns-clause-old
returns-clause-old g c = rw (← c.self.view_is) (c.key_of.ensures ∙ ap key_if_some c.in-Ok.ensures.old ∙ found _ c.self.inside.map.pairs)

pub returns-clause-keys : goal.returns-clause-keys
returns-clause-keys g c = rw (← c.self.view_is, c.in-Ok.ensures.pairs) (keys-put g.K.AsBytes.bytes c.args.key tt c.self.inside.map.pairs)

pub returns-in-Err-clause-room : goal.returns-in-Err-clause-room
returns-in-Err-clause-room g c = rw (← c.self.view_is) c.in-Err.ensures.room

pub returns-clause-room : goal.returns-clause-room
returns-clause-room g c = rw (← c.self.view_is) c.in-Ok.ensures.room

pub returns-in-Err-clause-stored_room : goal.returns-in-Err-clause-stored_room
returns-in-Err-clause-stored_room g c = rw (← c.self.view_is) (λ h. c.in-Err.ensures.stored_room (has-pair g.K.AsBytes.bytes (g.K.AsBytes.bytes c.args.key) c.self.inside.map.pairs h))

pub returns-clause-stored_room : goal.returns-clause-stored_room
returns-clause-stored_room g c = rw (← c.self.view_is) (λ h. c.in-Ok.ensures.stored_room (has-pair g.K.AsBytes.bytes (g.K.AsBytes.bytes c.args.key) c.self.inside.map.pairs h))

pub returns-in-Err-clause-leaf_room : goal.returns-in-Err-clause-leaf_room
returns-in-Err-clause-leaf_room g c = rw (← c.self.view_is) (leaf-room c.self.inside.map.pairs c.replace_entry.new.self.pairs c.self.inside.map.nodes c.replace_entry.new.self.nodes c.in-Err.ensures.leaf_room)

pub returns-clause-leaf_room : goal.returns-clause-leaf_room
returns-clause-leaf_room g c = rw (← c.self.view_is) (leaf-room c.self.inside.map.pairs c.replace_entry.new.self.pairs c.self.inside.map.nodes c.replace_entry.new.self.nodes c.in-Ok.ensures.leaf_room)
