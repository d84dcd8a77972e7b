use Rattle.art_map.proofs.Common.{has_bytes}
use Rattle.art_set.proofs.KeyViews.{has-pair, keys-put, leaf-room, was-added}
use Rattle.art_set.proofs.set.TreeSet.insert.Goals as goal

pub returns-in-Err-clause-stored : goal.returns-in-Err-clause-stored
returns-in-Err-clause-stored g c = rw (← c.self.view_is) (λ h. c.in-Err.ensures.stored (has-pair g.K.AsBytes.bytes (g.K.AsBytes.bytes c.args.key) c.self.inside.map.pairs h))

pub returns-clause-added : goal.returns-clause-added
returns-clause-added g c = rw (← c.self.view_is) (was-added (has_bytes g.K.AsBytes.bytes (g.K.AsBytes.bytes c.args.key)) c.self.inside.map.pairs c.in-Ok.old c.is_none.result c.is_none.ensures c.in-Ok.ensures.value)

pub returns-clause-keys : goal.returns-clause-keys
returns-clause-keys g c = rw (← c.self.view_is, c.in-Ok.ensures.pairs) (keys-put g.K.AsBytes.bytes c.args.key tt c.self.inside.map.pairs)

pub returns-in-Err-clause-room : goal.returns-in-Err-clause-room
returns-in-Err-clause-room g c = rw (← c.self.view_is) c.in-Err.ensures.room

pub returns-clause-room : goal.returns-clause-room
returns-clause-room g c = rw (← c.self.view_is) c.in-Ok.ensures.room

pub returns-in-Err-clause-stored_room : goal.returns-in-Err-clause-stored_room
returns-in-Err-clause-stored_room g c = rw (← c.self.view_is) (λ h. c.in-Err.ensures.stored_room (has-pair g.K.AsBytes.bytes (g.K.AsBytes.bytes c.args.key) c.self.inside.map.pairs h))

pub returns-clause-stored_room : goal.returns-clause-stored_room
returns-clause-stored_room g c = rw (← c.self.view_is) (λ h. c.in-Ok.ensures.stored_room (has-pair g.K.AsBytes.bytes (g.K.AsBytes.bytes c.args.key) c.self.inside.map.pairs h))

pub returns-in-Err-clause-leaf_room : goal.returns-in-Err-clause-leaf_room
returns-in-Err-clause-leaf_room g c = rw (← c.self.view_is) (leaf-room c.self.inside.map.pairs c.insert.new.self.pairs c.self.inside.map.nodes c.insert.new.self.nodes c.in-Err.ensures.leaf_room)

pub returns-clause-leaf_room : goal.returns-clause-leaf_room
returns-clause-leaf_room g c = rw (← c.self.view_is) (leaf-room c.self.inside.map.pairs c.insert.new.self.pairs c.self.inside.map.nodes c.insert.new.self.nodes c.in-Ok.ensures.leaf_room)
