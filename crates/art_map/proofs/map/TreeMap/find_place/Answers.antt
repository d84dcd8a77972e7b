use Rattle.std.proofs.Common.{[]}
use Rattle.art_map.proofs.Maps.{ascending-map, stored-placed}
use Rattle.art_map.proofs.map.TreeMap.find_place.Goals as goal

pub returns-clause-placed : goal.returns-clause-placed
returns-clause-placed g c = rw (← c.as_bytes.ensures.value, ← c.self.view_is) (c.find_place.ensures.placed _ [] c.self.invariant.has)

pub returns-clause-stored : goal.returns-clause-stored
returns-clause-stored g c =
    rw (← c.as_bytes.ensures.value, ← c.self.view_is)
    (stored-placed g.K.AsBytes.bytes g.row.PREFIX_LEN c.self.inside.arena _ (ascending-map g.K.AsBytes.bytes g.K.AsBytes.is_key g.row.PREFIX_LEN c.self.inside.arena c.self.inside.root c.self.invariant) c.as_bytes.result.now c.find_place.result (c.find_place.ensures.placed _ [] c.self.invariant.has))

pub returns-clause-keys : goal.returns-clause-keys
returns-clause-keys g c = rw (← c.self.view_is) c.self.invariant.keys

pub returns-clause-place : goal.returns-clause-place
returns-clause-place g c = rw (← c.as_bytes.ensures.value, ← c.self.view_is) c.find_place.ensures.place
