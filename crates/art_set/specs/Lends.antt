-- What a set ends as, where its map is lent.
use Rattle.std.specs.Borrow.{Fml, GName, RattleType, MutBor, follows}
use Rattle.art_bytes.specs.declared.as_bytes.AsBytes as as_bytes
use Rattle.art_map.specs.contracts.map.TreeMap as map
use Rattle.art_set.specs.Members.{Members, members}
use Rattle.art_set.specs.contracts.set.TreeSet.{the_row}
use Rattle.std.specs.Borrow.{unit}

module _ (K P : RattleType) (key : as_bytes.Ghosts K.Denot) (s : MutBor (Members K.Denot)) where
  -- once the borrow of the map under this name ends, the set has the keys and the nodes that the map then has
  abbrev pub lends_keys : GName → Fml
  lends_keys name = follows (the_row K P key) (map.the_row K unit P key) s.ghost_name name members
