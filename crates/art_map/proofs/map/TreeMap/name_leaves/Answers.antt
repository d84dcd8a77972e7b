use Rattle.art_map.proofs.LeafNames.{named}
use Rattle.art_map.proofs.map.TreeMap.name_leaves.Goals as goal

pub returns : goal.returns
returns g c = rw (← c.self.view_is) (named g.K.AsBytes.bytes g.row.PREFIX_LEN c.self.inside.arena g.K.AsBytes.is_key c.self.inside.root c.self.invariant)
