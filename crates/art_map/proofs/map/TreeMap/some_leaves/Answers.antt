use Rattle.art_map.proofs.LeafRuns.{some-leaves}
use Rattle.art_map.proofs.map.TreeMap.some_leaves.Goals as goal

pub returns : goal.returns
returns g c = rw (← c.self.view_is) (some-leaves g.K.AsBytes.bytes c.self.inside.arena g.row.PREFIX_LEN g.K.AsBytes.is_key c.self.inside.root c.self.invariant)
