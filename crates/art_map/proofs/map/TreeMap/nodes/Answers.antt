use Rattle.art_operations.proofs.Common.{pairs-tree}
use Rattle.art_map.proofs.Maps.{ascending-map}
use Rattle.art_map.proofs.map.TreeMap.nodes.Goals as goal

pub returns-clause-tree : goal.returns-clause-tree
returns-clause-tree g c = rw (← c.self.view_is) (pairs-tree g.K.AsBytes.bytes g.row.PREFIX_LEN c.self.inside.arena c.self.inside.root _ c.self.invariant.has)

pub returns-clause-ordered : goal.returns-clause-ordered
returns-clause-ordered g c = rw (← c.self.view_is) (ascending-map g.K.AsBytes.bytes g.K.AsBytes.is_key g.row.PREFIX_LEN c.self.inside.arena c.self.inside.root c.self.invariant)
