use Rattle.art_map.proofs.Maps.{walk-found, walk-none}
use Rattle.art_map.proofs.map.TreeMap.walk.Goals as goal

pub returns-in-Some : goal.returns-in-Some
returns-in-Some g c =
    rw (← c.self.view_is, c.new.ensures)
    (walk-found g.K.AsBytes.bytes g.K.AsBytes.is_key g.row.PREFIX_LEN c.self.inside.arena c.self.inside.root c.in-Some.root c.in-Some.is c.self.invariant c.minimum_unchecked.result c.minimum_unchecked.result c.maximum_unchecked.result c.minimum_unchecked.ensures c.maximum_unchecked.ensures)

pub returns-in-None : goal.returns-in-None
returns-in-None g c =
    rw (← c.self.view_is, c.empty.ensures)
    (walk-none g.K.AsBytes.bytes g.K.AsBytes.is_key g.row.PREFIX_LEN c.self.inside.arena c.self.inside.root c.in-None.is c.self.invariant)
