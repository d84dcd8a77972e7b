use Rattle.art_map.proofs.Maps.{last-found}
use Rattle.art_map.proofs.map.TreeMap.last.Goals as goal

pub returns : goal.returns
returns g c =
    rw (← c.self.view_is)
    (last-found g.K.AsBytes.bytes g.K.AsBytes.is_key g.row.PREFIX_LEN c.self.inside.arena c.self.inside.root c.in_ok-root.root c.in_ok-root.was c.self.invariant c.maximum_unchecked.result c.maximum_unchecked.ensures)
