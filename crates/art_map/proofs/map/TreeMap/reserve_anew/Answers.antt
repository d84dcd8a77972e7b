use Rattle.art_map.proofs.Maps.{same-map, same-pairs}
use Rattle.art_map.proofs.map.TreeMap.reserve_anew.Goals as goal

pub invariant_of-self : goal.invariant_of-self
invariant_of-self g c = same-map g.K.AsBytes.bytes g.K.AsBytes.is_key g.row.PREFIX_LEN c.self.inside.arena c.self.inside.root c.self.invariant c.reserve_leaves.new.arena c.reserve_leaves.ensures.kept

pub returns-clause-pairs : goal.returns-clause-pairs
returns-clause-pairs g c =
    rw (← c.self.view_is) (same-pairs g.K.AsBytes.bytes g.K.AsBytes.is_key g.row.PREFIX_LEN c.self.inside.arena c.self.inside.root c.self.invariant c.reserve_leaves.new.arena c.reserve_leaves.ensures.kept)
