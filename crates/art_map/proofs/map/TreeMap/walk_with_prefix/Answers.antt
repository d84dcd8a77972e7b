use Rattle.art_map.proofs.map.TreeMap.walk_with_prefix.Goals as goal

pub returns : goal.returns
returns g c = rw c.walk_of.ensures c.ends_with_prefix.ensures
