use Rattle.std.proofs.Common.{◌∙◌, arith}
use Rattle.art_map.proofs.Maps.{ascending-map}
use Rattle.art_map.proofs.map.TreeMap.prefix_run.Goals as goal

pub new-requires : goal.new-requires
new-requires g c =
    let walk = rw (← c.self.view_is) at c.ends_with_prefix-ends.ensures in
    (omega arith, (omega arith, (_, walk.run)))

pub returns-clause-rest : goal.returns-clause-rest
returns-clause-rest g c =
    let walk = rw (← c.self.view_is) at c.ends_with_prefix-ends.ensures in
    rw (← c.self.view_is, ← c.as_bytes.ensures.value) (c.new.ensures _ walk.run ∙ walk.pairs_are)

pub returns-clause-ordered : goal.returns-clause-ordered
returns-clause-ordered g c = rw (← c.self.view_is) (ascending-map g.K.AsBytes.bytes g.K.AsBytes.is_key g.row.PREFIX_LEN c.self.inside.arena c.self.inside.root c.self.invariant)
