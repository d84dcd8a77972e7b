use Rattle.std.proofs.Common.{length, sym, ap, ◌∙◌, arith}
use Rattle.art_map.proofs.Terms.{Contents}
use Rattle.art_map.proofs.Maps.{ascending-map, as-counted}
use Rattle.art_map.proofs.map.TreeMap.iter.Goals as goal

pub new-requires : goal.new-requires
new-requires g c =
    let counted = as-counted c.self.inside.arena c.walk-walk.result _ c.len-len.result (c.len-len.ensures ∙ ap (λ (m : Contents g.row.K.Denot g.row.V.Denot). length m.pairs) (sym c.self.view_is)) (rw (← c.self.view_is) at c.walk-walk.ensures) in
    (omega arith, (omega arith, counted.run))

pub returns-clause-rest : goal.returns-clause-rest
returns-clause-rest g c =
    let counted = as-counted c.self.inside.arena c.walk-walk.result _ c.len-len.result (c.len-len.ensures ∙ ap (λ (m : Contents g.row.K.Denot g.row.V.Denot). length m.pairs) (sym c.self.view_is)) (rw (← c.self.view_is) at c.walk-walk.ensures) in
    rw (← c.self.view_is) (c.new.ensures counted.run ∙ counted.pairs_are)

pub returns-clause-ordered : goal.returns-clause-ordered
returns-clause-ordered g c = rw (← c.self.view_is) (ascending-map g.K.AsBytes.bytes g.K.AsBytes.is_key g.row.PREFIX_LEN c.self.inside.arena c.self.inside.root c.self.invariant)
