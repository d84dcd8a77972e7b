use Rattle.std.proofs.Common.{length, sym, ap, ◌∙◌, arith}
use Rattle.art_map.proofs.Terms.{Contents}
use Rattle.art_map.proofs.Maps.{as-counted}
use Rattle.art_map.proofs.map.TreeMap.into_pairs.Goals as goal

pub new-requires : goal.new-requires
new-requires g c =
    (omega arith, (omega arith, (as-counted c.self.inside.arena c.walk-walk.result _ c.len-len.result (c.len-len.ensures ∙ ap (λ (m : Contents g.row.K.Denot g.row.V.Denot). length m.pairs) (sym c.self.view_is)) (rw (← c.self.view_is) at c.walk-walk.ensures)).run))

pub returns : goal.returns
returns g c =
    let counted = as-counted c.self.inside.arena c.walk-walk.result _ c.len-len.result (c.len-len.ensures ∙ ap (λ (m : Contents g.row.K.Denot g.row.V.Denot). length m.pairs) (sym c.self.view_is)) (rw (← c.self.view_is) at c.walk-walk.ensures) in
    rw (← c.self.view_is) (c.new.ensures counted.run ∙ counted.pairs_are)
