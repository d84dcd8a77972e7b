use Rattle.std.proofs.Common.{◌∙◌}
use Rattle.art_map.proofs.map.TreeMap.pairs_over.Goals as goal

pub returns : goal.returns
returns g c =
    let walk = rw (← c.walk_of-walk.ensures, ← c.self.view_is) at c.ends_over.ensures.walk in
    rw (← c.self.view_is) (c.new.ensures _ walk.run ∙ walk.pairs_are)
