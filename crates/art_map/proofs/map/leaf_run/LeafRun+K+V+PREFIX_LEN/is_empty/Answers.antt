use Rattle.art_map.proofs.LeafRuns.{none-left}
use Rattle.art_map.proofs.map.leaf_run.LeafRun+K+V+PREFIX_LEN.is_empty.Goals as goal

pub returns : goal.returns
returns g c = rw (← c.self.view_is) (none-left c.self.inside.arena.now c.self.inside.ends c.is_none.result c.is_none.ensures c.self.invariant)
