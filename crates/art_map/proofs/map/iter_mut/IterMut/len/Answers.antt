use Rattle.art_map.proofs.LentIters.{len-is}
use Rattle.art_map.proofs.map.iter_mut.IterMut.len.Goals as goal

pub returns : goal.returns
returns g c = let walk = c.args.self.now in len-is walk.map.now walk.leaves walk.valid walk.len walk.counted
