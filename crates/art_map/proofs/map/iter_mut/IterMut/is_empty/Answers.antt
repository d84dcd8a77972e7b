use Rattle.std.proofs.Common.{nat_eq, ap}
use Rattle.art_map.proofs.LentIters.{len-is}
use Rattle.art_map.proofs.map.iter_mut.IterMut.is_empty.Goals as goal

pub returns : goal.returns
returns g c = let walk = c.args.self.now in ap (λ n. nat_eq n 0) (len-is walk.map.now walk.leaves walk.valid walk.len walk.counted)
