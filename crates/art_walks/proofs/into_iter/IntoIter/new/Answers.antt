use Rattle.art_walks.proofs.Counted.{counted-pairs}
use Rattle.art_walks.proofs.Rests.{whole}
use Rattle.art_walks.proofs.into_iter.IntoIter.new.Goals as goal

pub invariant_of-result : goal.invariant_of-result
invariant_of-result g c = whole c.args.arena c.args.leaves c.args.len c.requires

pub returns : goal.returns
returns g c run = counted-pairs c.args.arena c.args.leaves c.args.len run
