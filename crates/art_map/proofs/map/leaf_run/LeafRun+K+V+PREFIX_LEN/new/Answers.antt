use Rattle.art_walks.proofs.RunLengths.{recounted, run-pairs}
use Rattle.art_map.proofs.map.leaf_run.LeafRun+K+V+PREFIX_LEN.new.Goals as goal

pub invariant_of-result : goal.invariant_of-result
invariant_of-result g c = recounted c.args.arena.now c.args.ends c.requires.0 c.requires.1

pub returns : goal.returns
returns g c n run = run-pairs c.args.arena.now c.args.ends n run
