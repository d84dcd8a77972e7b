use Rattle.std.proofs.Common.{◌∙◌}
use Rattle.art_walks.proofs.Common.{run-pairs}
use Rattle.art_map.proofs.Ranges.{all-between}
use Rattle.art_map.proofs.map.TreeMap.extraction_of_all.Goals as goal

pub returns-clause-left : goal.returns-clause-left
returns-clause-left g c =
    let walk = c.walk_between-leaves.ensures.walk in
    run-pairs c.args.self.now.nodes c.walk_between-leaves.result _ walk.run ∙ walk.pairs_are ∙ all-between g.K.AsBytes.bytes c.args.self.now.pairs
