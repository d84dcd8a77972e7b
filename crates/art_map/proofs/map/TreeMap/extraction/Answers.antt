use Rattle.std.proofs.Common.{ap₂, ◌∙◌}
use Rattle.art_map.proofs.Terms.{pairs_between}
use Rattle.art_walks.proofs.Common.{run-pairs}
use Rattle.art_map.proofs.map.TreeMap.extraction.Goals as goal

pub returns-clause-left : goal.returns-clause-left
returns-clause-left g c =
    let walk = c.walk_between-leaves.ensures.walk in
    run-pairs c.args.self.now.nodes c.walk_between-leaves.result _ walk.run
    ∙ walk.pairs_are
    ∙ ap₂ (λ start end. pairs_between g.K.AsBytes.bytes start end c.args.self.now.pairs) c.bytes_of.ensures c.bytes_of-2.ensures
