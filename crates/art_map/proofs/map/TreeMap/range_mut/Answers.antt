use Rattle.std.proofs.Common.{ap₂, ◌∙◌}
use Rattle.art_walks.proofs.Common.{recounted, run-pairs}
use Rattle.art_map.proofs.Terms.{pairs_between}
use Rattle.art_map.proofs.map.TreeMap.range_mut.Goals as goal

pub invariant_of-result : goal.invariant_of-result
invariant_of-result g c = record { valid = ∣ recounted c.args.self.now.nodes c.walk_between-leaves.result _ c.walk_between-leaves.ensures.walk.run ∣₁ }

pub returns-clause-rest : goal.returns-clause-rest
returns-clause-rest g c =
    run-pairs c.args.self.now.nodes c.walk_between-leaves.result _ c.walk_between-leaves.ensures.walk.run ∙ c.walk_between-leaves.ensures.walk.pairs_are
    ∙ ap₂ (λ start end. pairs_between g.K.AsBytes.bytes start end c.args.self.now.pairs) c.bytes_of.ensures c.bytes_of-2.ensures
