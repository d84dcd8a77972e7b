use Rattle.std.proofs.Common.{◌∙◌}
use Rattle.art_walks.proofs.Common.{recounted, run-pairs}
use Rattle.art_map.proofs.map.TreeMap.prefix_mut.Goals as goal

pub invariant_of-result : goal.invariant_of-result
invariant_of-result g c = record { valid = ∣ recounted c.args.self.now.nodes c.walk_with_prefix-leaves.result _ c.walk_with_prefix-leaves.ensures.run ∣₁ }

pub returns-clause-rest : goal.returns-clause-rest
returns-clause-rest g c =
    rw (← c.as_bytes.ensures.value)
    (run-pairs c.args.self.now.nodes c.walk_with_prefix-leaves.result _ c.walk_with_prefix-leaves.ensures.run ∙ c.walk_with_prefix-leaves.ensures.pairs_are)
