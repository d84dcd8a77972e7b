use Rattle.std.proofs.Common.{sym, ◌∙◌}
use Rattle.art_walks.proofs.Common.{measured, recounted, run-pairs}
use Rattle.art_map.proofs.map.TreeMap.iter_mut.Goals as goal

pub invariant_of-result : goal.invariant_of-result
invariant_of-result g c =
    let m = c.args.self.now in
    let run = c.walk-leaves.ensures.run in
    record {
      valid = ∣ recounted m.nodes c.walk-leaves.result _ run ∣₁;
      counted = c.len-len.ensures ∙ sym (measured m.nodes c.walk-leaves.result _ run);
    }

pub returns-clause-rest : goal.returns-clause-rest
returns-clause-rest g c = run-pairs c.args.self.now.nodes c.walk-leaves.result _ c.walk-leaves.ensures.run ∙ c.walk-leaves.ensures.pairs_are
