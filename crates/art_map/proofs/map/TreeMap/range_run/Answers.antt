use Rattle.std.proofs.Common.{ap₂, ◌∙◌}
use Rattle.art_map.proofs.Terms.{pairs_between}
use Rattle.art_map.proofs.map.TreeMap.range_run.Goals as goal

pub returns-clause-rest : goal.returns-clause-rest
returns-clause-rest g c =
    c.run_between.ensures.rest
    ∙ ap₂ (λ start end. pairs_between g.K.AsBytes.bytes start end c.args.self.now.pairs) c.bytes_of.ensures c.bytes_of-2.ensures
