use Rattle.std.proofs.Common.{ap, ◌∙◌}
use Rattle.art_operations.proofs.Common.{with_pair_put}
use Rattle.art_map.proofs.Written.{one-pair}
use Rattle.art_map.proofs.map.TreeMap.write_at.Goals as goal

pub returns-clause-pairs : goal.returns-clause-pairs
returns-clause-pairs g c = λ p has.
    c.pair_mut_at-old.ensures.pairs c.args.value
    ∙ ap (λ k. with_pair_put g.K.AsBytes.bytes k c.args.value c.args.self.now.pairs) (one-pair c.args.self.now c.args.leaf p _ has c.pair_mut_at-old.ensures.value).0
