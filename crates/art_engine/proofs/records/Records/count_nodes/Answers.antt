use Rattle.std.proofs.Common.{ap, ◌∙◌}
use Rattle.art_map.specs.Audit.{audit_of}
use Rattle.art_engine.proofs.Terms.{Records, full_key_of, number_key_of}
use Rattle.art_engine.proofs.Auditing.{counts_same, number_counts_same}
use Rattle.art_engine.proofs.records.Records.count_nodes.Goals as goal

pub returns : goal.returns
returns g c = (
  c.in_ok-keys.ensures ∙ counts_same c.self.inside.keys.pairs c.self.invariant.0.stand.full ∙ ap (λ (r : Records). audit_of full_key_of r.keys) c.self.view_is,
  c.in_ok-numbers.ensures ∙ number_counts_same c.self.inside.numbers.pairs c.self.invariant.1.stand ∙ ap (λ (r : Records). audit_of number_key_of r.numbers) c.self.view_is,
)
