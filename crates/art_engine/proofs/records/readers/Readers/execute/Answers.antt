use Rattle.std.proofs.Common.{ℕ, ◌+◌, ◌-◌, ◌^◌, min, ap₂, ◌∙◌}
use Rattle.art_engine.proofs.LineCounts.{counted_within, few_within, on_both}
use Rattle.art_engine.proofs.records.readers.Readers.execute.Goals as goal

pub returns-clause-visits : goal.returns-clause-visits
returns-clause-visits g c =
    λ ps ns r s. on_both c.write_look_up-written.result
    (counted_within g.row.PREFIX_LEN c.args.word c.args.fields.now _ _ _ c.write_look_up-written.new.bytes.count c.write_look_up-written.new.numbers.count c.of.result.number c.requires.unread.0 c.requires.unread.1
    (c.of.ensures ∙ c.saturating_add-visits.ensures ∙ ap₂ (λ (a b : ℕ). min (a + b) (2 ^ 64 - 1)) c.visits.ensures c.visits-2.ensures))
    (c.write_look_up-written.ensures.bytes_read ps ns r s) (c.write_look_up-written.ensures.numbers_read ps ns r s)

pub returns-clause-few : goal.returns-clause-few
returns-clause-few g c =
    λ ps ns r s. few_within g.row.PREFIX_LEN c.args.word c.args.fields.now _ _ _ c.write_look_up-written.new.bytes.count c.write_look_up-written.new.numbers.count c.of.result.number c.requires.unread.0 c.requires.unread.1
    (c.of.ensures ∙ c.saturating_add-visits.ensures ∙ ap₂ (λ (a b : ℕ). min (a + b) (2 ^ 64 - 1)) c.visits.ensures c.visits-2.ensures)
    (c.write_look_up-written.ensures.bytes_few ps ns r s) (c.write_look_up-written.ensures.numbers_few ps ns r s)
