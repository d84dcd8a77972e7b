use Rattle.std.proofs.Common.{ℕ, List, ap, sym, ◌∙◌, bytes_eq}
use Rattle.std.specs.Map.{lookup}
use Rattle.art_lines.proofs.Common.{tenant_in_place, number_in_place, value_in_place}
use Rattle.art_engine.proofs.NumberPlaces.{nput_keeps, nput_old, nput_new}
use Rattle.art_engine.proofs.records.change.numbers.put_at_number.Goals as goal

pub returns-in-Ok-Some-clause-held : goal.returns-in-Ok-Some-clause-held
returns-in-Ok-Some-clause-held g c =
    let F = c.args.fields.now in let ns = c.args.numbers.now.pairs in
    nput_keeps (tenant_in_place F) (number_in_place F) (c.number_key.ensures.tenant, c.number_key.ensures.number) (value_in_place F) (c.number_key.result, c.in-Ok.value)
    c.number_key.ensures.value (c.in-Ok.ensures.items ∙ c.value.ensures.value) ns c.insert.new.self.pairs c.requires.held c.in-Ok-Some.ensures.pairs c.requires.fits

pub returns-in-Ok-Some-clause-done : goal.returns-in-Ok-Some-clause-done
returns-in-Ok-Some-clause-done g c =
    let F = c.args.fields.now in let ns = c.args.numbers.now.pairs in
    nput_old (tenant_in_place F) (number_in_place F) (c.number_key.ensures.tenant, c.number_key.ensures.number) (value_in_place F) (c.number_key.result, c.in-Ok.value)
    c.number_key.ensures.value (c.in-Ok.ensures.items ∙ c.value.ensures.value) ns c.insert.new.self.pairs c.requires.held c.in-Ok-Some.ensures.pairs c.in-Ok-Some.old
    (sym c.in-Ok-Some.field-0-is ∙ c.in-Ok-Some.ensures.value ∙ ap (λ q. lookup (λ (j : List ℕ). bytes_eq j q) ns) c.number_key.ensures.value)

pub returns-in-Ok-None-clause-held : goal.returns-in-Ok-None-clause-held
returns-in-Ok-None-clause-held g c =
    let F = c.args.fields.now in let ns = c.args.numbers.now.pairs in
    nput_keeps (tenant_in_place F) (number_in_place F) (c.number_key.ensures.tenant, c.number_key.ensures.number) (value_in_place F) (c.number_key.result, c.in-Ok.value)
    c.number_key.ensures.value (c.in-Ok.ensures.items ∙ c.value.ensures.value) ns c.insert.new.self.pairs c.requires.held c.in-Ok-None.ensures.pairs c.requires.fits

pub returns-in-Ok-None-clause-done : goal.returns-in-Ok-None-clause-done
returns-in-Ok-None-clause-done g c =
    let F = c.args.fields.now in let ns = c.args.numbers.now.pairs in
    nput_new (tenant_in_place F) (number_in_place F) (c.number_key.ensures.tenant, c.number_key.ensures.number) (value_in_place F) (c.number_key.result, c.in-Ok.value)
    c.number_key.ensures.value (c.in-Ok.ensures.items ∙ c.value.ensures.value) ns c.insert.new.self.pairs c.requires.held c.in-Ok-None.ensures.pairs
    (sym c.in-Ok-None.field-0-is ∙ c.in-Ok-None.ensures.value ∙ ap (λ q. lookup (λ (j : List ℕ). bytes_eq j q) ns) c.number_key.ensures.value)
