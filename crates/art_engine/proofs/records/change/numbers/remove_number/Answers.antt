use Rattle.std.proofs.Common.{ℕ, List, ap, sym, ◌∙◌, subst, bytes_eq}
use Rattle.std.specs.Map.{lookup}
use Rattle.art_arena.proofs.Common.{Shrinks}
use Rattle.art_operations.proofs.Common.{HasKey, without_key}
use Rattle.art_lines.proofs.Common.{tenant_in_place, number_in_place}
use Rattle.art_engine.proofs.NumberPlaces.{number_bytes, ndel_keeps, ndel_gone, ndel_absent, ndel_refused}
use Rattle.art_engine.proofs.records.change.numbers.remove_number.Goals as goal

pub returns-in-Ok-Some-clause-held : goal.returns-in-Ok-Some-clause-held
returns-in-Ok-Some-clause-held g c =
    let F = c.args.fields.now in let ns = c.args.numbers.now.pairs in
    ndel_keeps (tenant_in_place F) (number_in_place F) (c.number_key.ensures.tenant, c.number_key.ensures.number) ns c.remove.new.self.pairs c.requires
    (c.in-Ok-Some.ensures.pairs ∙ ap (λ k. without_key number_bytes k ns) c.number_key.ensures.value)

pub returns-in-Ok-Some-clause-done : goal.returns-in-Ok-Some-clause-done
returns-in-Ok-Some-clause-done g c =
    let F = c.args.fields.now in let ns = c.args.numbers.now.pairs in
    ndel_gone (tenant_in_place F) (number_in_place F) (c.number_key.ensures.tenant, c.number_key.ensures.number) ns c.remove.new.self.pairs c.requires c.in-Ok-Some.value
    (sym c.in-Ok-Some.field-0-is ∙ c.in-Ok-Some.ensures.value ∙ ap (λ q. lookup (λ (j : List ℕ). bytes_eq j q) ns) c.number_key.ensures.value)
    (c.in-Ok-Some.ensures.pairs ∙ ap (λ k. without_key number_bytes k ns) c.number_key.ensures.value)

pub returns-in-Ok-None-clause-held : goal.returns-in-Ok-None-clause-held
returns-in-Ok-None-clause-held g c =
    let F = c.args.fields.now in let ns = c.args.numbers.now.pairs in
    ndel_keeps (tenant_in_place F) (number_in_place F) (c.number_key.ensures.tenant, c.number_key.ensures.number) ns c.remove.new.self.pairs c.requires
    (c.in-Ok-None.ensures.pairs ∙ ap (λ k. without_key number_bytes k ns) c.number_key.ensures.value)

pub returns-in-Ok-None-clause-done : goal.returns-in-Ok-None-clause-done
returns-in-Ok-None-clause-done g c =
    let F = c.args.fields.now in let ns = c.args.numbers.now.pairs in
    ndel_absent (tenant_in_place F) (number_in_place F) (c.number_key.ensures.tenant, c.number_key.ensures.number) ns c.remove.new.self.pairs c.requires
    (sym c.in-Ok-None.field-0-is ∙ c.in-Ok-None.ensures.value ∙ ap (λ q. lookup (λ (j : List ℕ). bytes_eq j q) ns) c.number_key.ensures.value)
    (c.in-Ok-None.ensures.pairs ∙ ap (λ k. without_key number_bytes k ns) c.number_key.ensures.value)

pub returns-in-Err-clause-done : goal.returns-in-Err-clause-done
returns-in-Err-clause-done g c =
    let F = c.args.fields.now in let ns = c.args.numbers.now.pairs in
    ndel_refused (tenant_in_place F) (number_in_place F) (c.number_key.ensures.tenant, c.number_key.ensures.number) ns c.remove.new.self.pairs c.requires c.in-Err.ensures.err
    (subst (λ j. HasKey number_bytes j ns × Shrinks number_bytes ns j) c.number_key.ensures.value c.in-Err.ensures.shrinks)
