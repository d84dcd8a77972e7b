use Rattle.std.proofs.Common.{ℕ, ap, sym, ◌∙◌, subst, bytes_eq}
use Rattle.std.specs.Global.{Vec}
use Rattle.std.specs.Map.{lookup}
use Rattle.art_arena.proofs.Common.{Shrinks}
use Rattle.art_operations.proofs.Common.{HasKey, without_key}
use Rattle.art_lines.proofs.Common.{tenant_in_place, key_in_place}
use Rattle.art_engine.proofs.Changing.{del_keeps, gone_done, absent_done, del_refused}
use Rattle.art_engine.proofs.Conflicts.{bytes_of}
use Rattle.art_engine.proofs.records.change.keys.remove_key.Goals as goal

pub returns-in-Ok-Some-clause-held : goal.returns-in-Ok-Some-clause-held
returns-in-Ok-Some-clause-held g c =
    let F = c.args.fields.now in let ps = c.args.records.now.pairs in
    del_keeps (tenant_in_place F) (key_in_place F) c.full_key.ensures.tenant ps c.remove.new.self.pairs c.requires.stand c.requires.fit
    (c.in-Ok-Some.ensures.pairs ∙ ap (λ j. without_key bytes_of j ps) c.full_key.ensures.value)

pub returns-in-Ok-Some-clause-done : goal.returns-in-Ok-Some-clause-done
returns-in-Ok-Some-clause-done g c =
    let F = c.args.fields.now in let ps = c.args.records.now.pairs in
    gone_done (tenant_in_place F) (key_in_place F) c.full_key.ensures.tenant ps c.remove.new.self.pairs c.requires.stand c.in-Ok-Some.value
    (sym c.in-Ok-Some.field-0-is ∙ c.in-Ok-Some.ensures.value ∙ ap (λ q. lookup (λ (j : Vec ℕ). bytes_eq j.items q) ps) c.full_key.ensures.value)
    (c.in-Ok-Some.ensures.pairs ∙ ap (λ j. without_key bytes_of j ps) c.full_key.ensures.value)

pub returns-in-Ok-None-clause-held : goal.returns-in-Ok-None-clause-held
returns-in-Ok-None-clause-held g c =
    let F = c.args.fields.now in let ps = c.args.records.now.pairs in
    del_keeps (tenant_in_place F) (key_in_place F) c.full_key.ensures.tenant ps c.remove.new.self.pairs c.requires.stand c.requires.fit
    (c.in-Ok-None.ensures.pairs ∙ ap (λ j. without_key bytes_of j ps) c.full_key.ensures.value)

pub returns-in-Ok-None-clause-done : goal.returns-in-Ok-None-clause-done
returns-in-Ok-None-clause-done g c =
    let F = c.args.fields.now in let ps = c.args.records.now.pairs in
    absent_done (tenant_in_place F) (key_in_place F) c.full_key.ensures.tenant ps c.remove.new.self.pairs c.requires.stand
    (sym c.in-Ok-None.field-0-is ∙ c.in-Ok-None.ensures.value ∙ ap (λ q. lookup (λ (j : Vec ℕ). bytes_eq j.items q) ps) c.full_key.ensures.value)
    (c.in-Ok-None.ensures.pairs ∙ ap (λ j. without_key bytes_of j ps) c.full_key.ensures.value)

pub returns-in-Err-clause-done : goal.returns-in-Err-clause-done
returns-in-Err-clause-done g c =
    let F = c.args.fields.now in let ps = c.args.records.now.pairs in
    del_refused (tenant_in_place F) (key_in_place F) c.full_key.ensures.tenant ps c.remove.new.self.pairs c.requires.stand c.in-Err.ensures.err
    (subst (λ j. HasKey bytes_of j ps × Shrinks bytes_of ps j) c.full_key.ensures.value c.in-Err.ensures.shrinks)
