use Rattle.std.proofs.Common.{ℕ, ap, sym, subst, ◌∙◌, bytes_eq}
use Rattle.std.specs.Global.{Vec}
use Rattle.std.specs.Map.{lookup}
use Rattle.art_operations.proofs.Common.{IsBlocked}
use Rattle.art_lines.proofs.Common.{tenant_in_place, key_in_place, value_in_place}
use Rattle.art_engine.proofs.Conflicts.{bytes_of}
use Rattle.art_engine.proofs.Placing.{conflict_placed, put_keeps_pairs, new_placed, old_placed}
use Rattle.art_engine.proofs.records.change.keys.put_value.Goals as goal

pub returns-in_default-clause-placed : goal.returns-in_default-clause-placed
returns-in_default-clause-placed g c =
    let F = c.args.fields.now in let ps = c.args.records.now.pairs in
    conflict_placed ps (tenant_in_place F) (key_in_place F) (value_in_place F) c.requires.held.stand c.requires.fits.tenant_fits
    (subst (λ q. IsBlocked bytes_of q ps) c.full_key-full.ensures.value c.in_default.ensures.placed)

pub returns-in-Ok-Some-clause-held : goal.returns-in-Ok-Some-clause-held
returns-in-Ok-Some-clause-held g c =
    let F = c.args.fields.now in let ps = c.args.records.now.pairs in
    put_keeps_pairs ps (tenant_in_place F) (key_in_place F) (value_in_place F) c.requires.held.stand c.requires.fits.tenant_fits (c.in-Ok-from_slice.key, c.in-Ok-from_slice-2.value) c.insert_at.new.self.pairs
    (c.in-Ok-from_slice.ensures.items ∙ c.full_key-full.ensures.value) (c.in-Ok-from_slice-2.ensures.items ∙ c.value.ensures.value)
    (subst (λ q. IsBlocked bytes_of q ps → ⊥) c.full_key-full.ensures.value c.in-Ok.ensures.placed.1) c.in-Ok-Some.ensures.pairs c.requires.held.fit c.requires.fits

pub returns-in-Ok-Some-clause-placed : goal.returns-in-Ok-Some-clause-placed
returns-in-Ok-Some-clause-placed g c =
    let F = c.args.fields.now in let ps = c.args.records.now.pairs in
    let full = c.in-Ok-from_slice.ensures.items ∙ c.full_key-full.ensures.value in
    old_placed ps (tenant_in_place F) (key_in_place F) (value_in_place F) c.requires.held.stand c.requires.fits.tenant_fits (c.in-Ok-from_slice.key, c.in-Ok-from_slice-2.value) c.insert_at.new.self.pairs
    full (c.in-Ok-from_slice-2.ensures.items ∙ c.value.ensures.value)
    (subst (λ q. IsBlocked bytes_of q ps → ⊥) c.full_key-full.ensures.value c.in-Ok.ensures.placed.1) c.in-Ok-Some.ensures.pairs
    c.in-Ok-Some.old (sym c.in-Ok-Some.field-0-is ∙ c.in-Ok-Some.ensures.value ∙ ap (λ q. lookup (λ (j : Vec ℕ). bytes_eq j.items q) ps) full)

pub returns-in-Ok-None-clause-held : goal.returns-in-Ok-None-clause-held
returns-in-Ok-None-clause-held g c =
    let F = c.args.fields.now in let ps = c.args.records.now.pairs in
    put_keeps_pairs ps (tenant_in_place F) (key_in_place F) (value_in_place F) c.requires.held.stand c.requires.fits.tenant_fits (c.in-Ok-from_slice.key, c.in-Ok-from_slice-2.value) c.insert_at.new.self.pairs
    (c.in-Ok-from_slice.ensures.items ∙ c.full_key-full.ensures.value) (c.in-Ok-from_slice-2.ensures.items ∙ c.value.ensures.value)
    (subst (λ q. IsBlocked bytes_of q ps → ⊥) c.full_key-full.ensures.value c.in-Ok.ensures.placed.1) c.in-Ok-None.ensures.pairs c.requires.held.fit c.requires.fits

pub returns-in-Ok-None-clause-placed : goal.returns-in-Ok-None-clause-placed
returns-in-Ok-None-clause-placed g c =
    let F = c.args.fields.now in let ps = c.args.records.now.pairs in
    let full = c.in-Ok-from_slice.ensures.items ∙ c.full_key-full.ensures.value in
    new_placed ps (tenant_in_place F) (key_in_place F) (value_in_place F) c.requires.held.stand c.requires.fits.tenant_fits (c.in-Ok-from_slice.key, c.in-Ok-from_slice-2.value) c.insert_at.new.self.pairs
    full (c.in-Ok-from_slice-2.ensures.items ∙ c.value.ensures.value)
    (subst (λ q. IsBlocked bytes_of q ps → ⊥) c.full_key-full.ensures.value c.in-Ok.ensures.placed.1) c.in-Ok-None.ensures.pairs
    (sym c.in-Ok-None.field-0-is ∙ c.in-Ok-None.ensures.value ∙ ap (λ q. lookup (λ (j : Vec ℕ). bytes_eq j.items q) ps) full)
