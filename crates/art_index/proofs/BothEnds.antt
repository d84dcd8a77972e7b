-- What holds at the end of the program of the two steps to it: all is answered, and what was written is flushed.
use Rattle.std.proofs.Common.{◌≡◌, ℕ, Bool, true, false, List, [], ◌++◌, Ok, Err, Result, refl, sym, ap, subst, ◌∙◌}
use Rattle.std.proofs.Common.{append-nil, inl, inr, arith, suc, ◌<◌}
use Rattle.std.specs.Prelude.{OnErr, OnOk, IfErr, IsErr, is_err, ◌↔◌, ◌⊎◌, ◌≢◌}
use Rattle.art_lines.specs.Lines.{lines_of, lines_so_far, whole_lines_of}
use Rattle.art_engine.specs.Faults.{AfterWriteFault}
use Rattle.art_engine.specs.State.{State}
use Rattle.art_engine.specs.Outcome.{IsOutcome}
use Rattle.art_engine.specs.declared.handling.RunFault.{RunFault}
use Rattle.art_engine.specs.declared.handling.RunFault.TheVariants.{Read, Write}

-- the second step went well only where the first did
pub well_done : {T U E P Q : Type 0} (first : Result T E) (last : Result U E) → OnOk first P → IfErr first (λ e. last ≡ Err e) → (P → Q) → OnOk last Q
well_done (Ok x) (Ok y) p kept f = f p
well_done (Ok x) (Err e) p kept f = tt
well_done {T} {U} {E} {P} {Q} (Err e) last p kept f = subst (λ r. OnOk r Q) (sym kept) tt

-- what was given and what was taken, from nothing
pub all_answered : {P : ℕ} (old new : State P) (given taken out start begun : List ℕ) → start ≡ [] → begun ≡ [] → out ≡ taken
    → ((text written : List ℕ) × (given ≡ start ++ text) × (taken ≡ begun ++ written) × IsOutcome old (lines_of text) written new)
    → IsOutcome old (lines_of given) out new
all_answered old new given taken out start begun none nothing same o =
    let text : List ℕ = o.0 in let written : List ℕ = o.1 in
    let is : text ≡ given = sym (o.2 ∙ ap (λ s. s ++ text) none) in
    let wrote : written ≡ out = sym (same ∙ o.3 ∙ ap (λ s. s ++ written) nothing) in
    subst (λ w. IsOutcome old (lines_of given) w new) wrote (subst (λ g. IsOutcome old (lines_of g) written new) is o.4)

-- a failed read is told, and nothing else is told as one
pub read_is_told : {T : Type 0} (first last : Result T RunFault) (failed : Bool) → (first ≡ Err Read) ↔ (failed ≡ true) → IfErr first (λ e. last ≡ Err e)
    → OnOk first (IfErr last (λ e. e ≡ Write)) → (last ≡ Err Read) ↔ (failed ≡ true)
read_is_told (Ok x) (Ok y) failed told kept write = (λ e. absurd (cc), λ f. let no = told.1 f in absurd (cc))
read_is_told (Ok x) (Err e) failed told kept write = (λ e. absurd (cc), λ f. let no = told.1 f in absurd (cc))
read_is_told (Err e) last failed told kept write = subst (λ r. (r ≡ Err Read) ↔ (failed ≡ true)) (sym kept) told

-- where all went well no write failed
pub no_write_failed : {T U E : Type 0} (first : Result T E) (last : Result U E) (failed : Bool) → OnOk first (is_err last ≡ failed) → IfErr first (λ e. last ≡ Err e)
    → OnOk last (failed ≡ false)
no_write_failed (Ok x) (Ok y) failed exact kept = sym exact
no_write_failed (Ok x) (Err e) failed exact kept = tt
no_write_failed {T} {U} {E} (Err e) last failed exact kept = subst (λ r. OnOk r (failed ≡ false)) (sym kept) tt

-- a failed write is told where the read did not fail: by the first step, or by the flush after it
pub write_is_told : {T : Type 0} (first last : Result T RunFault) (read before after : Bool) → (first ≡ Err Read) ↔ (read ≡ true)
    → (first ≡ Err Write) ↔ ((before ≡ true) × (read ≡ false)) → IfErr first (λ e. last ≡ Err e) → OnOk first (IfErr last (λ e. e ≡ Write)) → OnOk first (is_err last ≡ after)
    → OnErr first (after ≡ before) → (last ≡ Err Write) ↔ ((after ≡ true) × (read ≡ false))
write_is_told (Ok x) (Ok y) read before after told wrote kept write exact same = (λ e. absurd (cc), λ f. let yes = f.0 in absurd (cc))
write_is_told (Ok x) (Err e) true before after told wrote kept write exact same = let no = told.1 refl in absurd (cc)
write_is_told (Ok x) (Err e) false before after told wrote kept write exact same = (λ _. (sym exact, refl), λ _. ap Err write)
write_is_told (Err e) last read before after told wrote kept write exact same =
    (λ f. let is = wrote.0 (sym kept ∙ f) in (same ∙ is.0, is.1), λ f. kept ∙ wrote.1 (sym same ∙ f.0, f.1))

-- where one fault is told, a failed write is told where the read did not fail
pub ran_write_is_told : {T : Type 0} (first : Result T RunFault) (read wrote : Bool) → (first ≡ Err Read) ↔ (read ≡ true) → (first ≡ Err Write) ↔ (wrote ≡ true)
    → (first ≡ Err Write) ↔ ((wrote ≡ true) × (read ≡ false))
ran_write_is_told first true wrote told w = (λ f. let is = told.1 refl in absurd (cc), λ f. let no = f.1 in absurd (cc))
ran_write_is_told first false wrote told w = (λ f. (w.0 f, refl), λ f. w.1 f.0)

-- where a failed read is told, it is that of the first step, and what holds after that one's fault
pub read_first : {T A : Type 0} (first last : Result T RunFault) → IfErr first (λ e. last ≡ Err e) → OnOk first (IfErr last (λ e. e ≡ Write)) → OnErr first A → last ≡ Err Read
    → (first ≡ Err Read) × A
read_first (Ok x) (Ok y) kept write a is = absurd (cc)
read_first (Ok x) (Err e) kept write a is = let no : e ≡ Write = write in absurd (cc)
read_first (Err e) last kept write a is = (sym kept ∙ is, a)

-- and where a failed write is told, it is that of the first step, or all was answered, and it was flushed
pub write_first : {T Q R : Type 0} (first last : Result T RunFault) → IfErr first (λ e. last ≡ Err e) → OnOk first Q → OnOk first R → last ≡ Err Write → (first ≡ Err Write) ⊎ (R × Q)
write_first (Ok x) last kept q r is = inr (r, q)
write_first (Err e) last kept q r is = inl (sym kept ∙ is)

-- where the first step went well no write failed, so it was flushed
pub was_flushed : {T E : Type 0} (first : Result T E) (failed : Bool) (before after : ℕ) → (failed ≡ true → IsErr first) → OnOk first (failed ≡ false → after ≡ suc before) → OnOk first (0 < after)
was_flushed (Ok x) true before after told calls = let no : false ≡ true = told refl in absurd (cc)
was_flushed (Ok x) false before after told calls = let is = calls refl in omega arith
was_flushed (Err e) failed before after told calls = tt

module _ {P : ℕ} (old new : State P) (given taken out start begun : List ℕ) (none : start ≡ []) (nothing : begun ≡ []) (same : out ≡ taken) where
  whole : (text : List ℕ) → given ≡ start ++ text → text ≡ given
  whole text is = sym (is ∙ ap (λ s. s ++ text) none)

  -- what was answered after a failed read, from nothing
  pub read_answered : (failed now : Bool) → now ≡ failed
      → ((text written rest : List ℕ) × (given ≡ start ++ text) × (taken ++ rest ≡ begun ++ written) × ((failed ≡ false) ↔ (rest ≡ [])) × IsOutcome old (whole_lines_of text) written new)
      → (written rest : List ℕ) × (out ++ rest ≡ written) × ((now ≡ false) ↔ (rest ≡ [])) × IsOutcome old (whole_lines_of given) written new
  read_answered failed now is o =
      let text : List ℕ = o.0 in let written : List ℕ = o.1 in let rest : List ℕ = o.2 in (
        written,
        rest,
        ap (λ t. t ++ rest) same ∙ o.4 ∙ ap (λ s. s ++ written) nothing,
        (λ fine. o.5.0 (sym is ∙ fine), λ none. is ∙ o.5.1 none),
        subst (λ t. IsOutcome old (whole_lines_of t) written new) (whole text o.3) o.6,
      )

  pub read_answered_at_once : ((text written : List ℕ) × (given ≡ start ++ text) × (taken ≡ begun ++ written) × IsOutcome old (whole_lines_of text) written new)
      → IsOutcome old (whole_lines_of given) out new
  read_answered_at_once o =
      let text : List ℕ = o.0 in let written : List ℕ = o.1 in
      subst (λ w. IsOutcome old (whole_lines_of given) w new) (sym (same ∙ o.3 ∙ ap (λ s. s ++ written) nothing))
      (subst (λ t. IsOutcome old (whole_lines_of t) written new) (whole text o.2) o.4)

  -- and after a failed write
  pub write_answered : {F : Type 0} (ended : Bool)
      → ((text written rest : List ℕ) × (given ≡ start ++ text) × (taken ++ rest ≡ begun ++ written) × (rest ≢ [])
      × (AfterWriteFault old (lines_so_far ended text) written new ⊎ IsOutcome old (lines_of text) written new))
      → (written rest : List ℕ) × (out ++ rest ≡ written) × (rest ≡ [] → F × IsOutcome old (lines_of given) written new)
      × (AfterWriteFault old (lines_so_far ended given) written new ⊎ IsOutcome old (lines_of given) written new)
  write_answered ended o =
      let text : List ℕ = o.0 in let written : List ℕ = o.1 in let rest : List ℕ = o.2 in (
        written,
        rest,
        ap (λ t. t ++ rest) same ∙ o.4 ∙ ap (λ s. s ++ written) nothing,
        λ none. absurd (o.5 none),
        subst (λ t. AfterWriteFault old (lines_so_far ended t) written new ⊎ IsOutcome old (lines_of t) written new) (whole text o.3) o.6,
      )

  pub write_answered_at_once : (ended : Bool)
      → ((text written : List ℕ) × (given ≡ start ++ text) × (taken ≡ begun ++ written) × AfterWriteFault old (lines_so_far ended text) written new)
      → AfterWriteFault old (lines_so_far ended given) out new
  write_answered_at_once ended o =
      let text : List ℕ = o.0 in let written : List ℕ = o.1 in
      subst (λ w. AfterWriteFault old (lines_so_far ended given) w new) (sym (same ∙ o.3 ∙ ap (λ s. s ++ written) nothing))
      (subst (λ t. AfterWriteFault old (lines_so_far ended t) written new) (whole text o.2) o.4)

  -- where all was answered nothing is left
  pub all_written : {F : Type 0} (ended : Bool) → F → IsOutcome old (lines_of given) out new
      → (written rest : List ℕ) × (out ++ rest ≡ written) × (rest ≡ [] → F × IsOutcome old (lines_of given) written new)
      × (AfterWriteFault old (lines_so_far ended given) written new ⊎ IsOutcome old (lines_of given) written new)
  all_written ended f o = (out, [], append-nil out, λ _. (f, o), inr o)
