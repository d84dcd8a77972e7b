-- How many nodes a line reads, by the family of its word.
use Rattle.std.proofs.Common.{◌≡◌, ℕ, ◌+◌, ◌-◌, ◌≤◌, ◌^◌, min, subst, ◌∙◌, arith}
use Rattle.std.specs.Prelude.{List, Option, Some, Result, Ok, Err, OnOk}
use Rattle.art_lines.proofs.Common.{Command, looks_up}
use Rattle.art_lines.specs.declared.command.fields.Fields.{Fields}
use Rattle.art_lines.specs.declared.command.word.LookUp.{LookUp}
use Rattle.art_lines.specs.declared.command.word.LookUp.TheVariants as look_up
use Rattle.art_engine.proofs.Terms.{Visits, exactly, key_visits, number_visits, visits_of, IsWithin, Grew, Records}
use Rattle.art_lines.specs.Reading.{command_of}

-- so a line reads what its command does
pub line_reads : (P : ℕ) (o : Option Command) (line : List ℕ) (held old : Records) (n : ℕ) → o ≡ command_of line → held ≡ old → IsWithin (visits_of P o held) n → IsWithin (visits_of P (command_of line) old) n
line_reads P o line held old n meant same within = subst (λ r. IsWithin (visits_of P (command_of line) r) n) same (subst (λ p. IsWithin (visits_of P p held) n) meant within)

-- one count that began at nothing, and one that stayed there
keys_alone : (v : Visits) (x y a b n : ℕ) → x ≡ 0 → y ≡ 0 → n ≡ min (a + b) (2 ^ 64 - 1) → Grew v x a → Grew (exactly 0) y b → IsWithin v n
keys_alone v x y a b n none nothing is grew stays =
    let low = grew.least in let high = grew.most in let fits = grew.fits in let still = stays.most in (omega arith, omega arith)

-- two counts that began at nothing, added up: one of both maps was read alone
pub counted_within : (P : ℕ) (w : LookUp) (f : Fields) (r : Records) (x y a b n : ℕ) → x ≡ 0 → y ≡ 0 → n ≡ min (a + b) (2 ^ 64 - 1)
    → Grew (key_visits P (Some (looks_up w f)) r) x a → Grew (number_visits P (Some (looks_up w f)) r) y b → IsWithin (visits_of P (Some (looks_up w f)) r) n
counted_within P look_up.NGet f r x y a b n none nothing is keys numbers = keys_alone _ y x b a n nothing none (is ∙ omega arith) numbers keys
counted_within P look_up.NSpan f r x y a b n none nothing is keys numbers = keys_alone _ y x b a n nothing none (is ∙ omega arith) numbers keys
counted_within P w f r x y a b n none nothing is keys numbers = keys_alone _ x y a b n none nothing is keys numbers

-- and they are no more than either may have read
pub few_within : (P : ℕ) (w : LookUp) (f : Fields) (r : Records) (x y a b n : ℕ) → x ≡ 0 → y ≡ 0 → n ≡ min (a + b) (2 ^ 64 - 1)
    → a ≤ x + (key_visits P (Some (looks_up w f)) r).most → b ≤ y + (number_visits P (Some (looks_up w f)) r).most → n ≤ (visits_of P (Some (looks_up w f)) r).most
few_within P look_up.NGet f r x y a b n none nothing is keys numbers = let k : a ≤ x + 0 = keys in omega arith
few_within P look_up.NSpan f r x y a b n none nothing is keys numbers = let k : a ≤ x + 0 = keys in omega arith
few_within P w f r x y a b n none nothing is keys numbers = let k : b ≤ y + 0 = numbers in omega arith

-- what follows of two facts that hold where all went well
pub on_both : {T E P Q R : Type 0} (r : Result T E) → (P → Q → R) → OnOk r P → OnOk r Q → OnOk r R
on_both (Ok x) f p q = f p q
on_both (Err e) f p q = tt
