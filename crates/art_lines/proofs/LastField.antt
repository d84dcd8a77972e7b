-- Where the last field of a line is bytes, a number or a tenant, its end is the line's: with a space in it, it is read as
-- none of these.
use Rattle.std.proofs.Common.{◌≡◌, ℕ, ℤ, ◌^◌, ◌+◌, ◌<◌, ◌≤◌, arith, cond, List, [], ◌∷◌, refl, ap, sym, ◌∙◌, subst, Bool, true, false, Some, None, Option, Ok, Err, Result, ◌⊎◌, inl, inr}
use Rattle.std.specs.Prelude.{◌==◌, codes, decimal, pos, option_map, option_and_then}
use Rattle.std.specs.List.{onto_first, AllPass}
use Rattle.std.specs.Str.{bytes_eq}
use Rattle.std.proofs.lemmas.Bool.{cond_both, true≢false, eqb-true, ne_eqb}
use Rattle.std.proofs.lemmas.Fmt.{decimal_is_IsNumeral}
use Rattle.std.proofs.lemmas.Str.Parse.{digit_at}
use Rattle.std.proofs.lemmas.Slice.Eq.{bytes_eq-Decides}
use Rattle.hex.specs.Hex.{decode_of, is_hex_digit}
use Rattle.hex.specs.declared.error.FromHexError.{FromHexError}
use Rattle.hex.proofs.HexLemmas.{decode_of-ok}
use Rattle.art_lines.proofs.Terms.{fields_of, negated, some_bytes}
use Rattle.art_lines.specs.Reading.{natural_in, tenant_in, number_in, bytes_in}
use Rattle.art_lines.proofs.Parsing.{fields_none, fields_some, natural_is}

-- digits are one field
digits_whole : (s : List ℕ) → AllPass is_hex_digit s → fields_of s ≡ s ∷ []
digits_whole s h = fields_none s (λ k lt e. absurd (true≢false (sym (h k 0 lt) ∙ ap is_hex_digit e)))

-- so is what is read as bytes
bytes_whole : (text bs : List ℕ) → bytes_in text ≡ Some bs → fields_of text ≡ text ∷ []
unfolding bytes_in
bytes_whole text bs h =
    cond_both (bytes_eq text (codes "-")) (Some []) (some_bytes (decode_of text)) (λ o. o ≡ Some bs → fields_of text ≡ text ∷ [])
    (λ e f. let dash : text ≡ codes "-" = (bytes_eq-Decides text (codes "-")).0 e in subst (λ t. fields_of t ≡ t ∷ []) (sym dash) refl) (λ e f. decoded (decode_of text) refl f) h
  where
    decoded : (r : Result (List ℕ) FromHexError) → decode_of text ≡ r → some_bytes r ≡ Some bs → fields_of text ≡ text ∷ []
    decoded (Ok all) e f = digits_whole text (decode_of-ok text all e).1
    decoded (Err x) e f = cc f

-- so is what is read as a number
decimal_whole : (n : ℕ) → n < 2 ^ 64 → fields_of (decimal n) ≡ decimal n ∷ []
decimal_whole n small =
    let numeral = decimal_is_IsNumeral n small in
    fields_none (decimal n) (λ k lt e. let digit = digit_at (decimal n) k numeral.0.1 lt in let low = digit.0 in omega arith)

natural_whole : (limit : ℕ) (text : List ℕ) (n : ℕ) → limit ≤ 2 ^ 64 → natural_in limit text ≡ Some n → fields_of text ≡ text ∷ []
natural_whole limit text n low h =
    let is = natural_is limit text n h in let small = is.1 in
    subst (λ t. fields_of t ≡ t ∷ []) (sym is.0) (decimal_whole n (omega arith))

below_some : (o : Option ℕ) (z : ℤ) → option_and_then negated o ≡ Some z → (n : ℕ) × (o ≡ Some n)
below_some None z h = cc
below_some (Some n) z h = (n, refl)

above_some : (o : Option ℕ) (z : ℤ) → option_map (λ n. pos n) o ≡ Some z → (n : ℕ) × (o ≡ Some n)
above_some None z h = cc
above_some (Some n) z h = (n, refl)

number_whole : (text : List ℕ) (z : ℤ) → number_in text ≡ Some z → fields_of text ≡ text ∷ []
unfolding number_in
number_whole [] z h = cc
number_whole (b ∷ rest) z h = go (b == 45) refl h
  where
    go : (o : Bool) → (b == 45) ≡ o → cond o (option_and_then negated (natural_in (2 ^ 63 + 1) rest)) (option_map (λ n. pos n) (natural_in (2 ^ 63) (b ∷ rest))) ≡ Some z
        → fields_of (b ∷ rest) ≡ (b ∷ rest) ∷ []
    go true e f =
        let some = below_some (natural_in (2 ^ 63 + 1) rest) z f in
        let minus = eqb-true b 45 e in
        rw (ne_eqb b 32 (λ g. omega arith)) (ap (onto_first b) (natural_whole (2 ^ 63 + 1) rest some.0 (omega arith) some.1))
    go false e f =
        let some = above_some (natural_in (2 ^ 63) (b ∷ rest)) z f in
        natural_whole (2 ^ 63) (b ∷ rest) some.0 (omega arith) some.1

-- a text is one field, or it has a second one
pub one_or_more : (text : List ℕ) → (fields_of text ≡ text ∷ []) ⊎ ((f g : List ℕ) × (fs : List (List ℕ)) × (fields_of text ≡ f ∷ g ∷ fs))
one_or_more [] = inl refl
one_or_more (x ∷ xs) = go (x == 32) refl (one_or_more xs)
  where
    go : (b : Bool) → (x == 32) ≡ b → (fields_of xs ≡ xs ∷ []) ⊎ ((f g : List ℕ) × (fs : List (List ℕ)) × (fields_of xs ≡ f ∷ g ∷ fs))
        → (fields_of (x ∷ xs) ≡ (x ∷ xs) ∷ []) ⊎ ((f g : List ℕ) × (fs : List (List ℕ)) × (fields_of (x ∷ xs) ≡ f ∷ g ∷ fs))
    go true e again = let some = fields_some xs in inr ([], some.0, some.1, rw e (ap (λ l. [] ∷ l) some.2))
    go false e (inl one) = inl (rw e (ap (onto_first x) one))
    go false e (inr more) = inr (x ∷ more.0, more.1, more.2, rw e (ap (onto_first x) more.3))

-- what reads a field reads none that has a second one in it
abbrev pub ReadsOneField : {A : Type 0} → (List ℕ → Option A) → Type 0
ReadsOneField read = (text f g : List ℕ) (fs : List (List ℕ)) → fields_of text ≡ f ∷ g ∷ fs → read text ≡ None

one_field : {A : Type 0} (read : List ℕ → Option A) → ((text : List ℕ) (a : A) → read text ≡ Some a → fields_of text ≡ text ∷ []) → ReadsOneField read
one_field {A} read whole text f g fs more = go (read text) refl
  where
    go : (o : Option A) → read text ≡ o → o ≡ None
    go None e = refl
    go (Some a) e = cc (sym more ∙ whole text a e)

pub no_bytes : ReadsOneField bytes_in
no_bytes = one_field bytes_in bytes_whole

pub no_number : ReadsOneField number_in
no_number = one_field number_in number_whole

pub no_tenant : ReadsOneField tenant_in
unfolding tenant_in
no_tenant = one_field tenant_in (λ text n. natural_whole (2 ^ 32) text n (omega arith))
