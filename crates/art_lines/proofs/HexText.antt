-- The digits of joined bytes, and the bytes of digits.
use Rattle.std.proofs.Common.{◌≡◌, ℕ, ◌/◌, ◌%◌, ◌<◌, false, List, [], ◌∷◌, ◌++◌, length, take, drop, Result, Ok, Err, refl, ap, sym, ◌∙◌, subst, arith, inl, inr, take-append-drop}
use Rattle.std.specs.Prelude.{slice_index, is_ok, MatchBool, MatchResult}
use Rattle.std.proofs.lemmas.Bool.{cases_eq}
use Rattle.hex.specs.Hex.{encode_with, encode_lower, lower_digits, decode_of, decode_sized}
use Rattle.hex.specs.declared.error.FromHexError.{FromHexError}
use Rattle.hex.proofs.HexLemmas.{decode_of-even, decode_of-odd, decode_sized-odd}
use Rattle.hex.proofs.Pairs.{decode_sized-pairs}
use Rattle.art_lines.proofs.Terms.{shown, bytes}

pub encode_with-append : (t a b : List ℕ) → encode_with t (a ++ b) ≡ encode_with t a ++ encode_with t b
unfolding encode_with
encode_with-append t [] b = refl
encode_with-append t (x ∷ a) b = ap (λ r. slice_index t (x / 16) ∷ slice_index t (x % 16) ∷ r) (encode_with-append t a b)

-- the digits of some bytes, a part first
pub encode_lower-parts : (n : ℕ) (bs front back : List ℕ) → front ≡ take n bs → back ≡ drop n bs → encode_lower bs ≡ encode_lower front ++ encode_lower back
encode_lower-parts n bs front back first rest =
    ap encode_lower (sym (take-append-drop n bs)) ∙ encode_with-append lower_digits (take n bs) (drop n bs)
    ∙ ap (λ t. encode_lower t ++ encode_lower (drop n bs)) (sym first) ∙ ap (λ t. encode_lower front ++ encode_lower t) (sym rest)

pub encode_lower-nil : encode_lower [] ≡ []
unfolding encode_with
encode_lower-nil = refl

pub shown-bytes : (bs : List ℕ) → 0 < length bs → shown (bytes bs) ≡ encode_lower bs
shown-bytes [] h = absurd (omega arith)
shown-bytes (b ∷ bs) h = refl

-- digits are read into room for half as many bytes as they are into any
sized_whole : (text : List ℕ) (n : ℕ) → length text / 2 ≡ n → decode_sized text n ≡ decode_of text
sized_whole text n half =
    elim (cases_eq (length text % 2) 1) [
      | inl odd ↦ decode_sized-odd text n odd ∙ sym (decode_of-odd text odd)
      | inr other ↦ let even : length text % 2 ≡ 0 = omega arith in decode_sized-pairs text n even half ∙ sym (decode_of-even text even)
    ]

-- what is told of digits that were read into such room
told_whole : (new : List ℕ) (r : Result Unit FromHexError) (d : Result (List ℕ) FromHexError)
    → MatchResult d (λ read. (r ≡ Ok tt) × (new ≡ read)) (λ e. r ≡ Err e) → MatchBool (is_ok r) (d ≡ Ok new) (is_ok d ≡ false)
told_whole new (Ok x) (Ok read) h = ap Ok (sym h.1)
told_whole new (Err e) (Ok read) h = cc h.0
told_whole new (Ok x) (Err e) h = cc h
told_whole new (Err x) (Err e) h = refl

pub read_whole : (text new : List ℕ) (n : ℕ) (r : Result Unit FromHexError) → length text / 2 ≡ n
    → MatchResult (decode_sized text n) (λ read. (r ≡ Ok tt) × (new ≡ read)) (λ e. r ≡ Err e)
    → MatchBool (is_ok r) (decode_of text ≡ Ok new) (is_ok (decode_of text) ≡ false)
read_whole text new n r half h =
    told_whole new r (decode_of text) (subst (λ d. MatchResult d (λ read. (r ≡ Ok tt) × (new ≡ read)) (λ e. r ≡ Err e)) (sized_whole text n half) h)
