-- Lemmas on lists of bytes that are compared several bytes at once.
use Rattle.std.proofs.Common.{◌≡◌, ℕ, ◌+◌, ◌%◌, ◌^◌, ◌-◌, ◌≤◌, eqb, not, cond, List, [], ◌∷◌, ◌++◌, map, length, take, drop, w8, refl, sym, ap, ap₂, ◌∙◌, inl, inr, arith, eqb-true, eq-eqb, slice_index_or}
use Rattle.std.specs.Prelude.{IsTrue, nat_eq}
use Rattle.std.proofs.Math.Seq.{take-add}
use Rattle.std.proofs.lemmas.Bool.Decides.{eqb_tells}
use Rattle.std.proofs.lemmas.List.{drop-append-le, length-drop, take-append-drop, take-append-le, take-take, take_all}
use Rattle.std.proofs.lemmas.Simd.{length-zip2, mask_l-mod, tops_compared}
use lib.Lanes.{mask_l, top, zip2}
use Rattle.art_bytes.proofs.Common.{BeginsWith}

-- where no lane is marked as other, all are the same
same_lanes : (xs ys : List ℕ) → length xs ≡ length ys → mask_l (zip2 (λ x y. not (eqb x y)) xs ys) ≡ 0 → xs ≡ ys
same_lanes [] [] long none = refl
same_lanes [] (y ∷ ys) long none = absurd cc
same_lanes (x ∷ xs) [] long none = absurd cc
same_lanes (x ∷ xs) (y ∷ ys) long none = elim (eqb_tells x y) [
  | inl yes_it ↦
      let rest = rw yes_it.0 at none in
      ap₂ (λ b bs. b ∷ bs) yes_it.1 (same_lanes xs ys (omega (arith, long)) (omega (arith, rest)))
  | inr no_it ↦ let some = rw no_it.0 at none in absurd (omega (arith, some))
]

no_marks : (xs : List ℕ) → mask_l (zip2 (λ x y. not (eqb x y)) xs xs) ≡ 0
no_marks [] = refl
no_marks (x ∷ xs) = elim (eqb_tells x x) [
  | inl yes_it ↦ rw yes_it.0 (omega (arith, no_marks xs))
  | inr no_it ↦ absurd (no_it.1 refl)
]

-- what the marks of lanes that differ tell
pub lanes_tell : (xs ys : List ℕ) (n : ℕ) → length xs ≡ n → length ys ≡ n → n ≤ 64
    → let marks = mask_l (map (top 7) (zip2 (λ a b. cond (not (eqb a b)) (2 ^ 8 - 1) 0) xs ys)) % 2 ^ 64 in
    (IsTrue (nat_eq marks 0) → xs ≡ ys) × (xs ≡ ys → IsTrue (nat_eq marks 0))
lanes_tell xs ys n long long_too few =
    let differ = λ (x y : ℕ). not (eqb x y) in
    let lanes = tops_compared w8 differ xs ys in
    let marks = ap (λ ms. mask_l ms % 2 ^ 64) lanes ∙ mask_l-mod (zip2 differ xs ys) 64 (omega (arith, long, few, length-zip2 differ xs ys (long ∙ sym long_too))) in (
      λ none. same_lanes xs ys (long ∙ sym long_too) (sym marks ∙ eqb-true _ 0 none),
      λ same. ap (λ m. nat_eq m 0) (marks ∙ ap (λ l. mask_l (zip2 differ xs l)) (sym same) ∙ no_marks xs),
    )

-- each part of a front stands at the same place in a list that begins with it
pub parts_agree : (front bytes : List ℕ) (at n : ℕ) → at + n ≤ length front → BeginsWith front bytes → take n (drop at bytes) ≡ take n (drop at front)
parts_agree front bytes at n within (rest, e) =
    ap (λ l. take n (drop at l)) e ∙ ap (take n) (drop-append-le at front rest (omega (arith, within))) ∙ take-append-le n (drop at front) rest (omega (arith, within, length-drop at front))

pub take_part : (front bytes : List ℕ) (at n : ℕ) → take at front ≡ take at bytes → take n (drop at bytes) ≡ take n (drop at front) → take (at + n) front ≡ take (at + n) bytes
take_part front bytes at n so_far part = take-add at n front ∙ ap₂ (λ p q. p ++ q) so_far (sym part) ∙ sym (take-add at n bytes)

pub begins_whole : (front bytes : List ℕ) (n : ℕ) → n ≡ length front → take n front ≡ take n bytes → BeginsWith front bytes
begins_whole front bytes n all same =
    let whole : take n bytes ≡ front = sym same ∙ take_all n front (omega (arith, all)) in
    (drop n bytes, sym (take-append-drop n bytes) ∙ ap (λ (p : List ℕ). p ++ drop n bytes) whole)

-- a last part that reaches back over bytes which agree
pub begins_by_last : (front bytes : List ℕ) (at last n : ℕ) → last ≤ at → last + n ≡ length front → take at front ≡ take at bytes → take n (drop last bytes) ≡ take n (drop last front) → BeginsWith front bytes
begins_by_last front bytes at last n back all so_far part =
    let before : take last front ≡ take last bytes = sym (take-take last at front back) ∙ ap (take last) so_far ∙ take-take last at bytes back in
    begins_whole front bytes (last + n) all (take_part front bytes last n before part)

-- a list of no bytes is a front of each
pub begins_empty : (front : List ℕ) → length front ≡ 0 → (bytes : List ℕ) → BeginsWith front bytes
begins_empty [] none bytes = (bytes, refl)
begins_empty (b ∷ front) none bytes = absurd cc

-- what the test of one byte tells
pub one_byte_tells : (front bytes : List ℕ) → length front ≡ 1 → 1 ≤ length bytes
    → let same = nat_eq (slice_index_or bytes 0 0) (slice_index_or front 0 0) in
    (IsTrue same → BeginsWith front bytes) × (BeginsWith front bytes → IsTrue same)
one_byte_tells [] bytes one some = absurd cc
one_byte_tells (b ∷ c ∷ front) bytes one some = absurd (omega (arith, one))
one_byte_tells (b ∷ []) [] one some = absurd (omega (arith, some))
one_byte_tells (b ∷ []) (a ∷ bytes) one some = (
  λ same. (bytes, ap (λ x. x ∷ bytes) (eqb-true a b same)),
  λ begins. let same : a ≡ b = let e = begins.1 in cc in eq-eqb a b same,
)
