-- Where two lists of bytes end or part.
use Rattle.std.proofs.Common.{◌≡◌, ◌≢◌, ℕ, zero, suc, ◌<◌, ◌≤◌, List, [], ◌∷◌, ◌++◌, length, get_or, take, drop, refl, sym, ap, ◌∙◌, inl, inr, arith, append-nil, length-append}
use Rattle.std.proofs.lemmas.Bool.Decides.{eqb_tells}
use Rattle.art_nodes.proofs.Common.{agreeing}
use Rattle.art_bytes.proofs.Common.{IsProperFront}

-- the lists differ after a front of so many bytes
pub record Parts (xs ys : List ℕ) (n : ℕ) : Type 0 where
  pub front : List ℕ
  pub x_rest : List ℕ
  pub y_rest : List ℕ
  pub len : length front ≡ n
  pub x_is : xs ≡ front ++ get_or xs n 0 ∷ x_rest
  pub y_is : ys ≡ front ++ get_or ys n 0 ∷ y_rest
  pub apart : get_or xs n 0 ≢ get_or ys n 0
  pub taken : front ≡ take n ys

pub parts : (xs ys : List ℕ) (n : ℕ) → agreeing xs ys ≡ n → n < length xs → n < length ys → Parts xs ys n
parts [] ys n e lx ly = absurd (omega (arith, lx))
parts (x ∷ xs) [] n e lx ly = absurd (omega (arith, ly))
parts (x ∷ xs) (y ∷ ys) zero e lx ly = elim (eqb_tells x y) [
  | inl same ↦ absurd (let f : suc (agreeing xs ys) ≡ 0 = rw same.0 at e in omega arith)
  | inr other ↦ record { front = []; x_rest = xs; y_rest = ys; len = refl; x_is = refl; y_is = refl; apart = other.1; taken = refl }
]
parts (x ∷ xs) (y ∷ ys) (suc n) e lx ly = elim (eqb_tells x y) [
  | inl same ↦
      let later = parts xs ys n (let f : suc (agreeing xs ys) ≡ suc n = rw same.0 at e in omega arith) (omega (arith, lx)) (omega (arith, ly)) in
      record {
        front = x ∷ later.front;
        x_rest = later.x_rest;
        y_rest = later.y_rest;
        len = ap suc later.len;
        x_is = ap (λ zs. x ∷ zs) later.x_is;
        y_is = (let e = later.y_is in let f = same.1 in cc);
        apart = later.apart;
        taken = (let e = later.taken in let f = same.1 in cc);
      }
  | inr other ↦ absurd (let f : 0 ≡ suc n = rw other.0 at e in omega arith)
]

-- all of the first list agrees
pub through : (xs ys : List ℕ) → agreeing xs ys ≡ length xs → ys ≡ xs ++ drop (length xs) ys
through [] ys e = refl
through (x ∷ xs) [] e = absurd (omega (arith, e))
through (x ∷ xs) (y ∷ ys) e = elim (eqb_tells x y) [
  | inl same ↦ let later = through xs ys (let f : suc (agreeing xs ys) ≡ suc (length xs) = rw same.0 at e in omega arith) in let f = same.1 in cc
  | inr other ↦ absurd (let f : 0 ≡ suc (length xs) = rw other.0 at e in omega arith)
]

pub agreeing-within : (xs ys : List ℕ) → (agreeing xs ys ≤ length xs) × (agreeing xs ys ≤ length ys)
agreeing-within [] ys = (omega arith, omega arith)
agreeing-within (x ∷ xs) [] = (omega arith, omega arith)
agreeing-within (x ∷ xs) (y ∷ ys) = elim (eqb_tells x y) [
  | inl same ↦ let later = agreeing-within xs ys in rw same.0 (omega (arith, later.0), omega (arith, later.1))
  | inr other ↦ rw other.0 (omega arith, omega arith)
]

-- all of the second list agrees
pub second_agrees : (xs ys : List ℕ) → agreeing xs ys ≡ length ys → xs ≡ ys ++ drop (length ys) xs
second_agrees xs [] e = refl
second_agrees [] (y ∷ ys) e = absurd (omega (arith, e))
second_agrees (x ∷ xs) (y ∷ ys) e = elim (eqb_tells x y) [
  | inl same ↦ let later = second_agrees xs ys (let f : suc (agreeing xs ys) ≡ suc (length ys) = rw same.0 at e in omega arith) in let f = same.1 in cc
  | inr other ↦ absurd (let f : 0 ≡ suc (length ys) = rw other.0 at e in omega arith)
]

longer : (xs ys zs : List ℕ) → ys ≡ xs ++ zs → length xs < length ys → IsProperFront xs ys
longer xs ys [] e lt = absurd (omega (arith, ap length e, length-append xs [], lt))
longer xs ys (b ∷ zs) e lt = (b, zs, e)

pub first_ends : (xs ys : List ℕ) → agreeing xs ys ≡ length xs → agreeing xs ys ≢ length ys → IsProperFront xs ys
first_ends xs ys e more = longer xs ys (drop (length xs) ys) (through xs ys e) (omega (arith, (agreeing-within xs ys).1))

pub second_ends : (xs ys : List ℕ) → agreeing xs ys ≡ length ys → agreeing xs ys ≢ length xs → IsProperFront ys xs
second_ends xs ys e more = longer ys xs (drop (length ys) xs) (second_agrees xs ys e) (omega (arith, (agreeing-within xs ys).0))

pub both_end : (xs ys : List ℕ) → agreeing xs ys ≡ length xs → agreeing xs ys ≡ length ys → xs ≡ ys
both_end xs ys e f = go (drop (length xs) ys) (through xs ys e)
  where
    go : (zs : List ℕ) → ys ≡ xs ++ zs → xs ≡ ys
    go [] g = sym (g ∙ append-nil xs)
    go (z ∷ zs) g = absurd (omega (arith, ap length g, length-append xs (z ∷ zs)))
