-- What each kind of merge gives is what is wanted of two lists.
use Rattle.std.proofs.Common.{◌≡◌, ℕ, Bool, true, false, not, cond, List, [], ◌∷◌, refl, ap, ap₂, ◌∙◌}
use Rattle.std.specs.Prelude.{filter}
use Rattle.std.specs.List.{AllByRecursion}
use Rattle.art_set.specs.Members.{is_member}
use Rattle.art_set.specs.Merges.{intersection_of, difference_of, put_among, union_of, symmetric_difference_of}
use Rattle.art_set.specs.inner.Merging.{merged}

module _ {X : Type 0} where
  -- lists of items that pass the same
  pub filter-same : (p q : X → Bool) (xs : List X) → AllByRecursion (λ x. p x ≡ q x) xs → filter p xs ≡ filter q xs
  filter-same p q [] h = refl
  filter-same p q (x ∷ xs) h = ap₂ (λ b ys. cond b (x ∷ ys) ys) h.0 (filter-same p q xs h.1)

  all-always : (P : X → Type 0) → ((x : X) → P x) → (xs : List X) → AllByRecursion P xs
  all-always P h [] = tt
  all-always P h (x ∷ xs) = (h x, all-always P h xs)

  pub filter-none : (p : X → Bool) (xs : List X) → ((x : X) → p x ≡ false) → filter p xs ≡ []
  filter-none p [] h = refl
  filter-none p (x ∷ xs) h = ap (λ b. cond b (x ∷ filter p xs) (filter p xs)) (h x) ∙ filter-none p xs h

  filter-all : (p : X → Bool) (xs : List X) → ((x : X) → p x ≡ true) → filter p xs ≡ xs
  filter-all p [] h = refl
  filter-all p (x ∷ xs) h =
      ap (λ b. cond b (x ∷ filter p xs) (filter p xs)) (h x) ∙ ap (λ ys. x ∷ ys) (filter-all p xs h)

  filter-each : (p q : X → Bool) (xs : List X) → ((x : X) → p x ≡ q x) → filter p xs ≡ filter q xs
  filter-each p q xs h = filter-same p q xs (all-always (λ x. p x ≡ q x) h xs)

-- a choice by a test that says what the test does, its opposite, or yes whatever it says
kept : (b : Bool) → cond b true false ≡ b
kept true = refl
kept false = refl

lacks : (b : Bool) → cond b false true ≡ not b
lacks true = refl
lacks false = refl

always : (b : Bool) → cond b true true ≡ true
always true = refl
always false = refl

module _ {K : Type 0} (bytes : K → List ℕ) (xs ys : List K) where
  -- whether the second list has the key, too
  abbrev has : K → Bool
  has x = is_member bytes (bytes x) ys

  -- the keys of the first list that the second lacks
  alone : filter (λ x. cond (has x) false true) xs ≡ difference_of bytes xs ys
  alone = filter-each (λ x. cond (has x) false true) (λ x. not (has x)) xs (λ x. lacks (has x))

  pub difference-merged : merged bytes true false false xs ys ≡ difference_of bytes xs ys
  difference-merged = ap₂ (put_among bytes) (filter-none _ ys (λ y. refl)) alone

  pub intersection-merged : merged bytes false true false xs ys ≡ intersection_of bytes xs ys
  intersection-merged = ap₂ (put_among bytes) (filter-none _ ys (λ y. refl))
      (filter-each (λ x. cond (has x) true false) has xs (λ x. kept (has x)))

  pub union-merged : merged bytes true true true xs ys ≡ union_of bytes xs ys
  union-merged = ap (put_among bytes (difference_of bytes ys xs)) (filter-all _ xs (λ x. always (has x)))

  pub symmetric-merged : merged bytes true false true xs ys ≡ symmetric_difference_of bytes xs ys
  symmetric-merged = ap (put_among bytes (difference_of bytes ys xs)) alone
