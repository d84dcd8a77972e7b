-- Sums over the distinct elements of a list.
use Rattle.std.proofs.Common.{◌≡◌, ℕ, ◌+◌, List, [], ◌∷◌, ◌++◌, length, refl, sym, ap, ◌∙◌, inl, inr, arith, Bool, true, false, cond, ◌||◌, sum_by, bytes_eq}
use Rattle.std.specs.List.{AllByRecursion, list_any}
use Rattle.std.proofs.lemmas.Bool.{cond-true, cond-false, false_from_ne_true, or_left, or_right}
use Rattle.std.proofs.lemmas.List.Sums.{sum_by-cons}
use Rattle.std.proofs.lemmas.Slice.Eq.{bytes_eq-Decides}
use Rattle.art_arena.proofs.Terms.{IsIn, distinct}

pub same_bytes : (k : List ℕ) → bytes_eq k k ≡ true
same_bytes k = (bytes_eq-Decides k k).1 refl

pub bytes_from_same : (k l : List ℕ) → bytes_eq k l ≡ true → k ≡ l
bytes_from_same k l e = (bytes_eq-Decides k l).0 e

pub length_sum : {A : Type 0} (xs : List A) → length xs ≡ sum_by (λ x. 1) xs
length_sum [] = refl
length_sum {A} (x ∷ xs) = let one : A → ℕ = λ x. 1 in let h = length_sum xs in let c = sum_by-cons one x xs in omega arith

module _ {A : Type 0} (same : A → A → Bool) (same_itself : (x : A) → same x x ≡ true) (from_same : (x y : A) → same x y ≡ true → x ≡ y) where
  pub not_among : (x : A) (xs : List A) → AllByRecursion (λ y. x ≡ y → ⊥) xs → list_any (same x) xs ≡ false
  not_among x [] h = refl
  not_among x (y ∷ ys) h = ap (λ b. b || list_any (same x) ys) (false_from_ne_true (same x y) (λ e. h.0 (from_same x y e))) ∙ not_among x ys h.1

  pub among : (x : A) (xs : List A) → IsIn x xs → list_any (same x) xs ≡ true
  among x [] h = absurd h
  among x (y ∷ ys) (inl e) = or_left _ _ (ap (same x) e ∙ same_itself x)
  among x (y ∷ ys) (inr h) = or_right _ _ (among x ys h)

  any_append : (p : A → Bool) (xs ys : List A) → list_any p ys ≡ false → list_any p (xs ++ ys) ≡ list_any p xs
  any_append p [] ys e = e
  any_append p (x ∷ xs) ys e = ap (λ b. p x || b) (any_append p xs ys e)

  among_right : (p : A → Bool) (xs ys : List A) → list_any p ys ≡ true → list_any p (xs ++ ys) ≡ true
  among_right p [] ys e = e
  among_right p (x ∷ xs) ys e = or_right _ _ (among_right p xs ys e)

  pub sum_chosen : (f : A → ℕ) (b : Bool) (x : A) (ds : List A) → sum_by f (cond b ds (x ∷ ds)) ≡ cond b 0 (f x) + sum_by f ds
  sum_chosen f true x ds = omega arith
  sum_chosen f false x ds = sum_by-cons f x ds

  pub sum_again : (f : A → ℕ) (x : A) (xs : List A) → list_any (same x) xs ≡ true → sum_by f (distinct same (x ∷ xs)) ≡ sum_by f (distinct same xs)
  sum_again f x xs e = ap (sum_by f) (cond-true _ _ _ e)

  pub sum_new : (f : A → ℕ) (x : A) (xs : List A) → list_any (same x) xs ≡ false → sum_by f (distinct same (x ∷ xs)) ≡ f x + sum_by f (distinct same xs)
  sum_new f x xs e = ap (sum_by f) (cond-false _ _ _ e) ∙ sum_by-cons f x (distinct same xs)

  -- two lists with nothing in common
  pub sum_apart : (f : A → ℕ) (xs ys : List A) → AllByRecursion (λ x. list_any (same x) ys ≡ false) xs
      → sum_by f (distinct same (xs ++ ys)) ≡ sum_by f (distinct same xs) + sum_by f (distinct same ys)
  sum_apart f [] ys h = omega arith
  sum_apart f (x ∷ xs) ys h =
      let rest = sum_apart f xs ys h.1 in
      let a = sum_chosen f (list_any (same x) (xs ++ ys)) x (distinct same (xs ++ ys)) in
      let b = sum_chosen f (list_any (same x) xs) x (distinct same xs) in
      let c : cond (list_any (same x) (xs ++ ys)) 0 (f x) ≡ cond (list_any (same x) xs) 0 (f x) = ap (λ t. cond t 0 (f x)) (any_append (same x) xs ys h.0) in
      omega (arith, a, b, c, rest)

  -- one element, again and again
  pub sum_same : (f : A → ℕ) (q x : A) (xs : List A) → AllByRecursion (λ y. y ≡ q) (x ∷ xs) → sum_by f (distinct same (x ∷ xs)) ≡ f q
  sum_same f q x [] h = let e = ap f h.0 in let c = sum_by-cons f x [] in omega arith
  sum_same f q x (y ∷ ys) h = sum_again f x (y ∷ ys) (or_left _ _ (ap (same x) (h.1.0 ∙ sym h.0) ∙ same_itself x)) ∙ sum_same f q y ys h.1

  -- what stands in the second list too counts no more
  pub sum_absorbed : (f : A → ℕ) (q : A) (xs ys : List A) → AllByRecursion (λ y. y ≡ q) xs → list_any (same q) ys ≡ true
      → sum_by f (distinct same (xs ++ ys)) ≡ sum_by f (distinct same ys)
  sum_absorbed f q [] ys h e = refl
  sum_absorbed f q (x ∷ xs) ys h e =
      sum_again f x (xs ++ ys) (among_right (same x) xs ys (ap (λ z. list_any (same z) ys) h.0 ∙ e)) ∙ sum_absorbed f q xs ys h.1 e
