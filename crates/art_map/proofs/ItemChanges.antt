-- Which items a list has after a change, and which is found: pairs of a map or keys of a set, each by its key.
use Rattle.std.proofs.Common.{◌≡◌, ◌⊎◌, inl, inr, ℕ, Bool, true, false, cond, not, List, [], ◌∷◌, ◌++◌, Some, bytes_eq, refl, sym, ap, subst, ◌∙◌}
use Rattle.std.specs.List.{AllByRecursion}
use Rattle.std.specs.Prelude.{◌↔◌, filter, find}
use Rattle.std.proofs.lemmas.Bool.{not-true}
use Rattle.art_bytes.proofs.Common.{IsBefore, before_not_self}
use Rattle.art_arena.proofs.Common.{AscendsByKey, IsIn, all_at, begins_true, begins_with, bytes_from_same, is_before, other_key, put_in_order, same_key}
use Rattle.art_arena.proofs.tree.Filters.{from_kept, in_kept}
use Rattle.art_map.proofs.Terms.{first_item, last_item}
use Rattle.art_map.specs.PairLaws.{StandsLast}
use Rattle.art_operations.proofs.Common.{HasKey, without_key}

-- what begins two keys of which one comes before the other begins these too
before_longer : (k l r s : List ℕ) → IsBefore k l → IsBefore (k ++ r) (l ++ s)
before_longer [] l r s h = absurd h
before_longer (a ∷ k) [] r s h = absurd h
before_longer (a ∷ k) (b ∷ l) r s (inl h) = inl h
before_longer (a ∷ k) (b ∷ l) r s (inr h) = inr (h.0, before_longer k l r s h.1)

-- so not both begin the same bytes
fronts_apart : (query k l : List ℕ) → IsBefore k l → begins_with k query ≡ true → begins_with l query ≡ true → ⊥
fronts_apart query k l before one other =
    let (r, e) = begins_true k query one in
    let (s, f) = begins_true l query other in
    before_not_self query (subst (λ m. IsBefore m query) (sym e) (subst (IsBefore (k ++ r)) (sym f) (before_longer k l r s before)))

-- nor do both have the same bytes
keys_apart : (query k l : List ℕ) → IsBefore k l → bytes_eq k query ≡ true → bytes_eq l query ≡ true → ⊥
keys_apart query k l before one other =
    before_not_self query (subst (λ m. IsBefore m query) (bytes_from_same k query one) (subst (IsBefore k) (bytes_from_same l query other) before))

module _ {X : Type 0} where
  -- which items a filter keeps, and which it leaves where it keeps those that fail
  pub in-kept : (test : X → Bool) (q : X) (xs : List X) → IsIn q (filter test xs) ↔ (IsIn q xs × (test q ≡ true))
  in-kept test q xs = (from_kept test q xs, λ h. in_kept test q xs h.0 h.1)

  pub in-left : (test : X → Bool) (q : X) (xs : List X) → IsIn q (filter (λ x. not (test x)) xs) ↔ (IsIn q xs × (test q ≡ false))
  in-left test q xs = (
    λ i. let (there, fails) = from_kept (λ x. not (test x)) q xs i in (there, not-true (test q) fails),
    λ h. in_kept (λ x. not (test x)) q xs h.0 (ap not h.1),
  )

  -- what holds of each item of a list holds of all
  pub all-in : (P : X → Type 0) (xs : List X) → ((x : X) → IsIn x xs → P x) → AllByRecursion P xs
  all-in P [] each = tt
  all-in P (x ∷ xs) each = (each x (inl refl), all-in P xs (λ y i. each y (inr i)))

  pub last-in : (p : X) (xs : List X) → last_item xs ≡ Some p → IsIn p xs
  last-in p [] e = absurd (cc)
  last-in p (x ∷ []) e = let same : x ≡ p = cc in inl same
  last-in p (x ∷ y ∷ ys) e = inr (last-in p (y ∷ ys) e)

module _ {X : Type 0} (key : X → List ℕ) where
  in-put : (q p : X) (xs : List X) → IsIn q (put_in_order key p xs) → (q ≡ p) ⊎ IsIn q xs
  in-put q p [] (inl e) = inl (sym e)
  in-put q p [] (inr i) = inr i
  in-put q p (x ∷ xs) i = by_place (is_before (key p) (key x)) (in-put q p xs) i
    where
      following : (q ≡ p) ⊎ IsIn q xs → (q ≡ p) ⊎ IsIn q (x ∷ xs)
      following (inl e) = inl e
      following (inr k) = inr (inr k)

      by_place : (b : Bool) → (IsIn q (put_in_order key p xs) → (q ≡ p) ⊎ IsIn q xs) → IsIn q (cond b (p ∷ x ∷ xs) (x ∷ put_in_order key p xs)) → (q ≡ p) ⊎ IsIn q (x ∷ xs)
      by_place true later (inl e) = inl (sym e)
      by_place true later (inr j) = inr j
      by_place false later (inl e) = inr (inl e)
      by_place false later (inr j) = following (later j)

  put-new : (p : X) (xs : List X) → IsIn p (put_in_order key p xs)
  put-new p [] = inl refl
  put-new p (x ∷ xs) = by_place (is_before (key p) (key x)) (put-new p xs)
    where
      by_place : (b : Bool) → IsIn p (put_in_order key p xs) → IsIn p (cond b (p ∷ x ∷ xs) (x ∷ put_in_order key p xs))
      by_place true later = inl refl
      by_place false later = inr later

  put-old : (q p : X) (xs : List X) → IsIn q xs → IsIn q (put_in_order key p xs)
  put-old q p [] i = absurd i
  put-old q p (x ∷ xs) i = by_place (is_before (key p) (key x)) i (put-old q p xs)
    where
      by_place : (b : Bool) → IsIn q (x ∷ xs) → (IsIn q xs → IsIn q (put_in_order key p xs)) → IsIn q (cond b (p ∷ x ∷ xs) (x ∷ put_in_order key p xs))
      by_place true i later = inr i
      by_place false (inl e) later = inl e
      by_place false (inr j) later = inr (later j)

  -- which items there are after one that takes the place of those that pass a test
  pub in-put-over : (test : X → Bool) (p q : X) (xs : List X) → IsIn q (put_in_order key p (filter (λ x. not (test x)) xs)) ↔ ((q ≡ p) ⊎ (IsIn q xs × (test q ≡ false)))
  in-put-over test p q xs = (λ i. of (in-put q p (filter (λ x. not (test x)) xs) i), back)
    where
      of : (q ≡ p) ⊎ IsIn q (filter (λ x. not (test x)) xs) → (q ≡ p) ⊎ (IsIn q xs × (test q ≡ false))
      of (inl e) = inl e
      of (inr j) = inr ((in-left test q xs).0 j)

      back : (q ≡ p) ⊎ (IsIn q xs × (test q ≡ false)) → IsIn q (put_in_order key p (filter (λ x. not (test x)) xs))
      back (inl e) = subst (λ x. IsIn x (put_in_order key p (filter (λ y. not (test y)) xs))) (sym e) (put-new p (filter (λ x. not (test x)) xs))
      back (inr h) = put-old q p (filter (λ x. not (test x)) xs) ((in-left test q xs).1 h)

  -- the list with an item put in in place of one with its key, and with many, one after another
  abbrev pub with_item : X → List X → List X
  with_item p xs = put_in_order key p (without_key key (key p) xs)

  abbrev pub with_items : List X → List X → List X
  with_items [] xs = xs
  with_items (p ∷ ps) xs = with_items ps (with_item p xs)

  -- which items there are then
  pub in-all-put : (q : X) (ps xs : List X) → IsIn q (with_items ps xs) ↔ (StandsLast key q ps ⊎ (IsIn q xs × (HasKey key (key q) ps → ⊥)))
  in-all-put q [] xs = (λ i. inr (i, λ h. h.1), back)
    where
      back : StandsLast key q [] ⊎ (IsIn q xs × (HasKey key (key q) [] → ⊥)) → IsIn q xs
      back (inl n) = absurd n
      back (inr h) = h.0
  in-all-put q (p ∷ ps) xs = (λ i. there ((in-all-put q ps (with_item p xs)).0 i), λ h. (in-all-put q ps (with_item p xs)).1 (back h))
    where
      one : IsIn q (with_item p xs) ↔ ((q ≡ p) ⊎ (IsIn q xs × (bytes_eq (key q) (key p) ≡ false)))
      one = in-put-over (λ x. bytes_eq (key x) (key p)) p q xs

      none-more : bytes_eq (key q) (key p) ≡ false → (HasKey key (key q) ps → ⊥) → HasKey key (key q) (p ∷ ps) → ⊥
      none-more other none (x, inl e, same) = let no : true ≡ false = sym (same_key (key q) (key p) (sym (ap key e ∙ same))) ∙ other in absurd (cc)
      none-more other none (x, inr j, same) = none (x, j, same)

      put-one : (q ≡ p) ⊎ (IsIn q xs × (bytes_eq (key q) (key p) ≡ false)) → (HasKey key (key q) ps → ⊥) → StandsLast key q (p ∷ ps) ⊎ (IsIn q xs × (HasKey key (key q) (p ∷ ps) → ⊥))
      put-one (inl e) none = inl (inr (sym e, none))
      put-one (inr h) none = inr (h.0, none-more h.1 none)

      there : StandsLast key q ps ⊎ (IsIn q (with_item p xs) × (HasKey key (key q) ps → ⊥)) → StandsLast key q (p ∷ ps) ⊎ (IsIn q xs × (HasKey key (key q) (p ∷ ps) → ⊥))
      there (inl last) = inl (inl last)
      there (inr h) = put-one (one.0 h.0) h.1

      back : StandsLast key q (p ∷ ps) ⊎ (IsIn q xs × (HasKey key (key q) (p ∷ ps) → ⊥)) → StandsLast key q ps ⊎ (IsIn q (with_item p xs) × (HasKey key (key q) ps → ⊥))
      back (inl (inl last)) = inl last
      back (inl (inr (e, none))) = inr (one.1 (inl (sym e)), none)
      back (inr (i, none)) = inr (one.1 (inr (i, other_key (key q) (key p) (λ e. none (p, inl refl, sym e)))), λ h. none (h.0, inr h.1, h.2))

  -- no key comes before that of the first item, and none after that of the last
  pub first-least : (p q : X) (xs : List X) → AscendsByKey key xs → first_item xs ≡ Some p → IsIn q xs → (q ≡ p) ⊎ IsBefore (key p) (key q)
  first-least p q [] up is i = absurd i
  first-least p q (x ∷ xs) up is i = let same : x ≡ p = cc in subst (λ y. (q ≡ y) ⊎ IsBefore (key y) (key q)) same (of i)
    where
      of : IsIn q (x ∷ xs) → (q ≡ x) ⊎ IsBefore (key x) (key q)
      of (inl e) = inl (sym e)
      of (inr j) = inr (all_at (λ (y : X). IsBefore (key x) (key y)) q xs up.0 j)

  pub last-greatest : (p q : X) (xs : List X) → AscendsByKey key xs → last_item xs ≡ Some p → IsIn q xs → (q ≡ p) ⊎ IsBefore (key q) (key p)
  last-greatest p q [] up is i = absurd i
  last-greatest p q (x ∷ []) up is (inl e) = let same : x ≡ p = cc in inl (sym e ∙ same)
  last-greatest p q (x ∷ []) up is (inr i) = absurd i
  last-greatest p q (x ∷ y ∷ ys) up is (inl e) = inr (subst (λ z. IsBefore (key z) (key p)) e (all_at (λ (z : X). IsBefore (key x) (key z)) p (y ∷ ys) up.0 (last-in p (y ∷ ys) is)))
  last-greatest p q (x ∷ y ∷ ys) up is (inr j) = last-greatest p q (y ∷ ys) up.1 is j

  -- what is found by a test that two keys in order don't both pass
  module _ (test : List ℕ → Bool) (apart : (k l : List ℕ) → IsBefore k l → test k ≡ true → test l ≡ true → ⊥) where
    found-in : (p : X) (xs : List X) → find (λ x. test (key x)) xs ≡ Some p → IsIn p xs × (test (key p) ≡ true)
    found-in p [] e = absurd (cc)
    found-in p (x ∷ xs) e = by_test (test (key x)) refl e (found-in p xs)
      where
        by_test : (b : Bool) → test (key x) ≡ b → cond b (Some x) (find (λ y. test (key y)) xs) ≡ Some p → (find (λ y. test (key y)) xs ≡ Some p → IsIn p xs × (test (key p) ≡ true)) → IsIn p (x ∷ xs) × (test (key p) ≡ true)
        by_test true at e later = let same : x ≡ p = cc in (inl same, ap (λ y. test (key y)) (sym same) ∙ at)
        by_test false at e later = let (i, passes) = later e in (inr i, passes)

    in-found : (p : X) (xs : List X) → AscendsByKey key xs → IsIn p xs → test (key p) ≡ true → find (λ x. test (key x)) xs ≡ Some p
    in-found p [] up i passes = absurd i
    in-found p (x ∷ xs) up i passes = by_test (test (key x)) refl i (in-found p xs up.1)
      where
        by_test : (b : Bool) → test (key x) ≡ b → IsIn p (x ∷ xs) → (IsIn p xs → test (key p) ≡ true → find (λ y. test (key y)) xs ≡ Some p) → cond b (Some x) (find (λ y. test (key y)) xs) ≡ Some p
        by_test true at (inl e) later = ap (λ y. Some y) e
        by_test true at (inr j) later = absurd (apart (key x) (key p) (all_at (λ (y : X). IsBefore (key x) (key y)) p xs up.0 j) at passes)
        by_test false at (inl e) later = let no : true ≡ false = sym passes ∙ ap (λ y. test (key y)) (sym e) ∙ at in absurd (cc)
        by_test false at (inr j) later = later j passes

    pub found-only : (p : X) (xs : List X) → AscendsByKey key xs → (find (λ x. test (key x)) xs ≡ Some p) ↔ (IsIn p xs × (test (key p) ≡ true))
    found-only p xs up = (found-in p xs, λ h. in-found p xs up h.0 h.1)

  pub found-by-key : (query : List ℕ) (p : X) (xs : List X) → AscendsByKey key xs → (find (λ x. bytes_eq (key x) query) xs ≡ Some p) ↔ (IsIn p xs × (bytes_eq (key p) query ≡ true))
  found-by-key query = found-only (λ k. bytes_eq k query) (keys_apart query)

  pub found-by-front : (query : List ℕ) (p : X) (xs : List X) → AscendsByKey key xs → (find (λ x. begins_with (key x) query) xs ≡ Some p) ↔ (IsIn p xs × (begins_with (key p) query ≡ true))
  found-by-front query = found-only (λ k. begins_with k query) (fronts_apart query)
