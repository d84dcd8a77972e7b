-- Each ascending list has a canonical tree.
use Rattle.std.proofs.Common.{◌≡◌, ℕ, List, [], ◌∷◌, ◌++◌, refl, sym, ap, ◌∙◌, subst, inl, inr, Some, true, eq-eqb, lt-ltb, eqb-true, ltb-true}
use Rattle.std.specs.List.{AllByRecursion}
use Rattle.std.proofs.lemmas.Bool.{cond-true, cond-false, or_left, or_right, and_from, or_cases, and_parts, false_from_ne_true}
use Rattle.art_arena.proofs.Terms.{AscendsByKey, IsIn, IsPutIn, is_before, put_in_order, Tree, leaf, items, IsCanonical, tree_of}
use Rattle.art_arena.proofs.tree.Canonical.{ascending}
use Rattle.art_arena.proofs.tree.Unique.{tree_of_items}
use Rattle.art_arena.proofs.tree.Insert.{all_at, in_right, Inserting, grown, found, blocked, insert}
use Rattle.art_bytes.proofs.Common.{IsBefore, before_trans, before_not_self, conflict_not_before}

pub before_true : (k l : List ℕ) → IsBefore k l → is_before k l ≡ true
before_true [] l h = absurd h
before_true (a ∷ k) [] h = absurd h
before_true (a ∷ k) (b ∷ l) (inl h) = or_left _ _ (lt-ltb a b h)
before_true (a ∷ k) (b ∷ l) (inr h) = or_right _ _ (and_from _ _ (eq-eqb a b h.0) (before_true k l h.1))

pub true_before : (k l : List ℕ) → is_before k l ≡ true → IsBefore k l
true_before [] l h = absurd (cc)
true_before (a ∷ k) [] h = absurd (cc)
true_before (a ∷ k) (b ∷ l) h =
    elim (or_cases _ _ h) [
      | inl e ↦ inl (ltb-true a b e)
      | inr e ↦ let p = and_parts _ _ e in inr (eqb-true a b p.0, true_before k l p.1)
    ]

module _ {X : Type 0} (key : X → List ℕ) where
  pub in_middle : (front : List X) (x : X) (back : List X) → IsIn x (front ++ x ∷ back)
  in_middle front x back = in_right x front (x ∷ back) (inl refl)

  -- the place is the one where the list stays ascending
  pub put_is : (x : X) (front back : List X) → AscendsByKey key (front ++ x ∷ back) → put_in_order key x (front ++ back) ≡ front ++ x ∷ back
  put_is x [] [] h = refl
  put_is x [] (y ∷ back) h = cond-true _ _ _ (before_true (key x) (key y) h.0.0)
  put_is x (y ∷ front) back h =
      let less = all_at (λ z. IsBefore (key y) (key z)) x (front ++ x ∷ back) h.0 (in_middle front x back) in
      cond-false _ _ _ (false_from_ne_true _ (λ e. before_not_self (key x) (before_trans (key x) (key y) (key x) (true_before (key x) (key y) e) less)))
      ∙ ap (λ l. y ∷ l) (put_is x front back h.1)

  -- the first item is put in in front
  first_place : (x : X) (xs ys : List X) → AllByRecursion (λ y. IsBefore (key x) (key y)) xs → AscendsByKey key ys → IsPutIn x xs ys → ys ≡ x ∷ xs
  first_place x xs ys h asc ([], back, e, f) = f ∙ ap (λ l. x ∷ l) (sym e)
  first_place x xs ys h asc (y ∷ front, back, e, f) =
      let all = subst (AllByRecursion (λ z. IsBefore (key x) (key z))) e h in
      let whole = subst (AscendsByKey key) f asc in
      let less = all_at (λ z. IsBefore (key y) (key z)) x (front ++ x ∷ back) whole.0 (in_middle front x back) in
      absurd (before_not_self (key x) (before_trans (key x) (key y) (key x) all.0 less))

  grows : (x : X) (xs : List X) → AscendsByKey key (x ∷ xs) → (t : Tree X) → items t ≡ xs → Inserting key [] x t
      → (u : Tree X) × IsCanonical key [] u × (items u ≡ x ∷ xs)
  grows x xs h t e (grown u k put) = (u, k, first_place x xs (items u) h.0 (ascending key [] u k) (subst (λ l. IsPutIn x l (items u)) e put))
  grows x xs h t e (found y i f) =
      let less = all_at (λ z. IsBefore (key x) (key z)) y xs h.0 (subst (IsIn y) e i) in
      absurd (before_not_self (key x) (subst (IsBefore (key x)) (sym f) less))
  grows x xs h t e (blocked y i f) =
      absurd (conflict_not_before (key x) (key y) f (all_at (λ z. IsBefore (key x) (key z)) y xs h.0 (subst (IsIn y) e i)))

  pub tree_exists : (x : X) (xs : List X) → AscendsByKey key (x ∷ xs) → (t : Tree X) × IsCanonical key [] t × (items t ≡ x ∷ xs)
  tree_exists x [] h = (leaf x, (key x, refl), refl)
  tree_exists x (y ∷ ys) h =
      let t = tree_exists y ys h.1 in
      grows x (y ∷ ys) h t.0 t.2 (insert key [] t.0 t.1 x (key x) refl)

  -- what tree_of builds of an ascending list
  pub tree_of_ascending : (x : X) (xs : List X) → AscendsByKey key (x ∷ xs) → (t : Tree X) × (tree_of key (x ∷ xs) ≡ Some t) × IsCanonical key [] t × (items t ≡ x ∷ xs)
  tree_of_ascending x xs h = let t = tree_exists x xs h in (t.0, ap (tree_of key) (sym t.2) ∙ tree_of_items key t.0 t.1, t.1, t.2)
