-- An item is put into a canonical tree, or taken out of it.
use Rattle.std.proofs.Common.{◌≡◌, ◌≢◌, ℕ, ◌⊎◌, List, [], ◌∷◌, ◌++◌, refl, sym, ap, ◌∙◌, subst, inl, inr}
use Rattle.std.proofs.lemmas.Bool.{cond_both}
use Rattle.art_bytes.proofs.Common.{Conflict, IsBefore, before_not_self, conflict_turned, conflict_not_before}
use Rattle.art_arena.proofs.Terms.{AscendsByKey, IsIn, IsPutIn, is_before, put_in_order, Tree, leaf, items, IsCanonical, Insertion, InsertionIsFree, Deletion}
use Rattle.art_arena.proofs.tree.Canonical.{ascending}
use Rattle.art_arena.proofs.tree.Insert.{all_at, in_right, Inserting, grown, found, blocked, insert}
use Rattle.art_arena.proofs.tree.Exists.{put_is}
use Rattle.art_arena.proofs.tree.Delete.{Removal, absent, whole, removed, delete}
use Rattle.art_arena.proofs.tree.Paths.{in_cases}

module _ {X : Type 0} (key : X → List ℕ) where
  is_put_in : (x : X) (xs : List X) → IsPutIn x xs (put_in_order key x xs)
  is_put_in x [] = ([], [], refl, refl)
  is_put_in x (y ∷ ys) =
      let r = is_put_in x ys in
      cond_both (is_before (key x) (key y)) (x ∷ y ∷ ys) (y ∷ put_in_order key x ys) (IsPutIn x (y ∷ ys))
      (λ e. ([], y ∷ ys, refl, refl)) (λ e. (y ∷ r.0, r.1, ap (λ l. y ∷ l) r.2, ap (λ l. y ∷ l) r.3))

  before_it : (front : List X) (x : X) (back : List X) → AscendsByKey key (front ++ x ∷ back) → (y : X) → IsIn y front → IsBefore (key y) (key x)
  before_it [] x back h y i = absurd i
  before_it (z ∷ front) x back h y (inl e) =
      subst (λ v. IsBefore (key v) (key x)) e (all_at (λ w. IsBefore (key z) (key w)) x (front ++ x ∷ back) h.0 (in_right x front (x ∷ back) (inl refl)))
  before_it (z ∷ front) x back h y (inr i) = before_it front x back h.1 y i

  after_it : (front : List X) (x : X) (back : List X) → AscendsByKey key (front ++ x ∷ back) → (y : X) → IsIn y back → IsBefore (key x) (key y)
  after_it [] x back h y i = all_at (λ w. IsBefore (key x) (key w)) y back h.0 i
  after_it (z ∷ front) x back h y i = after_it front x back h.1 y i

  apart : (x y : X) → (IsBefore (key x) (key y)) ⊎ (IsBefore (key y) (key x)) → (key x ≢ key y) × (Conflict (key x) (key y) → ⊥)
  apart x y (inl b) = (λ e. before_not_self (key x) (subst (IsBefore (key x)) (sym e) b), λ c. conflict_not_before (key x) (key y) c b)
  apart x y (inr b) = (λ e. before_not_self (key y) (subst (IsBefore (key y)) e b), λ c. conflict_not_before (key y) (key x) (conflict_turned (key x) (key y) c) b)

  same_item : (xs : List X) → AscendsByKey key xs → (x y : X) → IsIn x xs → IsIn y xs → key x ≡ key y → x ≡ y
  same_item [] h x y i j e = absurd i
  same_item (z ∷ zs) h x y (inl f) (inl g) e = sym f ∙ g
  same_item (z ∷ zs) h x y (inl f) (inr j) e =
      absurd (before_not_self (key z) (subst (IsBefore (key z)) (sym e ∙ ap key (sym f)) (all_at (λ w. IsBefore (key z) (key w)) y zs h.0 j)))
  same_item (z ∷ zs) h x y (inr i) (inl g) e =
      absurd (before_not_self (key z) (subst (IsBefore (key z)) (e ∙ ap key (sym g)) (all_at (λ w. IsBefore (key z) (key w)) x zs h.0 i)))
  same_item (z ∷ zs) h x y (inr i) (inr j) e = same_item zs h.1 x y i j e

module _ (X : Type 0) where
  pub insertion : Insertion X
  insertion key t h x = go (insert key [] t h x (key x) refl)
    where
      go : Inserting key [] x t → ((u : Tree X) × IsCanonical key [] u × (items u ≡ put_in_order key x (items t)))
          ⊎ (((y : X) × IsIn y (items t) × (key x ≡ key y)) ⊎ ((y : X) × IsIn y (items t) × Conflict (key x) (key y)))
      go (grown u k (front, back, e, f)) =
          inl (u, k, f ∙ sym (put_is key x front back (subst (AscendsByKey key) f (ascending key [] u k))) ∙ ap (put_in_order key x) (sym e))
      go (found y i e) = inr (inl (y, i, e))
      go (blocked y i e) = inr (inr (y, i, e))

  pub insertion_is_free : InsertionIsFree X
  insertion_is_free key t u h x e y i =
      let p = is_put_in key x (items t) in
      let asc = subst (AscendsByKey key) (e ∙ p.3) (ascending key [] u h) in
      apart key x y (elim (in_cases y p.0 p.1 (subst (IsIn y) p.2 i)) [
        | inl j ↦ inr (before_it key p.0 x p.1 asc y j)
        | inr j ↦ inl (after_it key p.0 x p.1 asc y j)
      ])

  pub deletion : Deletion X
  deletion key t h x i = go (delete key [] t h (key x) (key x) refl)
    where
      only : (y : X) → IsIn x (y ∷ []) → y ≡ x
      only y (inl e) = e
      only y (inr e) = absurd e

      go : Removal key [] (key x) (key x) t → (t ≡ leaf x) ⊎ ((u : Tree X) × IsCanonical key [] u × IsPutIn x (items u) (items t))
      go (absent never) = absurd (never x i refl)
      go (whole y e f) = inl (e ∙ ap leaf (only y (subst (λ v. IsIn x (items v)) e i)))
      go (removed y e u k put nodes) =
          let same = same_item key (items t) (ascending key [] t h) y x (subst (IsIn y) (sym put.3) (in_right y put.0 (y ∷ put.1) (inl refl))) i e in
          inr (u, k, subst (λ z. IsPutIn z (items u) (items t)) same put)
