-- The items whose keys pass a test stand together, if the test holds between two keys for which it holds.
use Rattle.std.proofs.Common.{◌≡◌, ℕ, ◌<◌, ◌⊎◌, List, [], ◌∷◌, ◌++◌, refl, sym, ap, ap₂, ◌∙◌, inl, inr, arith, Bool, true, false, filter}
use Rattle.std.specs.List.{AllByRecursion}
use Rattle.std.proofs.lemmas.Bool.{cond_both}
use Rattle.art_bytes.proofs.Common.{BeginsWith, IsBefore}
use Rattle.art_arena.proofs.Terms.{AscendsByKey, begins_with, with_front, FrontIsBlock}
use Rattle.art_arena.proofs.tree.Filters.{all_kept}
use Rattle.art_arena.proofs.tree.Tenants.{begins_true}
use Rattle.art_arena.proofs.tree.Parts.{begins_same}

-- a key between two that begin with a front
between : (front k l m : List ℕ) → BeginsWith front k → BeginsWith front m → IsBefore k l → IsBefore l m → BeginsWith front l
between [] k l m h j a b = (l, refl)
between (c ∷ front) [] l m h j a b = absurd a
between (c ∷ front) (d ∷ k) [] m h j a b = absurd a
between (c ∷ front) (d ∷ k) (e ∷ l) [] h j a b = absurd b
between (c ∷ front) (d ∷ k) (e ∷ l) (f ∷ m) (r, g) (s, i) a b = go (λ x y h j. between front k l m x y h j) a b
  where
    p : d ≡ c
    p = cc

    q : f ≡ c
    q = cc

    go : (BeginsWith front k → BeginsWith front m → IsBefore k l → IsBefore l m → BeginsWith front l) → (d < e) ⊎ ((d ≡ e) × IsBefore k l) → (e < f) ⊎ ((e ≡ f) × IsBefore l m) → BeginsWith (c ∷ front) (e ∷ l)
    go _ (inl x) (inl y) = absurd (omega (arith, p, q))
    go _ (inl x) (inr y) = let z = y.0 in absurd (omega (arith, p, q))
    go _ (inr x) (inl y) = let z = x.0 in absurd (omega (arith, p, q))
    go deeper (inr x) (inr y) =
        let hk : k ≡ front ++ r = cc in
        let hm : m ≡ front ++ s = cc in
        let rest = deeper (r, hk) (s, hm) x.1 y.1 in
        (rest.0, ap₂ (λ u v. u ∷ v) (sym x.0 ∙ p) rest.1)

-- a filter by a test that holds between
module _ {X : Type 0} (key : X → List ℕ) (test : List ℕ → Bool) (convex : (k l m : List ℕ) → test k ≡ true → test m ≡ true → IsBefore k l → IsBefore l m → test l ≡ true) where
  abbrev Kept : List X → List X
  Kept xs = filter (λ x. test (key x)) xs

  past : (x y : X) → test (key x) ≡ true → IsBefore (key x) (key y) → test (key y) ≡ false → (ys : List X) → AllByRecursion (λ z. IsBefore (key y) (key z)) ys → Kept ys ≡ []
  past x y h less out [] a = refl
  past x y h less out (z ∷ zs) a =
      let r = past x y h less out zs a.1 in
      cond_both (test (key z)) (z ∷ Kept zs) (Kept zs) (λ l. l ≡ [])
      (λ t. let e : true ≡ false = sym (convex (key x) (key y) (key z) h t less a.0) ∙ out in absurd (cc)) (λ f. r)

  kept_after : (x : X) (xs : List X) → test (key x) ≡ true → AscendsByKey key (x ∷ xs) → (after : List X) × (xs ≡ Kept xs ++ after)
  kept_after x [] h a = ([], refl)
  kept_after x (y ∷ ys) h a =
      let later = λ (t : test (key y) ≡ true). kept_after y ys t a.1 in
      cond_both (test (key y)) (y ∷ Kept ys) (Kept ys) (λ l. (after : List X) × (y ∷ ys ≡ l ++ after))
      (λ t. let r = later t in (r.0, ap (λ l. y ∷ l) r.1)) (λ f. (y ∷ ys, sym (ap (λ l. l ++ y ∷ ys) (past x y h a.0.0 f ys a.1.0))))

  pub kept_block : (xs : List X) → AscendsByKey key xs → (before : List X) × (after : List X) × (xs ≡ before ++ (Kept xs ++ after))
  kept_block [] h = ([], [], refl)
  kept_block (x ∷ xs) h =
      let r = kept_block xs h.1 in
      cond_both (test (key x)) (x ∷ Kept xs) (Kept xs) (λ l. (before : List X) × (after : List X) × (x ∷ xs ≡ before ++ (l ++ after)))
      (λ t. let b = kept_after x xs t h in ([], b.0, ap (λ l. x ∷ l) b.1)) (λ f. (x ∷ r.0, r.1, ap (λ l. x ∷ l) r.2))

module _ {X : Type 0} (key : X → List ℕ) where
  own_ascending : (front : List ℕ) (xs : List X) → AscendsByKey key xs → AscendsByKey key (with_front key front xs)
  own_ascending front [] h = tt
  own_ascending front (x ∷ xs) h =
      let r = own_ascending front xs h.1 in
      cond_both (begins_with front (key x)) (x ∷ with_front key front xs) (with_front key front xs) (AscendsByKey key)
      (λ t. (all_kept (λ y. begins_with front (key y)) (λ y. IsBefore (key x) (key y)) xs h.0, r)) (λ f. r)

module _ (X : Type 0) where
  pub front_is_block : FrontIsBlock X
  front_is_block key front xs h =
      let b = kept_block key (begins_with front) (λ k l m a c x y. begins_same front l (between front k l m (begins_true front k a) (begins_true front m c) x y)) xs h in
      (own_ascending key front xs h, b.0, b.1, b.2)
