-- What holds of the items of a canonical tree.
use Rattle.std.proofs.Common.{◌≡◌, ℕ, ◌≤◌, List, [], ◌∷◌, ◌++◌, refl, ap, arith}
use Rattle.std.specs.List.{AllByRecursion}
use Rattle.art_bytes.proofs.Common.{BeginsWith, IsBefore, begins_append}
use Rattle.art_arena.proofs.Terms.{AscendsByKey, Tree, Forest, leaf, inner, no_child, child, items, items_in, count, IsBelow, IsCanonical, AreCanonical}
use Rattle.art_arena.proofs.tree.Order.{all_append, all_weaker, all_before_at, ascending_append}

module _ {X : Type 0} (key : X → List ℕ) where
  -- each key begins with the path
  mutual
    pub begin : (path : List ℕ) (t : Tree X) → IsCanonical key path t → AllByRecursion (λ x. BeginsWith path (key x)) (items t)
    begin path (leaf x) h = (h, tt)
    begin path (inner prefix cs) h = all_weaker _ _ (λ x b. begins_append path prefix (key x) b) (items_in cs) (begin_in (path ++ prefix) cs h.1)

    pub begin_in : (path : List ℕ) (cs : Forest X) → AreCanonical key path cs → AllByRecursion (λ x. BeginsWith path (key x)) (items_in cs)
    begin_in path no_child h = tt
    begin_in path (child b t cs) h =
        all_append _ (items t) (items_in cs) (all_weaker _ _ (λ x s. begins_append path (b ∷ []) (key x) s) (items t) (begin (path ++ b ∷ []) t h.0)) (begin_in path cs h.2)

  -- a canonical tree has a leaf
  mutual
    pub some_item : (path : List ℕ) (t : Tree X) → IsCanonical key path t → (x : X) × (xs : List X) × (items t ≡ x ∷ xs)
    some_item path (leaf x) h = (x, [], refl)
    some_item path (inner prefix cs) h = some_item_in (path ++ prefix) cs (omega arith) h.1

    pub some_item_in : (path : List ℕ) (cs : Forest X) → 1 ≤ count cs → AreCanonical key path cs → (x : X) × (xs : List X) × (items_in cs ≡ x ∷ xs)
    some_item_in path no_child n h = absurd (omega arith)
    some_item_in path (child b t cs) n h =
        let s = some_item (path ++ b ∷ []) t h.0 in
        (s.0, s.1 ++ items_in cs, ap (λ l. l ++ items_in cs) s.2)

  -- a child whose byte is below the others' is before them
  pub all_before_in : (path : List ℕ) (b : ℕ) (x : X) (cs : Forest X) → BeginsWith (path ++ b ∷ []) (key x) → IsBelow b cs → AreCanonical key path cs
      → AllByRecursion (λ y. IsBefore (key x) (key y)) (items_in cs)
  all_before_in path b x no_child s low h = tt
  all_before_in path b x (child c t cs) s low h =
      all_append _ (items t) (items_in cs) (all_before_at key path b c low.0 x (items t) s (begin (path ++ c ∷ []) t h.0)) (all_before_in path b x cs s low.1 h.2)

  mutual
    pub ascending : (path : List ℕ) (t : Tree X) → IsCanonical key path t → AscendsByKey key (items t)
    ascending path (leaf x) h = (tt, tt)
    ascending path (inner prefix cs) h = ascending_in (path ++ prefix) cs h.1

    pub ascending_in : (path : List ℕ) (cs : Forest X) → AreCanonical key path cs → AscendsByKey key (items_in cs)
    ascending_in path no_child h = tt
    ascending_in path (child b t cs) h =
        ascending_append key (items t) (items_in cs) (ascending (path ++ b ∷ []) t h.0) (ascending_in path cs h.2)
        (all_weaker _ _ (λ x s. all_before_in path b x cs s h.1 h.2) (items t) (begin (path ++ b ∷ []) t h.0))
