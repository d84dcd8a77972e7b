-- The pairs of a map, once the value of a leaf is written.
use Rattle.std.proofs.Common.{◌≡◌, ℕ, Bool, true, false, cond, not, bytes_eq, List, [], ◌∷◌, ◌++◌, Option, Some, None, IsSome, refl, sym, ap, ap₂, subst, ◌∙◌}
use Rattle.art_nodes.proofs.Common.{Name}
use Rattle.art_nodes.specs.declared.leaf.LeafNode.{LeafNode}
use Rattle.art_arena.proofs.Common.{Arena, leaf_held, cell_of, held_at, node_at, leaf_name, pair, with_leaf_value, leaves, pairs_of, key_of, is_before, put_in_order, AscendsByKey, same_key, cell-some, leaf-there}
use Rattle.art_operations.proofs.Common.{without_key, with_pair_put, put_replaced, pairs_ascend, pairs-parts, written}
use Rattle.art_map.proofs.Terms.{Contents, IsMap, pairs_from, HasPairAt}
use Rattle.art_map.proofs.Below.{tree-pairs}

module _ {X : Type 0} (key : X → List ℕ) where
  -- taken out again, a key is taken out once
  pub without-put : (k : List ℕ) (x : X) → key x ≡ k → (xs : List X) → without_key key k (put_in_order key x xs) ≡ without_key key k xs
  without-put k x same [] = rw (same_key (key x) k same) refl
  without-put k x same (y ∷ ys) = here (is_before (key x) (key y)) (without-put k x same ys)
    where
      here : (b : Bool) → without_key key k (put_in_order key x ys) ≡ without_key key k ys → without_key key k (cond b (x ∷ y ∷ ys) (y ∷ put_in_order key x ys)) ≡ without_key key k (y ∷ ys)
      here true later = rw (same_key (key x) k same) refl
      here false later = ap (λ zs. cond (not (bytes_eq (key y) k)) (y ∷ zs) zs) later

  pub without-again : (k : List ℕ) (xs : List X) → without_key key k (without_key key k xs) ≡ without_key key k xs
  without-again k [] = refl
  without-again k (x ∷ xs) = here (bytes_eq (key x) k) refl (without-again k xs)
    where
      here : (b : Bool) → bytes_eq (key x) k ≡ b → without_key key k (without_key key k xs) ≡ without_key key k xs
          → without_key key k (cond (not b) (x ∷ without_key key k xs) (without_key key k xs)) ≡ cond (not b) (x ∷ without_key key k xs) (without_key key k xs)
      here true is later = later
      here false is later = rw is (ap (λ zs. x ∷ zs) later)

module _ {K V : Type 0} (bytes : K → List ℕ) where
  -- of two values put under a key the later stays
  pub put-again : (k : K) (v w : V) (pairs : List (K × V)) → with_pair_put bytes k w (with_pair_put bytes k v pairs) ≡ with_pair_put bytes k w pairs
  put-again k v w pairs =
      ap (put_in_order (key_of bytes) (k, w))
      (without-put (key_of bytes) (bytes k) (k, v) refl (without_key (key_of bytes) (bytes k) pairs) ∙ without-again (key_of bytes) (bytes k) pairs)

  module _ (is_key : K → Type 0) (P : ℕ) (old : Arena K V) where
    -- with another value in a leaf a map has its pair put in
    pub written-pairs : (root : Option Name) → IsMap bytes is_key P old root → (slot : ℕ) → IsSome (held_at old (leaf_name slot)) → (k : K) (v : V) → node_at old (leaf_name slot) ≡ Some (pair k v) → (w : V)
        → pairs_from (with_leaf_value old slot w) root ≡ with_pair_put bytes k w (pairs_from old root)
    written-pairs None map slot there k v has w = let none = map.has.1 (leaf_name slot) in let some = cell-some (held_at old (leaf_name slot)) there in absurd (cc)
    written-pairs (Some root) map slot there k v has w =
        let s = map.has.0 in
        let tree = map.has.1 in
        let is = written bytes P old root s tree slot there w in
        let same : is.key ≡ k = let e = sym is.held ∙ has in cc in
        let was : pairs_from old (Some root) ≡ pairs_of is.front ++ (is.key, is.value) ∷ pairs_of is.back = sym map.has.2 ∙ ap pairs_of is.had ∙ pairs-parts bytes is.front _ is.back in
        let now : pairs_of (leaves is.shape) ≡ pairs_of is.front ++ (is.key, w) ∷ pairs_of is.back = ap pairs_of is.has ∙ pairs-parts bytes is.front _ is.back in
        let put = put_replaced (key_of bytes) (is.key, w) (pairs_of is.front) (is.key, is.value) (pairs_of is.back) refl (subst (AscendsByKey (key_of bytes)) now (pairs_ascend bytes is.shape is.is_tree.nodes.under)) in
        tree-pairs bytes P (with_leaf_value old slot w) root is.shape is.is_tree
        ∙ now ∙ put.new_is
        ∙ ap (λ ps. with_pair_put bytes is.key w ps) (sym was)
        ∙ ap (λ key. with_pair_put bytes key w (pairs_from old (Some root))) same

module _ {K V : Type 0} where
  -- the pair of a leaf that is there
  pub pair-at : (arena : Arena K V) (slot : ℕ) → IsSome (held_at arena (leaf_name slot)) → (k : K) (v : V) → ((l : LeafNode K V) → held_at arena (leaf_name slot) ≡ Some (leaf_held l) → k ≡ l.key)
      → ((l : LeafNode K V) → held_at arena (leaf_name slot) ≡ Some (leaf_held l) → v ≡ l.value) → node_at arena (leaf_name slot) ≡ Some (pair k v)
  pair-at arena slot there k v key value =
      let is = leaf-there arena slot there in
      ap cell_of is.held ∙ rw (key is.leaf is.held, value is.leaf is.held) refl

  -- a leaf has one pair
  pub one-pair : (m : Contents K V) (slot : ℕ) (p q : K × V) → HasPairAt m slot p → HasPairAt m slot q → (q.0 ≡ p.0) × (q.1 ≡ p.1)
  one-pair m slot p q has lent = let e = sym lent ∙ has in ((cc), (cc))

  pub same-pair-at : (m : Contents K V) (slot : ℕ) (p q : K × V) → HasPairAt m slot p → HasPairAt m slot q → p ≡ q
  same-pair-at m slot p q has it = let e = one-pair m slot p q has it in ap₂ (λ a b. (a, b)) (sym e.0) (sym e.1)
