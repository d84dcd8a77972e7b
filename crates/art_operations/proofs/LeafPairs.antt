-- From the leaves of a tree to its pairs: what an insertion and a deletion make of them.
use Rattle.std.proofs.Common.{◌≡◌, ◌≢◌, ℕ, ◌≤◌, List, [], ◌∷◌, ◌++◌, length, take, map, nat_eq, Option, Some, None, refl, sym, ap, subst, ◌∙◌, inl, inr}
use Rattle.std.specs.List.{cons_option}
use Rattle.std.proofs.lemmas.List.{map-append}
use Rattle.art_bytes.proofs.Common.{BeginsWith, Conflict, common_prefix}
use Rattle.art_nodes.proofs.Common.{Name}
use Rattle.art_nodes.specs.declared.leaf.LeafNode.{LeafNode}
use Rattle.art_arena.proofs.Common.{AscendsByKey, IsIn, IsPutIn, Cell, pair, leaf_name, AreHeld, leaves_before, leaves_after, byte_after, bytes_after, distinct, width_of, found_in, IsAtKey, IsLimit, Step, Shape, Branches, leaf_at, inner_at, no_branch, branch, LeafAt, leaves, leaves_in}
use Rattle.art_arena.proofs.Common.{pairs_of, erase, cells, cells_in, IsUnder, key_of, Shrinks, all_left, all_right, items-erase, canonical-erase, pairs-with_key, pair_at, in_middle, all_at, in_right, leaves-plug, in_cases, in_map, in_unmap}
use Rattle.art_arena.specs.arena.Found as found
use Rattle.art_arena.proofs.tree.Canonical.{ascending}
use Rattle.art_operations.proofs.Terms.{IsReplaced, IsPutOrReplaced, with_key, IsBlocked, pair_in, NoConflict, ShrinksWithout}
use Rattle.art_operations.proofs.KeyedLists.{IsPut, IsTaken, put_new, put_replaced, taken}

-- the pair of a leaf
abbrev pub leaf_pair : {K V : Type 0} → LeafAt K V → K × V
leaf_pair l = (l.key, l.value)

-- a front is as wide, and a removal shrinks as much, whether items or what they are mapped to have the keys
module _ {X Y : Type 0} (f : X → Y) (key : Y → List ℕ) where
  bytes_after-map : (front : List ℕ) (xs : List X) → bytes_after key front (map f xs) ≡ bytes_after (λ x. key (f x)) front xs
  bytes_after-map front [] = refl
  bytes_after-map front (x ∷ xs) = ap (cons_option (byte_after front (key (f x)))) (bytes_after-map front xs)

  pub width_of-map : (front : List ℕ) (xs : List X) → width_of key (map f xs) front ≡ width_of (λ x. key (f x)) xs front
  width_of-map front xs = ap (λ bs. length (distinct nat_eq bs)) (bytes_after-map front xs)

  pub shrinks-map : (xs : List X) (k : List ℕ) → Shrinks (λ x. key (f x)) xs k → Shrinks key (map f xs) k
  shrinks-map xs k (m, ((y, i, differs, meets), longest), limit) = (
    m,
    ((f y, in_map f y xs i, differs, meets), λ z j other. let back = in_unmap f z xs j in subst (λ w. length (common_prefix k (key w)) ≤ length m) back.2 (longest back.0 back.1 (subst (λ w. key w ≢ k) (sym back.2) other))),
    subst IsLimit (sym (width_of-map m xs)) limit,
  )

  pub without-shrinks : (xs : List X) (front : List ℕ) → ShrinksWithout (λ x. key (f x)) xs front → ShrinksWithout key (map f xs) front
  without-shrinks xs front (m, ((y, i, differs, meets), longest), limit) = (
    m,
    ((f y, in_map f y xs i, differs, meets), λ z j other. let back = in_unmap f z xs j in subst (λ w. length (common_prefix front (key w)) ≤ length m) back.2 (longest back.0 back.1 (subst (λ w. BeginsWith front (key w) → ⊥) (sym back.2) other))),
    subst IsLimit (sym (width_of-map m xs)) limit,
  )

  pub shrinks-unmap : (xs : List X) (k : List ℕ) → Shrinks key (map f xs) k → Shrinks (λ x. key (f x)) xs k
  shrinks-unmap xs k (m, ((z, i, differs, meets), longest), limit) =
      let back = in_unmap f z xs i in (
        m,
        ((back.0, back.1, subst (λ w. key w ≢ k) (sym back.2) differs, ap (λ w. common_prefix k (key w)) back.2 ∙ meets), λ w j other. longest (f w) (in_map f w xs j) other),
        subst IsLimit (width_of-map m xs) limit,
      )

module _ {K V : Type 0} (bytes : K → List ℕ) where
  -- the pairs of a tree ascend
  pub pairs_ascend : (s : Shape K V) → IsUnder bytes [] s → AscendsByKey (key_of bytes) (pairs_of (leaves s))
  pairs_ascend s under = subst (AscendsByKey (key_of bytes)) (items-erase s) (ascending (key_of bytes) [] (erase s) (canonical-erase bytes [] s under))

  pub pairs-parts : (front : List (LeafAt K V)) (l : LeafAt K V) (back : List (LeafAt K V)) → pairs_of (front ++ l ∷ back) ≡ pairs_of front ++ leaf_pair l ∷ pairs_of back
  pairs-parts front l back = map-append leaf_pair front (l ∷ back)

  -- a leaf that was put in has its pair put in
  new_pair : (l : LeafAt K V) (old new : List (LeafAt K V)) → AscendsByKey (key_of bytes) (pairs_of new) → IsPutIn l old new → IsPut (key_of bytes) (leaf_pair l) (pairs_of old) (pairs_of new) []
  new_pair l old new h (front, back, e, f) =
      let new_is : pairs_of new ≡ pairs_of front ++ leaf_pair l ∷ pairs_of back = ap pairs_of f ∙ pairs-parts front l back in
      let old_is : pairs_of old ≡ pairs_of front ++ pairs_of back = ap pairs_of e ∙ map-append leaf_pair front back in
      rw (new_is, old_is) (put_new (key_of bytes) (leaf_pair l) (pairs_of front) (pairs_of back) (subst (AscendsByKey (key_of bytes)) new_is h))

  -- a leaf that took the place of one with its key has its pair in the place of that one's
  replaced_pair : (l was : LeafAt K V) (old new : List (LeafAt K V)) → bytes was.key ≡ bytes l.key → AscendsByKey (key_of bytes) (pairs_of new) → IsReplaced was l old new
      → IsPut (key_of bytes) (leaf_pair l) (pairs_of old) (pairs_of new) (leaf_pair was ∷ [])
  replaced_pair l was old new same h (front, back, e, f) =
      let new_is : pairs_of new ≡ pairs_of front ++ leaf_pair l ∷ pairs_of back = ap pairs_of f ∙ pairs-parts front l back in
      let old_is : pairs_of old ≡ pairs_of front ++ leaf_pair was ∷ pairs_of back = ap pairs_of e ∙ pairs-parts front was back in
      rw (new_is, old_is) (put_replaced (key_of bytes) (leaf_pair l) (pairs_of front) (leaf_pair was) (pairs_of back) same (subst (AscendsByKey (key_of bytes)) new_is h))

  -- an insertion does the one or the other, and tells the pair whose place was taken
  pub stored_pair : (l : LeafAt K V) (was : Option (LeafNode K V)) (old new : List (LeafAt K V)) → AscendsByKey (key_of bytes) (pairs_of new) → IsPutOrReplaced bytes l was old new
      → IsPut (key_of bytes) (leaf_pair l) (pairs_of old) (pairs_of new) (pair_in was)
  stored_pair l None old new h stored = new_pair l old new h stored
  stored_pair l (Some was) old new h stored = replaced_pair l (record { slot = l.slot; key = was.key; value = was.value }) old new stored.0 h stored.1

  -- and the leaf is among the new ones
  pub stored_in : (l : LeafAt K V) (was : Option (LeafNode K V)) (old new : List (LeafAt K V)) → IsPutOrReplaced bytes l was old new → IsIn l new
  stored_in l None old new (front, back, e, f) = subst (IsIn l) (sym f) (in_middle (λ (m : LeafAt K V). bytes m.key) front l back)
  stored_in l (Some was) old new stored = subst (IsIn l) (sym stored.1.3) (in_middle (λ (m : LeafAt K V). bytes m.key) stored.1.0 l stored.1.1)

  -- a leaf that was taken out has its pair taken out
  pub taken_pair : (front : List (LeafAt K V)) (l : LeafAt K V) (back : List (LeafAt K V)) (old : List (LeafAt K V)) → AscendsByKey (key_of bytes) (pairs_of old) → old ≡ front ++ l ∷ back
      → IsTaken (key_of bytes) (bytes l.key) (leaf_pair l) (pairs_of old) (pairs_of (front ++ back))
  taken_pair front l back old h e =
      let old_is : pairs_of old ≡ pairs_of front ++ leaf_pair l ∷ pairs_of back = ap pairs_of e ∙ pairs-parts front l back in
      rw (old_is, map-append leaf_pair front back) (taken (key_of bytes) (leaf_pair l) (pairs_of front) (pairs_of back) (subst (AscendsByKey (key_of bytes)) old_is h))

  -- where no leaf is in conflict with a key, no pair blocks it
  pub free_pairs : (key : List ℕ) (ls : List (LeafAt K V)) → NoConflict bytes key ls → IsBlocked (key_of bytes) key (pairs_of ls) → ⊥
  free_pairs key ls free (x, i, c) =
      let back = in_unmap leaf_pair x ls i in
      all_at (λ (l : LeafAt K V). Conflict key (bytes l.key) → ⊥) back.0 ls free back.1 (subst (λ p. Conflict key (key_of bytes p)) (sym back.2) c)

  -- where the search finds no leaf with the key, no pair has it
  pub none_found : (key : List ℕ) (s : Shape K V) → [] ≡ found_in bytes key s → with_key (key_of bytes) key (pairs_of (leaves s)) ≡ []
  none_found key s none = ap (with_key (key_of bytes) key) (sym (items-erase s)) ∙ pairs-with_key bytes key s ∙ no_pair (found.located_with_key bytes key s) (sym none)
    where
      place_of : found.Located K V → found.Found
      place_of l = (l.leaf.slot, take 2 l.steps)

      no_pair : (ls : List (found.Located K V)) → map place_of ls ≡ [] → map (pair_at bytes key) ls ≡ []
      no_pair [] e = refl
      no_pair (l ∷ ls) e = absurd (cc)

module _ {K V : Type 0} (P : ℕ) (at : Name → Option (Cell K V)) where
  -- each leaf is held under its name
  mutual
    pub held_leaf : (s : Shape K V) (l : LeafAt K V) → IsIn l (leaves s) → AreHeld at (cells P s) → at (leaf_name l.slot) ≡ Some (pair l.key l.value)
    held_leaf (leaf_at slot k v) l (inl e) held = subst (λ (m : LeafAt K V). at (leaf_name m.slot) ≡ Some (pair m.key m.value)) e held.0
    held_leaf (leaf_at slot k v) l (inr i) held = absurd i
    held_leaf (inner_at n prefix kids) l i held = held_leaf_in kids l i held.1

    held_leaf_in : (f : Branches K V) (l : LeafAt K V) → IsIn l (leaves_in f) → AreHeld at (cells_in P f) → at (leaf_name l.slot) ≡ Some (pair l.key l.value)
    held_leaf_in no_branch l i held = absurd i
    held_leaf_in (branch b s rest) l i held = elim (in_cases l (leaves s) (leaves_in rest) i) [
      | inl j ↦ held_leaf s l j (all_left (λ c. at c.0 ≡ Some c.1) (cells P s) (cells_in P rest) held)
      | inr j ↦ held_leaf_in rest l j (all_right (λ c. at c.0 ≡ Some c.1) (cells P s) (cells_in P rest) held)
    ]

  -- two leaves of one name have one key
  pub same_leaf : (s : Shape K V) → AreHeld at (cells P s) → (l m : LeafAt K V) → IsIn l (leaves s) → IsIn m (leaves s) → l.slot ≡ m.slot → l.key ≡ m.key
  same_leaf s held l m i j same =
      let e : Some (pair l.key l.value) ≡ Some (pair m.key m.value) = sym (held_leaf s l i held) ∙ ap (λ n. at (leaf_name n)) same ∙ held_leaf s m j held in
      cc

module _ {K V : Type 0} (bytes : K → List ℕ) where
  -- a leaf that was found stands among the leaves
  pub found_leaf : (key : List ℕ) (s : Shape K V) (slot : ℕ) (last : List Step) (there : IsAtKey bytes key s slot last) → IsIn (record { slot = slot; key = there.leaf_key; value = there.value }) (leaves s)
  found_leaf key s slot last there =
      let leaf = leaf_at slot there.leaf_key there.value in
      subst (IsIn (record { slot = slot; key = there.leaf_key; value = there.value })) (sym (ap leaves there.place.is ∙ leaves-plug there.ctx leaf))
      (in_right _ (leaves_before there.ctx) (leaves leaf ++ leaves_after there.ctx) (inl refl))
