-- The pair that is inside a bound, first or last, by the leaf that a search of the tree finds for it.
use Rattle.std.proofs.Common.{◌≡◌, ℕ, Bool, true, false, not, cond, List, [], ◌∷◌, filter, Option, Some, None, IsSome, refl, sym, ap, subst, ◌∙◌}
use Rattle.std.specs.Prelude.{◌&&◌}
use Rattle.std.specs.List.{AllByRecursion}
use Rattle.std.specs.BTreeMap.Range.{is_from_start, is_past_end, range_contains}
use Rattle.std.specs.declared.ops.Bound.{Bound}
use Rattle.std.specs.declared.ops.Bound.TheVariants.{Unbounded}
use Rattle.art_bytes.proofs.Common.{bytes_cmp}
use Rattle.art_nodes.proofs.Common.{Name}
use Rattle.art_nodes.specs.declared.leaf.LeafNode.{LeafNode}
use Rattle.art_arena.proofs.Common.{Arena, leaf_held, held_at, node_at, links_at, pair, leaf_name, passing, AreLinked, first_slot, last_slot, Shape, LeafAt, leaves, pairs_of, key_of, Stores}
use Rattle.art_arena.proofs.Common.{AscendsByKey, leaves_are_held, holds_pair, nodes-subtree, tree_of}
use Rattle.art_arena.proofs.shapes.Erased.{items-erase}
use Rattle.art_arena.proofs.tree.Exists.{tree_of_ascending}
use Rattle.art_arena.specs.tree.Trees.{items}
use Rattle.art_map.specs.Contents.{first_item, last_item}
use Rattle.art_operations.proofs.Common.{HoldsTreeOf}
use Rattle.art_operations.proofs.Terms.{slot_inside}
use Rattle.art_c.specs.Calls.{pair_inside, whole}
use Rattle.art_c.specs.Handles.{Pairs}

and-true : (b : Bool) → (b && true) ≡ b
and-true true = refl
and-true false = refl

-- the test that a key is inside a bound as a start, and as an end
abbrev from : Bound (List ℕ) → List ℕ → Bool
from bound k = is_from_start bytes_cmp bound k

abbrev up_to : Bound (List ℕ) → List ℕ → Bool
up_to bound k = not (is_past_end bytes_cmp bound k)

from-is : (bound : Bound (List ℕ)) (k : List ℕ) → range_contains bytes_cmp bound Unbounded k ≡ from bound k
from-is bound k = and-true (from bound k)

up-to-is : (bound : Bound (List ℕ)) (k : List ℕ) → range_contains bytes_cmp Unbounded bound k ≡ up_to bound k
up-to-is bound k = refl

abbrev Leaves : Type 0 → Type 0
Leaves V = List (LeafAt (List ℕ) V)

abbrev pair_of : {V : Type 0} → LeafAt (List ℕ) V → List ℕ × V
pair_of l = (l.key, l.value)

module _ {V : Type 0} where
  module _ (is_at : LeafAt (List ℕ) V → Type 0) where
    -- of leaves that all have a fact, those that pass have it
    kept : (f : LeafAt (List ℕ) V → Bool) (ls : Leaves V) → AllByRecursion is_at ls → AllByRecursion is_at (filter f ls)
    kept f [] all = tt
    kept f (l ∷ ls) all = here (f l) (kept f ls all.1)
      where
        here : (b : Bool) → AllByRecursion is_at (filter f ls) → AllByRecursion is_at (cond b (l ∷ filter f ls) (filter f ls))
        here true rest = (all.0, rest)
        here false rest = rest

    -- the leaf with the slab key that ends a list, and its pair
    record Ends (slot : ℕ) (found : Option (List ℕ × V)) : Type 0 where
      leaf : LeafAt (List ℕ) V
      slot_is : leaf.slot ≡ slot
      is : is_at leaf
      found_is : found ≡ Some (pair_of leaf)

    first-ends : (slot : ℕ) (ls : Leaves V) → AllByRecursion is_at ls → first_slot ls None ≡ Some slot → Ends slot (first_item (pairs_of ls))
    first-ends slot [] all e = absurd (cc)
    first-ends slot (l ∷ ls) all e = record { leaf = l; slot_is = cc; is = all.0; found_is = refl }

    last-ends : (slot : ℕ) (ls : Leaves V) → AllByRecursion is_at ls → last_slot None ls ≡ Some slot → Ends slot (last_item (pairs_of ls))
    last-ends slot [] all e = absurd (cc)
    last-ends slot (l ∷ []) all e = record { leaf = l; slot_is = cc; is = all.0; found_is = refl }
    last-ends slot (l ∷ m ∷ ls) all e = last-ends slot (m ∷ ls) all.1 e

  no-first : (ls : Leaves V) → first_slot ls None ≡ None → first_item (pairs_of ls) ≡ None
  no-first [] e = refl
  no-first (l ∷ ls) e = absurd (cc)

  no-last : (ls : Leaves V) → last_slot None ls ≡ None → last_item (pairs_of ls) ≡ None
  no-last [] e = refl
  no-last (l ∷ []) e = absurd (cc)
  no-last (l ∷ m ∷ ls) e = no-last (m ∷ ls) e

  -- the pairs whose keys pass are those of the leaves that do
  passing-pairs : (f g : List ℕ → Bool) → ((k : List ℕ) → f k ≡ g k) → (ls : Leaves V) → filter (λ (p : List ℕ × V). f p.0) (pairs_of ls) ≡ pairs_of (passing whole g ls)
  passing-pairs f g same [] = refl
  passing-pairs f g same (l ∷ ls) = rw (same l.key) (here (g l.key) (passing-pairs f g same ls))
    where
      here : (b : Bool) → filter (λ (p : List ℕ × V). f p.0) (pairs_of ls) ≡ pairs_of (passing whole g ls)
          → cond b (pair_of l ∷ filter (λ (p : List ℕ × V). f p.0) (pairs_of ls)) (filter (λ (p : List ℕ × V). f p.0) (pairs_of ls)) ≡ pairs_of (cond b (l ∷ passing whole g ls) (passing whole g ls))
      here true rest = ap (λ ps. pair_of l ∷ ps) rest
      here false rest = rest

  module _ (bound : Bound (List ℕ)) where
    from-pairs : (ls : Leaves V) → filter (λ (p : List ℕ × V). range_contains bytes_cmp bound Unbounded p.0) (pairs_of ls) ≡ pairs_of (passing whole (from bound) ls)
    from-pairs ls = passing-pairs (λ k. range_contains bytes_cmp bound Unbounded k) (from bound) (from-is bound) ls

    up-to-pairs : (ls : Leaves V) → filter (λ (p : List ℕ × V). range_contains bytes_cmp Unbounded bound p.0) (pairs_of ls) ≡ pairs_of (passing whole (up_to bound) ls)
    up-to-pairs ls = passing-pairs (λ k. range_contains bytes_cmp Unbounded bound k) (up_to bound) (up-to-is bound) ls

    -- the leaf inside a bound has the pair inside it
    inside-ends : (is_at : LeafAt (List ℕ) V → Type 0) (ls : Leaves V) → AllByRecursion is_at ls → (is_start : Bool) (slot : ℕ) → Some slot ≡ slot_inside whole is_start bound ls
        → Ends is_at slot (pair_inside is_start bound (pairs_of ls))
    inside-ends is_at ls all true slot e =
        subst (λ ps. Ends is_at slot (first_item ps)) (sym (from-pairs ls)) (first-ends is_at slot (passing whole (from bound) ls) (kept is_at (λ l. from bound l.key) ls all) (sym e))
    inside-ends is_at ls all false slot e =
        subst (λ ps. Ends is_at slot (last_item ps)) (sym (up-to-pairs ls)) (last-ends is_at slot (passing whole (up_to bound) ls) (kept is_at (λ l. up_to bound l.key) ls all) (sym e))

    none-inside : (ls : Leaves V) (is_start : Bool) → None ≡ slot_inside whole is_start bound ls → pair_inside is_start bound (pairs_of ls) ≡ None
    none-inside ls true e = ap first_item (from-pairs ls) ∙ no-first (passing whole (from bound) ls) (sym e)
    none-inside ls false e = ap last_item (up-to-pairs ls) ∙ no-last (passing whole (up_to bound) ls) (sym e)

module _ {V : Type 0} (P : ℕ) (arena : Arena (List ℕ) V) (top : Name) (pairs : Pairs V) (holds : HoldsTreeOf whole P arena (Some top) pairs) where
  -- the tree that a root means is stored, and its leaves are linked
  abbrev pub stored : (s : Shape (List ℕ) V) × Stores whole P arena top s × AreLinked (links_at arena) None (leaves s) None
  stored = (holds.2.shape, nodes-subtree whole P (node_at arena) top holds.2.shape holds.2.is_tree.nodes, holds.2.is_tree.linked)

  module _ (up : AscendsByKey (key_of whole) pairs) (is_start : Bool) (bound : Bound (List ℕ)) where
    -- its leaves hold the pairs
    pairs-are : pairs_of (leaves stored.0) ≡ pairs
    pairs-are = sym (items-erase stored.0) ∙ ap items holds.2.erased ∙ here pairs holds.1 up
      where
        here : (ps : Pairs V) → tree_of (key_of whole) ps ≡ Some holds.0 → AscendsByKey (key_of whole) ps → items holds.0 ≡ ps
        here [] e u = absurd (cc)
        here (p ∷ ps) e u =
            let t = tree_of_ascending (key_of whole) p ps u in
            let f = sym e ∙ t.1 in
            let same : holds.0 ≡ t.0 = cc in
            ap items same ∙ t.3

    abbrev IsHeld : LeafAt (List ℕ) V → Type 0
    IsHeld l = node_at arena (leaf_name l.slot) ≡ Some (pair l.key l.value)

    found : (slot : ℕ) → Some slot ≡ slot_inside whole is_start bound (leaves stored.0) → Ends IsHeld slot (pair_inside is_start bound (pairs_of (leaves stored.0)))
    found slot e = inside-ends bound IsHeld (leaves stored.0) (leaves_are_held whole P arena stored.0 stored.1.part.held) is_start slot e

    -- the leaf that is found is there
    pub found-held : (slot : ℕ) → Some slot ≡ slot_inside whole is_start bound (leaves stored.0) → IsSome (held_at arena (leaf_name slot))
    found-held slot e =
        let it = found slot e in
        let h = holds_pair (held_at arena (leaf_name slot)) it.leaf.key it.leaf.value (subst (λ n. node_at arena (leaf_name n) ≡ Some (pair it.leaf.key it.leaf.value)) it.slot_is it.is) in
        subst IsSome (sym h.is) refl

    -- and has the pair
    pub found-pair : (slot : ℕ) → Some slot ≡ slot_inside whole is_start bound (leaves stored.0) → (k : List ℕ) (v : V)
        → ((l : LeafNode (List ℕ) V) → held_at arena (leaf_name slot) ≡ Some (leaf_held l) → k ≡ l.key)
        → ((l : LeafNode (List ℕ) V) → held_at arena (leaf_name slot) ≡ Some (leaf_held l) → v ≡ l.value)
        → Some (k, v) ≡ pair_inside is_start bound pairs
    found-pair slot e k v key value =
        let it = found slot e in
        let h = holds_pair (held_at arena (leaf_name slot)) it.leaf.key it.leaf.value (subst (λ n. node_at arena (leaf_name n) ≡ Some (pair it.leaf.key it.leaf.value)) it.slot_is it.is) in
        let k_is : k ≡ it.leaf.key = key h.leaf h.is ∙ h.key in
        let v_is : v ≡ it.leaf.value = value h.leaf h.is ∙ h.value in
        let same : Some (k, v) ≡ Some (pair_of it.leaf) = cc in
        same ∙ sym it.found_is ∙ ap (pair_inside is_start bound) pairs-are

    -- or no pair is inside
    pub none-found : None ≡ slot_inside whole is_start bound (leaves stored.0) → None ≡ pair_inside is_start bound pairs
    none-found e = sym (sym (ap (pair_inside is_start bound) pairs-are) ∙ none-inside bound (leaves stored.0) is_start e)
