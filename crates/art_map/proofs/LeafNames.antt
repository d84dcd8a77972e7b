-- Each leaf of a map keeps its name.
use Rattle.std.proofs.Common.{◌≡◌, ℕ, List, [], ◌∷◌, Option, Some, None, sym, ap, subst, ◌∙◌, inl, inr}
use Rattle.art_bytes.proofs.Common.{IsBefore, before_not_self}
use Rattle.art_nodes.proofs.Common.{Name}
use Rattle.art_arena.proofs.Common.{Arena, held_at, node_at, cell_of, leaf_name, pair, with_leaf_value, Shape, LeafAt, leaves, key_of, StoresOnly, IsIn, AscendsByKey, same_name_tells, LeafThere, leaf-there, all_at, in_map, in_unmap}
use Rattle.art_operations.proofs.Common.{HasKeyAt, HasLeavesOf, HasPairs, among-all, leaf-of, held-some, leaf_pair, pairs_ascend, leaves_ascend}
use Rattle.art_map.proofs.Terms.{Contents, contents, pairs_from, IsMap, HasPairAt, AddsNoLeaf, AreNamed, KeepsAllLeaves, KeepsLeaves, with_value_at}

-- two items of an ascending list are one where they have one key
one-item : {X : Type 0} (key : X → List ℕ) (xs : List X) → AscendsByKey key xs → (x y : X) → IsIn x xs → IsIn y xs → key x ≡ key y → x ≡ y
one-item key [] up x y i j same = absurd i
one-item key (z ∷ zs) up x y (inl e) (inl f) same = sym e ∙ f
one-item key (z ∷ zs) up x y (inl e) (inr j) same = absurd (before_not_self (key y) (subst (λ k. IsBefore k (key y)) (ap key e ∙ same) (all_at (λ w. IsBefore (key z) (key w)) y zs up.0 j)))
one-item key (z ∷ zs) up x y (inr i) (inl f) same = absurd (before_not_self (key x) (subst (λ k. IsBefore k (key x)) (ap key f ∙ sym same) (all_at (λ w. IsBefore (key z) (key w)) x zs up.0 i)))
one-item key (z ∷ zs) up x y (inr i) (inr j) same = one-item key zs up.1 x y i j same

module _ {K V : Type 0} (bytes : K → List ℕ) where
  module _ (P : ℕ) (arena : Arena K V) where
    -- a leaf that stands in a map's arena is one of its tree's
    in-tree : (root : Name) (s : Shape K V) → StoresOnly bytes P arena root s → (slot : ℕ) (key : List ℕ) (has : HasKeyAt bytes arena slot key) → IsIn (record { slot = slot; key = has.0; value = has.1 }) (leaves s)
    in-tree root s tree slot key (k, v, e, same) = elim (among-all bytes P arena root [] s tree slot k v e) [ inl j ↦ absurd j | inr j ↦ j ]

    pairs-named : (root : Option Name) (pairs : List (K × V)) → HasPairs bytes P arena root pairs → AreNamed bytes (record { pairs = pairs; nodes = arena; root = root })
    pairs-named None pairs (none, empty) = record {
      stands = λ key has. let nothing = subst (IsIn has.0) none has.1 in absurd nothing;
      once = λ key a b has other. let e = sym has.2 ∙ empty (leaf_name a) in absurd (cc);
      listed = λ slot key has. let e = sym has.2 ∙ empty (leaf_name slot) in absurd (cc);
    }
    pairs-named (Some root) pairs (s, tree, are) = record {
      stands = λ key has.
          let l = in_unmap leaf_pair has.0 (leaves s) (subst (IsIn has.0) (sym are) has.1) in
          (l.0.slot, (l.0.key, l.0.value, leaf-of bytes P arena root [] s tree l.0.slot l.0.key l.0.value l.1, ap (key_of bytes) l.2 ∙ has.2));
      once = λ key a b has other.
          let up = leaves_ascend bytes (leaves s) (pairs_ascend bytes s tree.nodes.under) in
          ap (λ (l : LeafAt K V). l.slot) (one-item (λ (l : LeafAt K V). bytes l.key) (leaves s) up _ _ (in-tree root s tree a key has) (in-tree root s tree b key other) (has.3 ∙ sym other.3));
      listed = λ slot key has. ((has.0, has.1), subst (IsIn (has.0, has.1)) are (in_map leaf_pair _ (leaves s) (in-tree root s tree slot key has)), has.3);
    }

    -- a map's keys stand in its leaves
    pub named : (is_key : K → Type 0) (root : Option Name) → IsMap bytes is_key P arena root → AreNamed bytes (contents arena root)
    named is_key root map = pairs-named root (pairs_from arena root) map.has

  -- where no leaf is new, those keep their names that stay
  pub kept-names : (old new : Contents K V) → AreNamed bytes old → AreNamed bytes new → AddsNoLeaf bytes old new → KeepsLeaves bytes old new
  kept-names old new was is none slot key has still =
      let there = is.stands key still in
      subst (λ n. HasKeyAt bytes new.nodes n key) (was.once key there.0 slot (none there.0 key there.1) has) there.1

  pub names-between : (P : ℕ) (is_key : K → Type 0) (old new : Arena K V) (root then : Option Name) → IsMap bytes is_key P old root → IsMap bytes is_key P new then → HasLeavesOf bytes old new → KeepsLeaves bytes (contents old root) (contents new then)
  names-between P is_key old new root then was is none = kept-names (contents old root) (contents new then) (named P old is_key root was) (named P new is_key then is) none

  -- where none went, each keeps its name
  pub all-names : (old new : Contents K V) → KeepsAllLeaves bytes old new → KeepsLeaves bytes old new
  all-names old new all slot key has still = all slot key has

  -- one change after another
  pub then-names : (one two three : Arena K V) → HasLeavesOf bytes one two → HasLeavesOf bytes two three → HasLeavesOf bytes one three
  then-names one two three f g slot key has = f slot key (g slot key has)

  -- a leaf with another value keeps its key
  one-leaf : (one two : Arena K V) (slot : ℕ) (k : K) (v w : V) → node_at one (leaf_name slot) ≡ Some (pair k v) → node_at two (leaf_name slot) ≡ Some (pair k w) → ((n : Name) → (n ≡ leaf_name slot → ⊥) → node_at two n ≡ node_at one n) → HasLeavesOf bytes one two
  one-leaf one two slot k v w here there others n key (l, u, e, same) = elim (same_name_tells (leaf_name n) (leaf_name slot)) [
    | inl s ↦
        let f = sym e ∙ ap (node_at two) s.1 ∙ there in
        let is : l ≡ k = cc in
        (k, v, ap (node_at one) s.1 ∙ here, sym (ap bytes is) ∙ same)
    | inr o ↦ (l, u, sym (others (leaf_name n) o.1) ∙ e, same)
  ]

  module _ (m : Contents K V) (slot : ℕ) (p : K × V) (at : HasPairAt m slot p) (w : V) where
    abbrev is : LeafThere m.nodes slot
    is = leaf-there m.nodes slot (held-some (held_at m.nodes (leaf_name slot)) _ at)

    pub written-names : AddsNoLeaf bytes m (with_value_at m slot w)
    written-names = one-leaf m.nodes (with_leaf_value m.nodes slot w) slot is.leaf.key is.leaf.value w (ap cell_of is.held) (ap cell_of (is.written w).changed) (λ n o. ap cell_of ((is.written w).others n o))

    pub written-all : KeepsAllLeaves bytes m (with_value_at m slot w)
    written-all = one-leaf (with_leaf_value m.nodes slot w) m.nodes slot is.leaf.key w is.leaf.value (ap cell_of (is.written w).changed) (ap cell_of is.held) (λ n o. sym (ap cell_of ((is.written w).others n o)))
