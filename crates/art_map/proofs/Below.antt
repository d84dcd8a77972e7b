-- The pairs that a map shows are those of the leaves of its tree.
use Rattle.std.proofs.Common.{◌≡◌, ℕ, zero, suc, ◌≤◌, List, ◌++◌, length, Option, Some, None, refl, sym, ap, ap₂, subst, ◌∙◌, arith, length-append}
use Rattle.std.proofs.lemmas.List.{map-append}
use Rattle.art_nodes.proofs.Common.{Name}
use Rattle.art_arena.proofs.Common.{Arena, node_at, slots_of, Cell, AreHeld, Shape, Branches, leaf_at, inner_at, no_branch, branch, name_of, children_at, leaves, leaves_in, pairs_of, cells, cells_in, StoresOnly, all_left, all_right, cells_few, nodes-part}
use Rattle.art_operations.proofs.Common.{HasPairs, leaf_pair}
use Rattle.art_map.proofs.Terms.{pairs_under, pairs_in, pairs_below, pairs_from}

module _ {K V : Type 0} (P : ℕ) (at : Name → Option (Cell K V)) where
  mutual
    below-held : (steps : ℕ) (s : Shape K V) → AreHeld at (cells P s) → length (cells P s) ≤ steps → pairs_below steps at (name_of s) ≡ pairs_of (leaves s)
    below-held zero (leaf_at slot k v) held low = absurd (omega (arith, low))
    below-held (suc steps) (leaf_at slot k v) held low = ap (pairs_in (pairs_below steps at)) held.0
    below-held zero (inner_at n prefix kids) held low = absurd (omega (arith, low))
    below-held (suc steps) (inner_at n prefix kids) held low =
        ap (pairs_in (pairs_below steps at)) held.0 ∙ under-held steps kids held.1 (omega (arith, low))

    under-held : (steps : ℕ) (f : Branches K V) → AreHeld at (cells_in P f) → length (cells_in P f) ≤ steps → pairs_under (pairs_below steps at) (children_at f) ≡ pairs_of (leaves_in f)
    under-held steps no_branch held low = refl
    under-held steps (branch byte s rest) held low =
        let Q = λ (c : Name × Cell K V). at c.0 ≡ Some c.1 in
        let wide = length-append (cells P s) (cells_in P rest) in
        ap₂ (λ xs ys. xs ++ ys)
        (below-held steps s (all_left Q (cells P s) (cells_in P rest) held) (omega (arith, low, wide)))
        (under-held steps rest (all_right Q (cells P s) (cells_in P rest) held) (omega (arith, low, wide)))
        ∙ sym (map-append leaf_pair (leaves s) (leaves_in rest))

module _ {K V : Type 0} (bytes : K → List ℕ) (P : ℕ) (arena : Arena K V) where
  pub tree-pairs : (root : Name) (s : Shape K V) → StoresOnly bytes P arena root s → pairs_from arena (Some root) ≡ pairs_of (leaves s)
  tree-pairs root s tree =
      ap (pairs_below (slots_of arena) (node_at arena)) (sym tree.nodes.named)
      ∙ below-held P (node_at arena) (slots_of arena) s tree.nodes.holds.held (cells_few P arena root s (nodes-part bytes P (node_at arena) root s tree.nodes))

  -- where an arena has pairs, they are those that are seen
  pub has-seen : (root : Option Name) (pairs : List (K × V)) → HasPairs bytes P arena root pairs → pairs_from arena root ≡ pairs
  has-seen None pairs has = sym has.0
  has-seen (Some root) pairs (s, tree, e) = tree-pairs root s tree ∙ e

  pub has-there : (root : Option Name) (pairs : List (K × V)) → HasPairs bytes P arena root pairs → HasPairs bytes P arena root (pairs_from arena root)
  has-there root pairs has = subst (HasPairs bytes P arena root) (sym (has-seen root pairs has)) has
