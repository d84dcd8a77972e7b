-- How many nodes a shape has, told by the arena alone, whether its leaves are held or not: the measure of a walk, and
-- of frees.
use Rattle.std.proofs.Common.{◌≡◌, ℕ, zero, suc, ◌≤◌, Bool, cond, List, length, Option, Some, None, is_some, refl, sym, ap, ◌∙◌, arith, length-append}
use Rattle.art_nodes.proofs.Common.{Name}
use Rattle.art_arena.proofs.Common.{Arena, node_at, slots_of, Cell, pair, branches, leaf_name, AreHeld, Shape, Branches, leaf_at, inner_at, no_branch, branch, name_of, children_at, cells, cells_in, all_left, all_right, copies-append, no_inner, held_few, total}
use Rattle.art_operations.proofs.Terms.{cells_with, cells_with_in, HoldsPart}

-- what counts once at most
pub at_most_one : {C : Type 0} (o : Option C) (n : ℕ) → n ≡ cond (is_some o) 1 0 → n ≤ 1
at_most_one None n e = omega (arith, e)
at_most_one (Some c) n e = omega (arith, e)

module _ {K V : Type 0} where
  abbrev size_of_held : (Name → ℕ) → Option (Cell K V) → ℕ
  size_of_held f None = 1
  size_of_held f (Some (pair k v)) = 1
  size_of_held f (Some (branches node)) = suc (total f node.children)

  -- the number of nodes below a name, itself included, as far as this many steps down show it; what isn't held counts
  -- as a leaf
  abbrev size_below : ℕ → (Name → Option (Cell K V)) → Name → ℕ
  size_below zero at n = 1
  size_below (suc fuel) at n = size_of_held (size_below fuel at) (at n)

  -- so many nodes a shape has whose root has this name
  abbrev pub size_of : Arena K V → Name → ℕ
  size_of arena n = size_below (slots_of arena) (node_at arena) n

  module _ (P : ℕ) (w : Bool) (arena : Arena K V) where
    size-leaf : (fuel : ℕ) (slot : ℕ) → size_below fuel (node_at arena) (leaf_name slot) ≡ 1
    size-leaf zero slot = refl
    size-leaf (suc fuel) slot = here (node_at arena (leaf_name slot)) refl
      where
        here : (o : Option (Cell K V)) → node_at arena (leaf_name slot) ≡ o → size_of_held (size_below fuel (node_at arena)) (node_at arena (leaf_name slot)) ≡ 1
        here None e = ap (size_of_held (size_below fuel (node_at arena))) e
        here (Some (pair k v)) e = ap (size_of_held (size_below fuel (node_at arena))) e
        here (Some (branches node)) e = absurd (no_inner arena (leaf_name slot) node refl e)

    mutual
      size-held : (fuel : ℕ) (s : Shape K V) → AreHeld (node_at arena) (cells_with P w s) → length (cells_with P w s) ≤ fuel → size_below fuel (node_at arena) (name_of s) ≡ length (cells P s)
      size-held fuel (leaf_at slot k v) held low = size-leaf fuel slot
      size-held zero (inner_at n prefix kids) held low = absurd (omega (arith, low))
      size-held (suc fuel) (inner_at n prefix kids) held low =
          ap (size_of_held (size_below fuel (node_at arena))) held.0 ∙ ap suc (sizes-held fuel kids held.1 (omega (arith, low)))

      sizes-held : (fuel : ℕ) (f : Branches K V) → AreHeld (node_at arena) (cells_with_in P w f) → length (cells_with_in P w f) ≤ fuel
          → total (size_below fuel (node_at arena)) (children_at f) ≡ length (cells_in P f)
      sizes-held fuel no_branch held low = refl
      sizes-held fuel (branch byte s rest) held low =
          let Q = λ (c : Name × Cell K V). node_at arena c.0 ≡ Some c.1 in
          let wide = length-append (cells_with P w s) (cells_with_in P w rest) in
          let here = size-held fuel s (all_left Q (cells_with P w s) (cells_with_in P w rest) held) (omega (arith, low, wide)) in
          let later = sizes-held fuel rest (all_right Q (cells_with P w s) (cells_with_in P w rest) held) (omega (arith, low, wide)) in
          omega (arith, here, later, length-append (cells P s) (cells_in P rest))

    pub size-part : (n : Name) (s : Shape K V) (rest : List (Name × Cell K V)) → HoldsPart P w arena n s rest → size_of arena n ≡ length (cells P s)
    size-part n s rest part =
        let held = all_left (λ (c : Name × Cell K V). node_at arena c.0 ≡ Some c.1) (cells_with P w s) rest part.holds.held in
        let few = held_few arena (cells_with P w s) held (λ m. omega (arith, part.holds.once m, copies-append m (cells_with P w s) rest, at_most_one (node_at arena m) _ refl)) in
        ap (size_of arena) (sym part.named) ∙ size-held (slots_of arena) s held few
