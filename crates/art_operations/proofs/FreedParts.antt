-- The cells of leaves: those of two lists, and those of a shape, which are held where its cells are.
use Rattle.std.proofs.Common.{◌≡◌, ℕ, List, ◌++◌, Option, Some, sym, subst}
use Rattle.std.proofs.lemmas.List.{map-append}
use Rattle.art_nodes.proofs.Common.{Name}
use Rattle.art_arena.proofs.Common.{Cell, pair, leaf_name, AreHeld, Shape, Branches, leaf_at, inner_at, no_branch, branch, LeafAt, leaves, leaves_in, cells, cells_in, all_append, all_left, all_right}
use Rattle.art_operations.proofs.Terms.{leaf_cells}

module _ {K V : Type 0} where
  -- the cells of two lists of leaves
  pub cells-parts : (xs ys : List (LeafAt K V)) → leaf_cells (xs ++ ys) ≡ leaf_cells xs ++ leaf_cells ys
  cells-parts xs ys = map-append (λ (l : LeafAt K V). (leaf_name l.slot, pair l.key l.value)) xs ys

module _ {K V : Type 0} (P : ℕ) where
  module _ (at : Name → Option (Cell K V)) where
    abbrev IsThere : Name × Cell K V → Type 0
    IsThere c = at c.0 ≡ Some c.1

    mutual
      pub leaves-held : (s : Shape K V) → AreHeld at (cells P s) → AreHeld at (leaf_cells (leaves s))
      leaves-held (leaf_at slot k v) held = held
      leaves-held (inner_at m prefix kids) held = leaves-held-in kids held.1

      leaves-held-in : (f : Branches K V) → AreHeld at (cells_in P f) → AreHeld at (leaf_cells (leaves_in f))
      leaves-held-in no_branch held = tt
      leaves-held-in (branch byte s rest) held =
          subst (AreHeld at) (sym (cells-parts (leaves s) (leaves_in rest)))
          (all_append IsThere (leaf_cells (leaves s)) (leaf_cells (leaves_in rest)) (leaves-held s (all_left IsThere (cells P s) (cells_in P rest) held)) (leaves-held-in rest (all_right IsThere (cells P s) (cells_in P rest) held)))
