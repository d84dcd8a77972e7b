-- The part of a tree whose keys begin with a front.
use Rattle.std.specs.Prelude.{ℕ, ◌==◌, if◌then◌else◌, List, [], Option, Some, None}
use Rattle.art_arena.specs.tree.Trees.{Tree, Forest, leaf, inner, no_child, child, items}
use Rattle.art_arena.specs.tree.Landing.{ends, differs, passes, pass}
use Rattle.art_arena.specs.tree.Tenants.{begins_with}

-- `rest` is what is left of the front after the path to the tree
abbrev mutual
  pub part_with_front : {X : Type 0} → (X → List ℕ) → List ℕ → Tree X → List ℕ → Option (Tree X)
  part_with_front key front (leaf x) rest = if begins_with front (key x) then Some (leaf x) else None
  part_with_front key front (inner prefix children) rest =
      elim (pass prefix rest)
      [ ends ↦ Some (inner prefix children) | differs ↦ None | passes b r ↦ part_in key front children b r ]

  pub part_in : {X : Type 0} → (X → List ℕ) → List ℕ → Forest X → ℕ → List ℕ → Option (Tree X)
  part_in key front no_child b rest = None
  part_in key front (child byte tree others) b rest =
      if b == byte then part_with_front key front tree rest else part_in key front others b rest

-- the items of a part, none where there is none
abbrev pub items_of : {X : Type 0} → Option (Tree X) → List X
items_of None = []
items_of (Some t) = items t
