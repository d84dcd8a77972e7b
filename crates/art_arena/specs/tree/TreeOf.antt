-- The tree of an ascending list of items, built from the list at once.
use Rattle.std.specs.Prelude.{ℕ, zero, suc, ◌==◌, if◌then◌else◌, List, [], ◌∷◌, length, drop, slice_index, Option, Some}
use Rattle.std.specs.Prelude.{None}
use Rattle.art_arena.specs.tree.Trees.{Tree, Forest, leaf, inner, no_child, child}
use Rattle.art_bytes.specs.Keys.{shared_prefix}

-- a byte, and the items whose keys have it at some depth
abbrev pub Group : Type 0 → Type 0
Group X = ℕ × List X

-- the groups with x in the first, if that is its byte's, and else in a group of its own before them
abbrev pub add_to : {X : Type 0} → ℕ → X → List (Group X) → List (Group X)
add_to byte x [] = (byte, x ∷ []) ∷ []
add_to byte x ((first, xs) ∷ groups) =
    if byte == first then (first, x ∷ xs) ∷ groups else (byte, x ∷ []) ∷ (first, xs) ∷ groups

-- the items in runs that have one byte at the depth
abbrev pub grouped : {X : Type 0} → (X → List ℕ) → ℕ → List X → List (Group X)
grouped key depth [] = []
grouped key depth (x ∷ xs) = add_to (slice_index (key x) depth) x (grouped key depth xs)

-- for each group a child at its byte, the tree of its items
abbrev pub children_of : {X : Type 0} → (List X → Tree X) → List (Group X) → Forest X
children_of tree [] = no_child
children_of tree ((byte, xs) ∷ groups) = child byte (tree xs) (children_of tree groups)

-- The tree of items whose keys share their first `depth` bytes: one item is a leaf; more are an inner node, whose
-- prefix is what all keys share after the depth, with a child for each next byte. `fuel` is at least the number of
-- items.
abbrev pub tree_below : {X : Type 0} → (X → List ℕ) → ℕ → ℕ → List X → Tree X
tree_below key zero depth xs = inner [] no_child
tree_below key (suc fuel) depth [] = inner [] no_child
tree_below key (suc fuel) depth (x ∷ []) = leaf x
tree_below key (suc fuel) depth (x ∷ y ∷ xs) =
    let front = shared_prefix key (x ∷ y ∷ xs) in
    inner (drop depth front)
    (children_of (tree_below key fuel (suc (length front))) (grouped key (length front) (x ∷ y ∷ xs)))

-- the tree of the items, none where there are none
abbrev pub tree_of : {X : Type 0} → (X → List ℕ) → List X → Option (Tree X)
tree_of key [] = None
tree_of key (x ∷ xs) = Some (tree_below key (length (x ∷ xs)) 0 (x ∷ xs))
