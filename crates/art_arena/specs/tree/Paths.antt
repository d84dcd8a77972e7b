-- The nodes on the way to a key.
use Rattle.std.specs.Prelude.{ℕ, ◌==◌, if◌then◌else◌, List, [], ◌∷◌, length, drop, take, Option, Some, None}
use Rattle.art_arena.specs.tree.Tenants.{begins_with}
use Rattle.art_arena.specs.tree.Trees.{Tree, Forest, leaf, inner, no_child, child}

-- From the root down: at an inner node by the byte of the key just after the prefix, whatever the prefix's bytes are,
-- as long as there is such a byte and a child for it.
abbrev mutual
  pub path_of : {X : Type 0} → Tree X → List ℕ → List (Tree X)
  path_of (leaf x) k = leaf x ∷ []
  path_of (inner prefix children) k = inner prefix children ∷ path_in children (drop (length prefix) k)

  pub path_in : {X : Type 0} → Forest X → List ℕ → List (Tree X)
  path_in no_child k = []
  path_in (child byte tree others) [] = []
  path_in (child byte tree others) (b ∷ k) = if b == byte then path_of tree k else path_in others (b ∷ k)

-- The nodes of that path that a look-up reads where a node stores `P` bytes of its prefix: it goes on from an inner
-- node if the key goes on there with what is stored.
abbrev mutual
  pub look_up_path : {X : Type 0} → ℕ → Tree X → List ℕ → List (Tree X)
  look_up_path P (leaf x) k = leaf x ∷ []
  look_up_path P (inner prefix children) k =
      inner prefix children
      ∷ (if begins_with (take P prefix) k then look_up_in P children (drop (length prefix) k) else [])

  pub look_up_in : {X : Type 0} → ℕ → Forest X → List ℕ → List (Tree X)
  look_up_in P no_child k = []
  look_up_in P (child byte tree others) [] = []
  look_up_in P (child byte tree others) (b ∷ k) =
      if b == byte then look_up_path P tree k else look_up_in P others (b ∷ k)

-- the item of the leaf at which the nodes end
abbrev pub last_leaf : {X : Type 0} → List (Tree X) → Option X
last_leaf [] = None
last_leaf (leaf x ∷ []) = Some x
last_leaf (inner prefix children ∷ []) = None
last_leaf (t ∷ u ∷ nodes) = last_leaf (u ∷ nodes)
