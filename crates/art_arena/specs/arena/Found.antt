-- What the search for a key answers: the filter of all leaves by equal key.
use Rattle.std.specs.Prelude.{◌≡◌, ℕ, List, [], ◌∷◌, ◌++◌, filter, map, take, Option, Some, None}
use Rattle.std.specs.Str.{bytes_eq}
use Rattle.art_nodes.specs.Name.{Name}
use Rattle.art_arena.specs.arena.Cells.{Cell, pair, leaf_name}
use Rattle.art_arena.specs.arena.Shapes.{Shape, Branches, leaf_at, inner_at, no_branch, branch, LeafAt}
use Rattle.art_arena.specs.arena.Context.{Frame}
use Rattle.art_arena.specs.arena.Steps.{Step, steps_to, steps_of}
use Rattle.art_arena.specs.arena.Places.{IsPlace}
use Rattle.art_arena.specs.declared.find.FoundLeaf.{FoundLeaf}

-- a leaf, and the steps from the root to it, the last one first
pub record Located (K V : Type 0) : Type 0 where
  pub leaf : LeafAt K V
  pub steps : List Step

module _ {K V : Type 0} where
  -- the leaves in order, each with the steps to it, where these steps lead to the shape
  abbrev mutual
    pub located : List Step → Shape K V → List (Located K V)
    located above (leaf_at slot k v) = record { leaf = record { slot = slot; key = k; value = v }; steps = above } ∷ []
    located above (inner_at n prefix kids) = located_in above n kids

    pub located_in : List Step → Name → Branches K V → List (Located K V)
    located_in above n no_branch = []
    located_in above n (branch byte s rest) =
        located (record { node = n; byte = byte } ∷ above) s ++ located_in above n rest

  -- the key and the value of a leaf's cell
  abbrev pub pair_of : Option (Cell K V) → List (K × V)
  pair_of (Some (pair k v)) = (k, v) ∷ []
  pair_of cell = []

  -- the pair of the leaf that was found, if one was
  abbrev pub pair_found : (Name → Option (Cell K V)) → Option FoundLeaf → List (K × V)
  pair_found at None = []
  pair_found at (Some found) = pair_of (at (leaf_name found.leaf_node_ptr))

-- the slab key of a leaf, and the last two steps to it
abbrev pub Found : Type 0
Found = ℕ × List Step

-- what was found
abbrev pub found_of : Option FoundLeaf → List Found
found_of None = []
found_of (Some found) = (found.leaf_node_ptr, steps_of found.path) ∷ []

module _ {K V : Type 0} (bytes : K → List ℕ) (key : List ℕ) where
  -- the leaves with this key, each with the steps to it
  abbrev pub located_with_key : Shape K V → List (Located K V)
  located_with_key s = filter (λ l. bytes_eq (bytes l.leaf.key) key) (located [] s)

  -- their slab keys, and the last two steps to each
  abbrev pub found_in : Shape K V → List Found
  found_in s = map (λ l. (l.leaf.slot, take 2 l.steps)) (located_with_key s)

  -- the leaf with this slab key stands at a place of the tree to which these last steps lead, and has the key
  pub record IsAtKey (s : Shape K V) (slot : ℕ) (last : List Step) : Type 0 where
    pub ctx : List (Frame K V)
    pub leaf_key : K
    pub value : V
    pub place : IsPlace bytes s ctx (leaf_at slot leaf_key value)
    pub steps : take 2 (steps_to ctx) ≡ last
    pub same : bytes leaf_key ≡ key
