-- What a contract sees of a map: its pairs in order, and the nodes that hold them.
use Rattle.std.specs.Prelude.{◌≡◌, ℕ, zero, suc, Bool, bytes_eq, List, [], ◌∷◌, ◌++◌, length}
use Rattle.std.specs.Prelude.{Option, Some, None, IsSome}
use Rattle.std.specs.List.{AllByRecursion}
use Rattle.std.specs.Map.{lookup, lookup_entry}
use Rattle.art_nodes.specs.Name.{Name}
use Rattle.art_nodes.specs.declared.leaf.LeafNode.{LeafNode}
use Rattle.art_arena.specs.arena.Arena.{Arena, KeepsRoomOf, SameNodes, node_at, held_at, slots_of}
use Rattle.art_arena.specs.arena.Cells.{Cell, pair, branches, leaf_name}
use Rattle.art_arena.specs.tree.Tenants.{begins_with}
use Rattle.art_operations.specs.Marked.{longest_marked}
use Rattle.art_operations.specs.Pairs.{HasPairs}

-- the pairs, ascending by the bytes of their keys; the nodes that hold them, and the name of the root
pub record Contents (K V : Type 0) : Type 0 where
  pub pairs : List (K × V)
  pub nodes : Arena K V
  pub root : Option Name

-- the test that a key has these bytes
abbrev pub has_bytes : {K : Type 0} → (K → List ℕ) → List ℕ → K → Bool
has_bytes bytes query k = bytes_eq (bytes k) query

-- the test that a key is a front of these bytes, or equals them
abbrev pub is_front : {K : Type 0} → (K → List ℕ) → List ℕ → K → Bool
is_front bytes query k = begins_with (bytes k) query

-- the pair whose key has these bytes, and its value, if there is one
abbrev pub found_pair : {K V : Type 0} → (K → List ℕ) → List ℕ → List (K × V) → Option (K × V)
found_pair bytes query pairs = lookup_entry (has_bytes bytes query) pairs

abbrev pub found_value : {K V : Type 0} → (K → List ℕ) → List ℕ → List (K × V) → Option V
found_value bytes query pairs = lookup (has_bytes bytes query) pairs

-- the pair whose key is the longest that is some bytes of the query, from its first, and the mark, if there is one:
-- that of the whole query and the mark, or else of one byte less, and so on
abbrev pub marked_pair : {K V : Type 0} → (K → List ℕ) → List ℕ → ℕ → List (K × V) → Option (K × V)
marked_pair bytes query mark pairs = longest_marked (λ key. found_pair bytes key pairs) query mark (length query)

-- the value of a pair, if there is one
abbrev pub option_value : {K V : Type 0} → Option (K × V) → Option V
option_value None = None
option_value (Some p) = Some p.1

-- the pair of a leaf, if there is one
abbrev pub entry_in : {K V : Type 0} → Option (LeafNode K V) → Option (K × V)
entry_in None = None
entry_in (Some leaf) = Some (leaf.key, leaf.value)

-- the first item, and the last
abbrev pub first_item : {X : Type 0} → List X → Option X
first_item [] = None
first_item (x ∷ xs) = Some x

abbrev pub last_item : {X : Type 0} → List X → Option X
last_item [] = None
last_item (x ∷ []) = Some x
last_item (x ∷ y ∷ xs) = last_item (y ∷ xs)

module _ {K V : Type 0} where
  -- the pairs below each of these children
  abbrev pub pairs_under : (Name → List (K × V)) → List (ℕ × Name) → List (K × V)
  pairs_under below [] = []
  pairs_under below (c ∷ rest) = below c.1 ++ pairs_under below rest

  -- the pair of a leaf, or those below the children of an inner node
  abbrev pub pairs_in : (Name → List (K × V)) → Option (Cell K V) → List (K × V)
  pairs_in below None = []
  pairs_in below (Some (pair k v)) = (k, v) ∷ []
  pairs_in below (Some (branches node)) = pairs_under below node.children

  -- the pairs of the leaves below a name, in order, as far as this many steps down show them
  abbrev pub pairs_below : ℕ → (Name → Option (Cell K V)) → Name → List (K × V)
  pairs_below zero at n = []
  pairs_below (suc steps) at n = pairs_in (pairs_below steps at) (at n)

  -- the pairs of the tree of a root, or of none; no leaf stands deeper than there are slots
  abbrev pub pairs_from : Arena K V → Option Name → List (K × V)
  pairs_from arena None = []
  pairs_from arena (Some root) = pairs_below (slots_of arena) (node_at arena) root

  -- the contents of a map of these nodes
  abbrev pub contents : Arena K V → Option Name → Contents K V
  contents arena root = record { pairs = pairs_from arena root; nodes = arena; root = root }

  -- a leaf stands under this slab key
  abbrev pub HasLeafAt : Contents K V → ℕ → Type 0
  HasLeafAt m slot = IsSome (held_at m.nodes (leaf_name slot))

  -- every node of a map is what it was, and its root has the same name
  abbrev pub HasSameNodes : Contents K V → Contents K V → Type 0
  HasSameNodes old new = SameNodes old.nodes new.nodes × (new.root ≡ old.root)

  -- and what room there was for nodes of each kind stays
  abbrev pub IsUntouched : Contents K V → Contents K V → Type 0
  IsUntouched old new = SameNodes old.nodes new.nodes × (new.root ≡ old.root) × KeepsRoomOf old.nodes new.nodes

  -- it has the same pairs too
  abbrev pub IsKept : Contents K V → Contents K V → Type 0
  IsKept old new = (new.pairs ≡ old.pairs) × IsUntouched old new

module _ {K V : Type 0} (bytes : K → List ℕ) (is_key : K → Type 0) (P : ℕ) where
  -- the arena has the tree of these pairs and nothing else, and each key is one
  pub record IsMap (arena : Arena K V) (root : Option Name) : Type 0 where
    pub has : HasPairs bytes P arena root (pairs_from arena root)
    pub keys : AllByRecursion (λ p. is_key p.0) (pairs_from arena root)
