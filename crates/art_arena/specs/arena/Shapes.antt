-- A tree with the names of its nodes and whole prefixes: what a name in an arena stands for.
use Rattle.std.specs.Prelude.{◌≡◌, ℕ, suc, ◌+◌, ◌≤◌, ◌⊎◌, List, [], ◌∷◌, ◌++◌, length, take, map}
use Rattle.art_nodes.specs.Name.{Name}
use Rattle.art_arena.specs.tree.Trees as tree
use Rattle.art_bytes.specs.Keys.{BeginsWith}
use Rattle.art_arena.specs.tree.Kinds.{IsKindOf}
use Rattle.art_arena.specs.arena.Cells.{Cell, pair, branches, leaf_name}

-- A leaf has a slab key, a key and a value. An inner node has a name, a prefix, and a branch for each of some bytes.
mutual
  pub data Shape (K V : Type 0) : Type 0 where
    leaf_at : ℕ → K → V → Shape K V
    inner_at : Name → List ℕ → Branches K V → Shape K V

  pub data Branches (K V : Type 0) : Type 0 where
    no_branch : Branches K V
    branch : ℕ → Shape K V → Branches K V → Branches K V

-- a leaf of a shape: its slab key, its key and its value
pub record LeafAt (K V : Type 0) : Type 0 where
  pub slot : ℕ
  pub key : K
  pub value : V

module _ {K V : Type 0} where
  -- the name of the root
  abbrev pub name_of : Shape K V → Name
  name_of (leaf_at slot k v) = leaf_name slot
  name_of (inner_at n prefix kids) = n

  -- the bytes and names of the children, as an inner node has them
  abbrev pub children_at : Branches K V → List (ℕ × Name)
  children_at no_branch = []
  children_at (branch byte s rest) = (byte, name_of s) ∷ children_at rest

  -- how many branches there are
  abbrev pub width : Branches K V → ℕ
  width no_branch = 0
  width (branch byte s rest) = suc (width rest)

  -- these branches, and then those
  abbrev pub join : Branches K V → Branches K V → Branches K V
  join no_branch rest = rest
  join (branch byte s more) rest = branch byte s (join more rest)

  -- the leaves in order
  abbrev mutual
    pub leaves : Shape K V → List (LeafAt K V)
    leaves (leaf_at s k v) = record { slot = s; key = k; value = v } ∷ []
    leaves (inner_at n prefix kids) = leaves_in kids

    pub leaves_in : Branches K V → List (LeafAt K V)
    leaves_in no_branch = []
    leaves_in (branch byte s rest) = leaves s ++ leaves_in rest

  -- the pairs of the leaves
  abbrev pub pairs_of : List (LeafAt K V) → List (K × V)
  pairs_of ls = map (λ l. (l.key, l.value)) ls

  -- the shape is one of the branches
  abbrev pub IsBranch : Shape K V → Branches K V → Type 0
  IsBranch s no_branch = ⊥
  IsBranch s (branch byte t rest) = (t ≡ s) ⊎ IsBranch s rest

  -- the tree, its names put aside
  abbrev mutual
    pub erase : Shape K V → tree.Tree (K × V)
    erase (leaf_at slot k v) = tree.leaf (k, v)
    erase (inner_at n prefix kids) = tree.inner prefix (erase_in kids)

    pub erase_in : Branches K V → tree.Forest (K × V)
    erase_in no_branch = tree.no_child
    erase_in (branch byte s rest) = tree.child byte (erase s) (erase_in rest)

-- `P` is how many bytes of a prefix a header stores
module _ {K V : Type 0} (P : ℕ) where
  -- the cell of an inner node: a header that counts the children and stores the front of the prefix, and the children
  abbrev pub node_of : List ℕ → List (ℕ × Name) → Cell K V
  node_of prefix kids =
      branches (record {
        header = record { num_children = length kids; prefix_len = length prefix; stored = take P prefix };
        children = kids;
      })

  -- the cells that the shape takes, each with its name
  abbrev mutual
    pub cells : Shape K V → List (Name × Cell K V)
    cells (leaf_at slot k v) = (leaf_name slot, pair k v) ∷ []
    cells (inner_at n prefix kids) = (n, node_of prefix (children_at kids)) ∷ cells_in kids

    pub cells_in : Branches K V → List (Name × Cell K V)
    cells_in no_branch = []
    cells_in (branch byte s rest) = cells s ++ cells_in rest

-- `bytes` are the bytes of a key
module _ {K V : Type 0} (bytes : K → List ℕ) where
  -- Each leaf's key begins with the path to it, the number of children is that of the node's kind, and bytes ascend.
  abbrev mutual
    pub IsUnder : List ℕ → Shape K V → Type 0
    IsUnder path (leaf_at slot k v) = BeginsWith path (bytes k)
    IsUnder path (inner_at n prefix kids) = IsKindOf n.kind (width kids) × AreUnder (path ++ prefix) 0 kids

    pub AreUnder : List ℕ → ℕ → Branches K V → Type 0
    AreUnder path low no_branch = Unit {0}
    AreUnder path low (branch byte s rest) =
        (low ≤ byte) × IsUnder (path ++ byte ∷ []) s × AreUnder path (byte + 1) rest

  -- the bytes of a pair's key
  abbrev pub key_of : K × V → List ℕ
  key_of p = bytes p.0
