-- What a check of names knows: a shape whose nodes have as many children as their kinds have, its prefixes aside.
use Rattle.std.specs.Prelude.{◌≡◌, ℕ, List, [], ◌∷◌, Option}
use Rattle.art_nodes.specs.Name.{Name}
use Rattle.art_arena.specs.arena.Cells.{Cell, AreHeld}
use Rattle.art_arena.specs.tree.Kinds.{IsKindOf}
use Rattle.art_arena.specs.arena.Shapes.{Shape, Branches, leaf_at, inner_at, no_branch, branch, name_of, width, cells}

module _ {K V : Type 0} where
  -- each inner node has as many children as its kind
  abbrev mutual
    pub HasKinds : Shape K V → Type 0
    HasKinds (leaf_at slot k v) = Unit {0}
    HasKinds (inner_at n prefix kids) = IsKindOf n.kind (width kids) × HaveKinds kids

    pub HaveKinds : Branches K V → Type 0
    HaveKinds no_branch = Unit {0}
    HaveKinds (branch byte s rest) = HasKinds s × HaveKinds rest

  -- the names of cells
  abbrev pub cell_names : List (Name × Cell K V) → List Name
  cell_names [] = []
  cell_names (c ∷ rest) = c.0 ∷ cell_names rest

  -- a shape that stands below the root, whose cells have these names in order
  pub record IsSkeleton (P : ℕ) (at : Name → Option (Cell K V)) (root : Name) (names : List Name) : Type 0 where
    pub shape : Shape K V
    pub root_is : name_of shape ≡ root
    pub held : AreHeld at (cells P shape)
    pub kinds : HasKinds shape
    pub names_are : cell_names (cells P shape) ≡ names
