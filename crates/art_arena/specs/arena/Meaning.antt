-- What a name means: which tree stands under it in an arena. `at` tells what stands under a name, `links` the links of
-- a leaf.
use Rattle.std.specs.Prelude.{◌≡◌, ℕ, ◌≤◌, List, [], ◌++◌, length, Option, None}
use Rattle.art_nodes.specs.Name.{Name}
use Rattle.art_arena.specs.tree.Trees.{Tree}
use Rattle.art_arena.specs.arena.Cells.{Cell, copies, AreHeld, Holds}
use Rattle.art_arena.specs.arena.Shapes.{Shape, name_of, leaves, erase, cells, IsUnder}
use Rattle.art_arena.specs.arena.Linked.{Links, AreLinked}

module _ {K V : Type 0} (P : ℕ) (at : Name → Option (Cell K V)) (root : Name) where
  -- the arena has this shape below the name, no name in it twice
  pub record IsPart (s : Shape K V) : Type 0 where
    pub named : name_of s ≡ root
    pub held : AreHeld at (cells P s)
    pub once : (n : Name) → copies n (cells P s) ≤ 1

module _ {K V : Type 0} (bytes : K → List ℕ) (P : ℕ) (at : Name → Option (Cell K V)) (root : Name) where
  -- the arena has this shape below the name, which is canonical under the path
  pub record IsSubtree (path : List ℕ) (s : Shape K V) : Type 0 where
    pub part : IsPart P at root s
    pub under : IsUnder bytes path s

  -- and the path has so many bytes
  pub record IsAtDepth (depth : ℕ) (path : List ℕ) (s : Shape K V) : Type 0 where
    pub subtree : IsSubtree path s
    pub path_len : length path ≡ depth

  -- the arena's nodes are these and those of this shape, which is canonical, and it holds no other name
  pub record IsNodesBeside (rest : List (Name × Cell K V)) (s : Shape K V) : Type 0 where
    pub named : name_of s ≡ root
    pub holds : Holds at (rest ++ cells P s)
    pub under : IsUnder bytes [] s

  module _ (links : ℕ → Option Links) where
    -- and the shape's leaves are linked in order, with open ends
    pub record IsTreeBeside (rest : List (Name × Cell K V)) (s : Shape K V) : Type 0 where
      pub nodes : IsNodesBeside rest s
      pub linked : AreLinked links None (leaves s) None

    -- the name means the tree: it is the root of a canonical shape of that tree, whose leaves are linked in order with
    -- open ends
    pub record Means (tree : Tree (K × V)) : Type 0 where
      pub shape : Shape K V
      pub part : IsPart P at root shape
      pub under : IsUnder bytes [] shape
      pub linked : AreLinked links None (leaves shape) None
      pub erased : erase shape ≡ tree

    -- and the arena holds these nodes and those of the tree, and no other
    pub record MeansBeside (rest : List (Name × Cell K V)) (tree : Tree (K × V)) : Type 0 where
      pub shape : Shape K V
      pub is_tree : IsTreeBeside rest shape
      pub erased : erase shape ≡ tree

    abbrev pub MeansAll : Tree (K × V) → Type 0
    MeansAll tree = MeansBeside [] tree
