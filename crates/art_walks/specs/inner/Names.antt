-- Names that a check meets, and the node that it opens.
use Rattle.std.specs.Prelude.{◌≡◌, ℕ, ◌+◌, ◌≤◌, Bool, false, ◌||◌, if◌then◌else◌, List, [], ◌∷◌, ◌++◌, length, Option}
use Rattle.std.specs.Prelude.{Some, reverse}
use Rattle.art_nodes.specs.Kind.{row_of}
use Rattle.art_nodes.specs.declared.kind.NodeType.{NodeType}
use Rattle.art_nodes.specs.Name.{Name}
use Rattle.art_nodes.specs.InnerNode.{InnerNode, IsInnerNode, names_of}
use Rattle.art_arena.specs.arena.Cells.{Cell, branches, same_kind, same_name}
use Rattle.art_arena.specs.tree.Kinds.{IsKindOf}

-- whether a name is among some
abbrev pub has_name : Name → List Name → Bool
has_name n [] = false
has_name n (x ∷ rest) = same_name n x || has_name n rest

-- how often a name is among some
abbrev pub meets : Name → List Name → ℕ
meets n [] = 0
meets n (x ∷ rest) = (if same_name n x then 1 else 0) + meets n rest

-- how many of some names are of a kind
abbrev pub count_kind : NodeType → List Name → ℕ
count_kind kind [] = 0
count_kind kind (n ∷ rest) = (if same_kind kind n.kind then 1 else 0) + count_kind kind rest

-- none of these names is met twice
abbrev pub AreOnce : List Name → Type 0
AreOnce names = (n : Name) → meets n names ≤ 1

module _ {K V : Type 0} (at : Name → Option (Cell K V)) (n : Name) where
  -- The inner node under this name has as many children as one of its kind, and they wait now, the first on top.
  pub record IsOpened (P : ℕ) (old new : List Name) : Type 0 where
    pub node : InnerNode
    pub held : at n ≡ Some (branches node)
    pub is_inner : IsInnerNode P (row_of n.kind).most node
    pub kind : IsKindOf n.kind (length node.children)
    pub wait : new ≡ old ++ reverse (names_of node.children)

  -- or it has fewer or more
  pub record IsMiscounted : Type 0 where
    pub node : InnerNode
    pub held : at n ≡ Some (branches node)
    pub wrong : IsKindOf n.kind (length node.children) → ⊥
