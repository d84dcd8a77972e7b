-- A tree that is built at its last leaf: the inner nodes that are open, which stand on the way to that leaf.
use Rattle.std.specs.Prelude.{◌≡◌, ℕ, suc, ◌<◌, ◌≤◌, max, nat_le, if◌then◌else◌, List, [], ◌∷◌, ◌++◌, length, take}
use Rattle.std.specs.Prelude.{slice_index}
use Rattle.art_nodes.specs.InnerNode.{InnerNode, IsAscending}
use Rattle.art_nodes.specs.Name.{Name}
use Rattle.art_nodes.specs.declared.leaf.LeafNode.{LeafNode}
use Rattle.art_arena.specs.arena.Arena.{Arena, node_at}
use Rattle.art_arena.specs.arena.Cells.{Cell, Holds}
use Rattle.art_arena.specs.arena.Context.{AreBelow}
use Rattle.art_arena.specs.arena.Shapes.{Shape, Branches, LeafAt, name_of, children_at, width, leaves, leaves_in, cells}
use Rattle.art_arena.specs.arena.Shapes.{cells_in, IsUnder, AreUnder}
use Rattle.art_operations.specs.Held.{HasLeaf}
use Rattle.art_operations.specs.declared.build.spine.Open.{Open}
use Rattle.art_operations.specs.declared.build.spine.Spine.{Spine}

-- an inner node of these children under this prefix
abbrev pub inner_over : ℕ → List ℕ → List (ℕ × Name) → InnerNode
inner_over P prefix children = record {
  header = record { num_children = length children; prefix_len = length prefix; stored = take P prefix };
  children = children;
}

-- no node is open
abbrev pub IsEmptySpine : Spine → Type 0
IsEmptySpine spine = (spine.stack.items ≡ []) × (spine.children.items ≡ [])

-- how many bytes lead to what comes below the last of these nodes: so many at least
abbrev pub begin_of : ℕ → List Open → ℕ
begin_of low [] = low
begin_of low (o ∷ []) = max low o.child_depth
begin_of low (o ∷ p ∷ rest) = begin_of low (p ∷ rest)

-- the nodes with one to whose children so many bytes lead, and before whose children stand so many others
abbrev pub open_at : ℕ → ℕ → List Open → List Open
open_at deep first nodes =
    if nat_le deep (begin_of 0 nodes) then nodes else nodes ++ record { child_depth = deep; first = first } ∷ []

-- such a node is open now
pub record OpensAt (child_depth : ℕ) (old new : Spine) : Type 0 where
  pub stack : new.stack.items ≡ open_at child_depth (length old.children.items) old.stack.items
  pub children : new.children.items ≡ old.children.items

-- and has another child
pub record AddsChild (child_depth : ℕ) (child : ℕ × Name) (old new : Spine) : Type 0 where
  pub stack : new.stack.items ≡ open_at child_depth (length old.children.items) old.stack.items
  pub children : new.children.items ≡ old.children.items ++ child ∷ []

-- an open node: how many bytes of the last key stand before the byte by which it branches, and the children that it has
-- so far
pub record Level (K V : Type 0) : Type 0 where
  pub depth : ℕ
  pub kids : Branches K V

module _ {K V : Type 0} where
  -- The open nodes stand from the last one up to the root. These are their children, leaves and cells, and what the
  -- code keeps of them.
  abbrev pub open_children : List (Level K V) → List (ℕ × Name)
  open_children [] = []
  open_children (l ∷ outer) = open_children outer ++ children_at l.kids

  abbrev pub open_leaves : List (Level K V) → List (LeafAt K V)
  open_leaves [] = []
  open_leaves (l ∷ outer) = open_leaves outer ++ leaves_in l.kids

  abbrev pub open_cells : ℕ → List (Level K V) → List (Name × Cell K V)
  open_cells P [] = []
  open_cells P (l ∷ outer) = open_cells P outer ++ cells_in P l.kids

  abbrev pub opened : List (Level K V) → List Open
  opened [] = []
  opened (l ∷ outer) = opened outer ++ record { child_depth = suc l.depth; first = length (open_children outer) } ∷ []

  -- how many bytes lead to what comes below the last open node: so many at least
  abbrev pub begin : ℕ → List (Level K V) → ℕ
  begin low [] = low
  begin low (l ∷ outer) = max low (suc l.depth)

module _ {K V : Type 0} (bytes : K → List ℕ) where
  -- the node branches on the way to this key, and what it has so far is canonical and stands before that branch
  pub record IsOpen (key : List ℕ) (l : Level K V) : Type 0 where
    pub inside : l.depth < length key
    pub has_kids : 1 ≤ width l.kids
    pub under : AreUnder bytes (take l.depth key) 0 l.kids
    pub below : AreBelow (slice_index key l.depth) l.kids
    pub ascending : IsAscending (children_at l.kids)

  -- so does each of these, each after the one above
  abbrev pub AreOpen : List ℕ → List (Level K V) → Type 0
  AreOpen key [] = Unit {0}
  AreOpen key (l ∷ outer) = IsOpen key l × (begin 0 outer ≤ l.depth) × AreOpen key outer

  module _ (P : ℕ) (arena : Arena K V) (spine : Spine) (rest : List (Name × Cell K V)) where
    -- The arena holds the children of the open nodes and this part, which stands below the last of them on the way to
    -- the last key, after so many bytes at least, beside them the rest, and nothing else; and these are the leaves.
    pub record IsSpine (low : ℕ) (root : Name) (key : List ℕ) (ls : List (LeafAt K V)) : Type 0 where
      pub levels : List (Level K V)
      pub part : Shape K V
      pub stack_is : spine.stack.items ≡ opened levels
      pub children_are : spine.children.items ≡ open_children levels
      pub named : name_of part ≡ root
      pub holds : Holds (node_at arena) (open_cells P levels ++ (cells P part ++ rest))
      pub ways : AreOpen key levels
      pub under : IsUnder bytes (take (begin low levels) key) part
      pub leaves_are : open_leaves levels ++ leaves part ≡ ls

    -- and the last key is that of this leaf
    pub record HasSpine (last low : ℕ) (root : Name) (key : List ℕ) (ls : List (LeafAt K V)) : Type 0 where
      pub leaf : LeafNode K V
      pub there : HasLeaf arena last leaf
      pub key_is : bytes leaf.key ≡ key
      pub stands : IsSpine low root key ls
