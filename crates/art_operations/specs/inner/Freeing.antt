-- How the nodes of a shape are freed, one at a time.
use Rattle.std.specs.Prelude.{◌≡◌, ℕ, suc, ◌≤◌, Bool, List, [], ◌∷◌, ◌++◌, length, take, Option, Some, None, MatchBool}
use Rattle.art_nodes.specs.Name.{Name}
use Rattle.art_arena.specs.arena.Arena.{Arena, held_at, node_at, SameNodes}
use Rattle.art_arena.specs.arena.Cells.{Cell, leaf_name, copies, UpdatesAt, Holds}
use Rattle.art_arena.specs.arena.Context.{Frame, plug}
use Rattle.art_arena.specs.arena.Shapes.{Shape, leaf_at, inner_at, no_branch, branch, name_of, cells}
use Rattle.art_arena.specs.arena.Steps.{Step, steps_to}
use Rattle.art_operations.specs.Frees.{cells_with}
use Rattle.art_operations.specs.declared.deallocate.Bottom.{Bottom}
use Rattle.art_operations.specs.declared.deallocate.Left.{Left}

-- the last step to a place
abbrev pub step_in : Option (Name × ℕ) → List Step
step_in None = []
step_in (Some place) = record { node = place.0; byte = place.1 } ∷ []

-- one of the children with its byte, or none where there is none
abbrev pub IsChildIn : List (ℕ × Name) → Option (ℕ × Name) → Type 0
IsChildIn children None = children ≡ []
IsChildIn children (Some child) =
    (before : List (ℕ × Name)) × (after : List (ℕ × Name)) × (children ≡ before ++ child ∷ after)

module _ {K V : Type 0} where
  -- nothing stands below its root
  abbrev pub IsChildless : Shape K V → Type 0
  IsChildless (leaf_at slot k v) = Unit {0}
  IsChildless (inner_at n prefix no_branch) = Unit {0}
  IsChildless (inner_at n prefix (branch byte s rest)) = ⊥

  -- each frame's place is the first among the children
  abbrev pub AreFirst : List (Frame K V) → Type 0
  AreFirst [] = Unit {0}
  AreFirst (f ∷ outer) = (f.before ≡ no_branch) × AreFirst outer

  -- the first node of the shape that has no child, and where it stands
  pub record IsBottom (s : Shape K V) (bottom : Bottom) : Type 0 where
    pub ctx : List (Frame K V)
    pub end : Shape K V
    pub whole : s ≡ plug ctx end
    pub first : AreFirst ctx
    pub childless : IsChildless end
    pub named : name_of end ≡ bottom.node
    pub place : take 1 (steps_to ctx) ≡ step_in bottom.place

module _ {K V : Type 0} (leaves : Bool) (old new : Arena K V) where
  -- the root alone is freed, a leaf only where leaves are
  abbrev pub FreesRoot : Shape K V → Type 0
  FreesRoot (leaf_at slot k v) =
      MatchBool leaves (UpdatesAt (held_at old) (held_at new) (leaf_name slot) None) (SameNodes old new)
  FreesRoot (inner_at n prefix kids) = UpdatesAt (held_at old) (held_at new) n None

module _ {K V : Type 0} (P : ℕ) (leaves : Bool) (arena : Arena K V) where
  -- the name is the root of this shape, of whose nodes the arena holds the inner ones, and the leaves where these are
  -- freed too, these cells beside them, and nothing else
  pub record HoldsPart (root : Name) (s : Shape K V) (rest : List (Name × Cell K V)) : Type 0 where
    pub named : name_of s ≡ root
    pub holds : Holds (node_at arena) (cells_with P leaves s ++ rest)

  -- so does it of two shapes
  pub record HoldsBoth (one : Name) (s : Shape K V) (other : Name) (t : Shape K V) (rest : List (Name × Cell K V))
      : Type 0 where
    pub named : name_of s ≡ one
    pub named_other : name_of t ≡ other
    pub holds : Holds (node_at arena) (cells_with P leaves s ++ (cells_with P leaves t ++ rest))

  -- so does it of a shape under this name that has one node less than so many, and no name but of these cells
  pub record HoldsOneLess (root : Name) (size : ℕ) (was rest : List (Name × Cell K V)) : Type 0 where
    pub left : Shape K V
    pub part : HoldsPart root left rest
    pub less : size ≡ suc (length (cells P left))
    pub names : (n : Name) → copies n (cells_with P leaves left) ≤ copies n was

  -- what is left of the shape when one of its nodes is freed, if it wasn't the only one
  abbrev pub HasFreedOne : Option Left → Shape K V → List (Name × Cell K V) → Type 0
  HasFreedOne None s rest = (length (cells P s) ≡ 1) × Holds (node_at arena) rest
  HasFreedOne (Some left) s rest = HoldsOneLess left.root (length (cells P s)) (cells_with P leaves s) rest
