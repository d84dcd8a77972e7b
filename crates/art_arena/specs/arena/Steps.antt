-- The way down to a place in a tree, as the steps that lead there.
use Rattle.std.specs.Prelude.{◌≢◌, ℕ, List, [], ◌∷◌, Option, Some, None}
use Rattle.art_nodes.specs.declared.kind.NodeType.TheVariants.{Leaf}
use Rattle.art_nodes.specs.Name.{Name}
use Rattle.art_nodes.specs.Concrete.{inner_name_of}
use Rattle.art_arena.specs.arena.Context.{Frame}
use Rattle.art_arena.specs.declared.path.TreePath.{TreePath}
use Rattle.art_arena.specs.declared.path.TreePath.TheVariants.{Root, ChildOfRoot, Normal}

-- from this inner node to its child under this byte
pub record Step : Type 0 where
  pub node : Name
  pub byte : ℕ

-- the steps from the root to the place, the last one first
abbrev pub steps_to : {K V : Type 0} → List (Frame K V) → List Step
steps_to [] = []
steps_to (f ∷ outer) = record { node = f.name; byte = f.byte } ∷ steps_to outer

-- the steps that a path has: of a way down it keeps the last two, the last one first
abbrev pub steps_of : TreePath → List Step
steps_of Root = []
steps_of (ChildOfRoot parent byte) = record { node = inner_name_of parent; byte = byte } ∷ []
steps_of (Normal grandparent parent_byte parent byte) =
    record { node = inner_name_of parent; byte = byte } ∷ record
    { node = inner_name_of grandparent; byte = parent_byte } ∷ []

-- the last two steps of a search, where it made so many
abbrev pub last_steps : Option (Name × ℕ) → Option (Name × ℕ) → List Step
last_steps None before = []
last_steps (Some last) None = record { node = last.0; byte = last.1 } ∷ []
last_steps (Some last) (Some before) =
    record { node = last.0; byte = last.1 } ∷ record { node = before.0; byte = before.1 } ∷ []

-- a step, if there is one, leaves an inner node
abbrev pub IsStep : Option (Name × ℕ) → Type 0
IsStep None = Unit {0}
IsStep (Some step) = step.0.kind ≢ Leaf
