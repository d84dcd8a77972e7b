-- What an edit of a part of a tree needs of what stands around it.
use Rattle.std.specs.Prelude.{◌≡◌, ℕ, List, [], ◌∷◌, ◌++◌, take, MatchOption, Option, None}
use Rattle.art_nodes.specs.Name.{Name}
use Rattle.art_arena.specs.arena.Arena.{Arena, Held, leaf_held, Allocates}
use Rattle.art_arena.specs.arena.Cells.{Cell, Holds}
use Rattle.art_arena.specs.arena.Context.{Frame, root_of, cells_before, AreAround}
use Rattle.art_arena.specs.arena.Steps.{Step, steps_to}

-- the map holds what stands around the place, which has this name and these last steps, and these cells beside
pub record StandsAround {K V : Type 0} (bytes : K → List ℕ) (P : ℕ) (at : Name → Option (Cell K V)) (root : Name)
    (ctx : List (Frame K V)) (n : Name) (rest : List (Name × Cell K V)) (last : List Step) : Type 0 where
  pub around : AreAround bytes ctx
  pub holds : Holds at (cells_before P ctx n ++ rest)
  pub steps : take 2 (steps_to ctx) ≡ last
  pub named : root_of ctx n ≡ root

-- these steps end with this one, which is told first, or there are none
abbrev pub IsLastOf : List Step → Option (Name × ℕ) → Type 0
IsLastOf steps last = MatchOption last (steps ≡ [])
    (λ step. (more : List Step) × (steps ≡ record { node = step.0; byte = step.1 } ∷ more))

module _ {K V : Type 0} where
  -- a leaf of a key and a value with no links
  abbrev pub lone_leaf : K → V → Held K V
  lone_leaf key value = leaf_held (record { key = key; value = value; previous = None; next = None })

  -- two nodes stand now under names which were vacant, and all others as they did
  pub record AllocatesBoth (old new : Arena K V) (n : Name) (x : Held K V) (m : Name) (y : Held K V) : Type 0 where
    pub between : Arena K V
    pub first : Allocates old between n x
    pub second : Allocates between new m y
