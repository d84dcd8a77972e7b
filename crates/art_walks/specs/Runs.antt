-- A run of neighbours among linked leaves.
use Rattle.std.specs.Prelude.{◌≡◌, ℕ, List, [], ◌++◌, Option, Some, None}
use Rattle.art_arena.specs.arena.Shapes.{LeafAt}
use Rattle.art_arena.specs.arena.Linked.{Links, first_slot, last_slot, IsList}

-- the slab keys of the first and of the last leaf of a run, or nothing where it is empty
abbrev pub Ends : Type 0
Ends = Option (ℕ × ℕ)

module _ {K V : Type 0} where
  -- these leaves begin and end so
  abbrev pub HasEnds : List (LeafAt K V) → Ends → Type 0
  HasEnds ys None = ys ≡ []
  HasEnds ys (Some ends) = (first_slot ys None ≡ Some ends.0) × (last_slot None ys ≡ Some ends.1)

  -- the walk between these ends is `ys`, which are neighbours in a linked list of leaves
  pub record IsWalk (links : ℕ → Option Links) (ends : Ends) (ys : List (LeafAt K V)) : Type 0 where
    pub xs : List (LeafAt K V)
    pub zs : List (LeafAt K V)
    pub list : IsList links (xs ++ (ys ++ zs))
    pub ends_are : HasEnds ys ends
