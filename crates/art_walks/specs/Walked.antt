-- The pairs along linked leaves.
use Rattle.std.specs.Prelude.{◌≡◌, ◌≤◌, ◌==◌, ℕ, zero, suc, List, [], ◌∷◌, length, Option, Some, None, option_map}
use Rattle.std.specs.Prelude.{if◌then◌else◌}
use Rattle.std.specs.List.{AllByRecursion}
use Rattle.art_arena.specs.arena.Arena.{Arena, Held, leaf_held, inner_held, held_at, node_at, links_at, slots_of}
use Rattle.art_arena.specs.arena.Cells.{pair, leaf_name}
use Rattle.art_arena.specs.arena.Linked.{AreLinked, Links, times}
use Rattle.art_arena.specs.arena.Shapes.{LeafAt}
use Rattle.art_walks.specs.Runs.{Ends, HasEnds, IsWalk}

-- the slab key of the first leaf of a run, if it has one
abbrev pub start_of : Ends → Option ℕ
start_of None = None
start_of (Some ends) = Some ends.0

-- what is left of a run after its first leaf, which has these links, up to its last
abbrev pub ends_after : Option Links → ℕ → Ends
ends_after None last = None
ends_after (Some links) last = option_map (λ next. (next, last)) links.next

module _ {K V : Type 0} where
  -- the pair of a leaf, and then those from the next one on
  abbrev pub pairs_with : (Option ℕ → List (K × V)) → Option (Held K V) → List (K × V)
  pairs_with later None = []
  pairs_with later (Some (leaf_held leaf)) = (leaf.key, leaf.value) ∷ later leaf.next
  pairs_with later (Some (inner_held node)) = []

  -- so many pairs along the links, from the leaf with this slab key on
  abbrev pub pairs_along : ℕ → Arena K V → Option ℕ → List (K × V)
  pairs_along zero arena slot = []
  pairs_along (suc n) arena None = []
  pairs_along (suc n) arena (Some slot) = pairs_with (pairs_along n arena) (held_at arena (leaf_name slot))

  -- these leaves stand in the arena
  abbrev pub AreStored : Arena K V → List (LeafAt K V) → Type 0
  AreStored arena ls = AllByRecursion (λ l. node_at arena (leaf_name l.slot) ≡ Some (pair l.key l.value)) ls

  -- the walk between these ends has so many leaves, which stand in the arena
  pub record IsCounted (arena : Arena K V) (ends : Ends) (len : ℕ) : Type 0 where
    pub leaves : List (LeafAt K V)
    pub walk : IsWalk (links_at arena) ends leaves
    pub stored : AreStored arena leaves
    pub len_is : len ≡ length leaves

  -- So many leaves stand in the arena, each linked to the next, between these ends. What stood beside them may be gone.
  pub record IsRest (arena : Arena K V) (ends : Ends) (len : ℕ) : Type 0 where
    pub leaves : List (LeafAt K V)
    pub before : Option ℕ
    pub after : Option ℕ
    pub linked : AreLinked (links_at arena) before leaves after
    pub once : (n : ℕ) → times n leaves ≤ 1
    pub ends_are : HasEnds leaves ends
    pub stored : AreStored arena leaves
    pub len_is : len ≡ length leaves

  -- how many leaves a run has, as far as this many show it
  abbrev pub run_length : ℕ → Arena K V → Ends → ℕ
  run_length zero arena ends = 0
  run_length (suc n) arena None = 0
  run_length (suc n) arena (Some ends) =
      suc (if ends.0 == ends.1 then 0 else run_length n arena (ends_after (links_at arena ends.0) ends.1))

  -- the leaves that are still to come between these ends
  abbrev pub leaves_left : Arena K V → Ends → ℕ
  leaves_left arena ends = run_length (slots_of arena) arena ends

  -- their pairs
  abbrev pub pairs_left : Arena K V → Ends → List (K × V)
  pairs_left arena ends = pairs_along (leaves_left arena ends) arena (start_of ends)
