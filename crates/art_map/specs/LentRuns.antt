-- A run of leaves whose values are lent for writing: what is still to come of it, and what is left after a step.
use Rattle.std.specs.Prelude.{◌==◌, ℕ, List, Option, Some, None, option_map, if◌then◌else◌}
use Rattle.art_arena.specs.arena.Arena.{links_at}
use Rattle.art_arena.specs.arena.Linked.{Links}
use Rattle.art_arena.specs.declared.ends.End.{End}
use Rattle.art_arena.specs.declared.ends.End.TheVariants.{First, Last}
use Rattle.art_walks.specs.Runs.{Ends}
use Rattle.art_walks.specs.Walked.{IsCounted, ends_after, leaves_left, pairs_left, start_of}
use Rattle.art_map.specs.Contents.{Contents}
use Rattle.art_map.specs.Lends.{with_value_at}

-- the slab key of the last leaf of a run, if it has one
abbrev pub end_of : Ends → Option ℕ
end_of None = None
end_of (Some ends) = Some ends.1

-- that of the leaf at this end
abbrev pub slot_at : End → Ends → Option ℕ
slot_at First = start_of
slot_at Last = end_of

-- what is left of a run before its last leaf, which has these links, from its first
abbrev pub ends_before : Option Links → ℕ → Ends
ends_before None first = None
ends_before (Some links) first = option_map (λ previous. (first, previous)) links.previous

-- what is left of a run without its first leaf, and without its last
abbrev pub after_first : (ℕ → Option Links) → Ends → Ends
after_first links None = None
after_first links (Some ends) = if ends.0 == ends.1 then None else ends_after (links ends.0) ends.1

abbrev pub before_last : (ℕ → Option Links) → Ends → Ends
before_last links None = None
before_last links (Some ends) = if ends.0 == ends.1 then None else ends_before (links ends.1) ends.0

module _ {K V : Type 0} where
  -- the leaves between these ends are a run of the map
  abbrev pub IsRunIn : Contents K V → Ends → Type 0
  IsRunIn m ends = IsCounted m.nodes ends (leaves_left m.nodes ends)

  -- their pairs
  abbrev pub run_pairs : Contents K V → Ends → List (K × V)
  run_pairs m ends = pairs_left m.nodes ends

  -- the map with another value in the leaf, if there is one
  abbrev pub with_lent_value : Contents K V → Option ℕ → V → Contents K V
  with_lent_value m None w = m
  with_lent_value m (Some slot) w = with_value_at m slot w

  -- what is left of a run of the map after a step at its front, and at its back
  abbrev pub left_after : Contents K V → Ends → Ends
  left_after m ends = after_first (links_at m.nodes) ends

  abbrev pub left_before : Contents K V → Ends → Ends
  left_before m ends = before_last (links_at m.nodes) ends

  -- and at this end
  abbrev pub left_at : End → Contents K V → Ends → Ends
  left_at First = left_after
  left_at Last = left_before
