-- Which pairs a walk meets.
use Rattle.std.specs.Prelude.{◌≡◌, ◌==◌, ℕ, zero, suc, Bool, true, false, if◌then◌else◌}
use Rattle.std.specs.Prelude.{List, [], ◌∷◌}
use Rattle.std.specs.List.{starts_with}
use Rattle.std.specs.declared.ops.Bound.{Bound}
use Rattle.std.specs.declared.ops.Bound.TheVariants.{Included, Excluded, Unbounded}
use Rattle.art_arena.specs.arena.Shapes.{key_of}
use Rattle.art_arena.specs.declared.ends.End.{End}
use Rattle.art_arena.specs.declared.ends.End.TheVariants.{First, Last}
use Rattle.art_arena.specs.tree.Tenants.{with_front}
use Rattle.art_map.specs.Asked.{from_end}
use Rattle.art_map.specs.Ranges.{pairs_between}
use Rattle.art_walks.specs.Bounds.{AreValidKeyBounds}
use Rattle.art_c.specs.Calls.{whole}
use Rattle.art_c.specs.Handles.{Pairs}
use Rattle.art_c.specs.declared.calls.walks.Span.{Span}

-- which pairs a walk meets, as `artmap_span` has it: the end that it comes from, where it begins, and where it ends
pub record Reach : Type 0 where
  pub end : End
  pub from : ℕ
  pub from_key : List ℕ
  pub to : ℕ
  pub to_key : List ℕ

-- the end of the map from which a walk comes
abbrev pub walk_end : Bool → End
walk_end true = Last
walk_end false = First

abbrev pub reach : Bool → ℕ → List ℕ → ℕ → List ℕ → Reach
reach back from from_key to to_key =
    record { end = walk_end back; from = from; from_key = from_key; to = to; to_key = to_key }

abbrev pub reach_of : Span → Reach
reach_of span =
    record { end = span.end; from = span.from; from_key = span.from_key.now; to = span.to; to_key = span.to_key.now }

-- where a walk begins, by its number: at an end of the map, at a key, or after it
abbrev pub bound_of : ℕ → List ℕ → Bound (List ℕ)
bound_of zero key = Unbounded
bound_of (suc zero) key = Included key
bound_of (suc (suc n)) key = Excluded key

-- where it ends: at the other end, with a key, or before it; with a prefix at none of these
abbrev pub stop_of : ℕ → List ℕ → Bound (List ℕ)
stop_of zero key = Unbounded
stop_of (suc zero) key = Included key
stop_of (suc (suc zero)) key = Excluded key
stop_of (suc (suc (suc n))) key = Unbounded

-- the lesser of these two, and the greater
abbrev pub lower : End → Reach → Bound (List ℕ)
lower First r = bound_of r.from r.from_key
lower Last r = stop_of r.to r.to_key

abbrev pub upper : End → Reach → Bound (List ℕ)
upper First r = stop_of r.to r.to_key
upper Last r = bound_of r.from r.from_key

-- the test that it begins at an end, of the keys with a prefix alone
abbrev pub is_block : ℕ → ℕ → Bool
is_block zero (suc (suc (suc n))) = true
is_block from to = false

-- the test that it goes on to a key
abbrev pub goes_on : ℕ → List ℕ → List ℕ → Bool
goes_on zero prefix key = true
goes_on (suc zero) prefix key = true
goes_on (suc (suc zero)) prefix key = true
goes_on (suc (suc (suc n))) prefix key = starts_with ◌==◌ key prefix

-- the items up to the first that a test fails
abbrev pub while_so : {X : Type 0} → (X → Bool) → List X → List X
while_so f [] = []
while_so f (x ∷ xs) = if f x then x ∷ while_so f xs else []

-- its bounds are in order
abbrev pub IsForward : Reach → Type 0
IsForward r = AreValidKeyBounds (lower r.end r) (upper r.end r)

module _ {V : Type 0} (r : Reach) where
  -- the test that it goes on to a pair
  abbrev pub goes_to : List ℕ × V → Bool
  goes_to p = goes_on r.to r.to_key p.0

  -- the pairs between both bounds, or those with the prefix
  abbrev pub reached_in : Pairs V → Pairs V
  reached_in pairs =
      if is_block r.from r.to then with_front (key_of whole) r.to_key pairs
      else pairs_between whole (lower r.end r) (upper r.end r) pairs

  -- some of these in the order in which they are met, while it goes on
  abbrev pub met_of : Pairs V → Pairs V
  met_of pairs = while_so goes_to (from_end r.end pairs)

  -- these are the pairs that it meets, in order; where it ends before it begins there are none
  abbrev pub AreReached : Pairs V → Pairs V → Type 0
  AreReached pairs met = (IsForward r → met ≡ met_of (reached_in pairs)) × ((IsForward r → ⊥) → met ≡ [])
