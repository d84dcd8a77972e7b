-- Which leaves a bound or a prefix takes, by the ends of their run.
use Rattle.std.specs.Prelude.{◌≡◌, ℕ, not, Bool, true, false, List, [], Option, Some, None}
use Rattle.std.specs.BTreeMap.Range.{is_from_start, is_past_end}
use Rattle.std.specs.declared.ops.Bound.{Bound}
use Rattle.art_bytes.specs.Keys.{bytes_cmp}
use Rattle.art_arena.specs.arena.Descents.{leaf_where, passing}
use Rattle.art_arena.specs.arena.Linked.{first_slot, last_slot}
use Rattle.art_arena.specs.arena.Shapes.{LeafAt}

module _ {K V : Type 0} (bytes : K → List ℕ) where
  -- the slab key of the first leaf whose key is inside the bound as a start, or of the last inside it as an end
  abbrev pub slot_inside : Bool → Bound (List ℕ) → List (LeafAt K V) → Option ℕ
  slot_inside true bound ls = leaf_where bytes (λ k. is_from_start bytes_cmp bound k) ls
  slot_inside false bound ls = last_slot None (passing bytes (λ k. not (is_past_end bytes_cmp bound k)) ls)

  -- the first and the last of the leaves whose keys pass the test are these, or none passes
  abbrev pub AreEndsWhere : (List ℕ → Bool) → List (LeafAt K V) → Option (ℕ × ℕ) → Type 0
  AreEndsWhere test ls None = passing bytes test ls ≡ []
  AreEndsWhere test ls (Some ends) =
      (first_slot (passing bytes test ls) None ≡ Some ends.0) × (last_slot None (passing bytes test ls) ≡ Some ends.1)
