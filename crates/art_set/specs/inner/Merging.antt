-- Two lists of keys that are walked side by side.
use Rattle.std.specs.Prelude.{◌≡◌, ℕ, ◌+◌, ◌-◌, ◌^◌, ◌≤◌, min, Bool, false, not}
use Rattle.std.specs.Prelude.{if◌then◌else◌, List, ◌∷◌, filter, length}
use Rattle.art_set.specs.Members.{is_member}
use Rattle.art_set.specs.Merges.{Merge, comparisons_of, put_among}
use Rattle.art_set.specs.declared.merges.sides.Met.{Met}
use Rattle.art_set.specs.declared.merges.sides.Met.TheVariants.{First, Both, Second}
use Rattle.art_set.specs.declared.merges.sides.Wanted.{Wanted}

-- the keys of both that are still to come, and how many comparisons were made
pub record Beside (K : Type 0) : Type 0 where
  pub first : List K
  pub second : List K
  pub comparisons : ℕ

-- how many keys are still to come
abbrev pub keys_left : {K : Type 0} → Beside K → ℕ
keys_left s = length s.first + length s.second

-- how many comparisons are still to be made
abbrev pub steps_left : {K : Type 0} → (K → List ℕ) → Beside K → ℕ
steps_left bytes s = comparisons_of bytes s.first s.second

-- what is left of a merge that gives these keys of both
abbrev pub merge_of : {K : Type 0} → (K → List ℕ) → (List K → List K → List K) → Beside K → Merge K
merge_of bytes of s = record {
  rest = of s.first s.second;
  comparisons = s.comparisons;
  to_compare = steps_left bytes s;
  unmet = keys_left s;
}

-- between these, the comparisons were made and counted that are no longer to be made, until the greatest count; for a
-- key that was met one at most
pub record IsCompared {K : Type 0} (bytes : K → List ℕ) (s t : Beside K) : Type 0 where
  pub fewer : steps_left bytes t ≤ steps_left bytes s
  pub counted : min (s.comparisons + (steps_left bytes s - steps_left bytes t)) (2 ^ 64 - 1) ≤ t.comparisons
  pub most : t.comparisons ≤ s.comparisons + (steps_left bytes s - steps_left bytes t)
  pub bound : t.comparisons + keys_left t ≤ s.comparisons + keys_left s

module _ {K : Type 0} where
  -- whether this key is wanted, and the key
  abbrev pub is_wanted : Wanted → Met K → Bool
  is_wanted wanted (First x) = wanted.first
  is_wanted wanted (Both x) = wanted.both
  is_wanted wanted (Second y) = wanted.second

  abbrev pub met_key : Met K → K
  met_key (First x) = x.now
  met_key (Both x) = x.now
  met_key (Second y) = y.now

module _ {K : Type 0} (bytes : K → List ℕ) where
  -- the keys that are wanted of two lists, by which of them have each
  module _ (first both second : Bool) where
    abbrev pub of_first : List K → List K → List K
    of_first xs ys = filter (λ x. if is_member bytes (bytes x) ys then both else first) xs

    abbrev pub of_second : List K → List K → List K
    of_second xs ys = filter (λ y. if second then not (is_member bytes (bytes y) xs) else false) ys

    abbrev pub merged : List K → List K → List K
    merged xs ys = put_among bytes (of_second xs ys) (of_first xs ys)

  -- those still to come
  abbrev pub merging : Wanted → Beside K → List K
  merging wanted s = merged wanted.first wanted.both wanted.second s.first s.second

  -- this key came next
  abbrev pub IsMet : Wanted → Beside K → Met K → Beside K → Type 0
  IsMet wanted s met t =
      merging wanted s ≡ (if is_wanted wanted met then met_key met ∷ merging wanted t else merging wanted t)
