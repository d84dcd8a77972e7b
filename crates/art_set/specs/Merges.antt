-- Two ascending lists of keys: what they have in common, what one has alone, and what they have together.
use Rattle.std.specs.Prelude.{◌≡◌, ℕ, ◌+◌, ◌-◌, ◌^◌, ◌≤◌, min, Bool, not, if◌then◌else◌, List, [], ◌∷◌, filter, length}
use Rattle.std.specs.Prelude.{Option, IfNone}
use Rattle.std.specs.Borrow.{Bor}
use Rattle.std.specs.Map.Iter.{TakesFirst, deref}
use Rattle.std.specs.List.{AllByRecursion, list_all, list_any}
use Rattle.std.specs.declared.cmp.Ordering.TheVariants.{Less}
use Rattle.art_bytes.specs.Keys.{bytes_cmp, is_below}
use Rattle.art_set.specs.Members.{is_member}

module _ {K : Type 0} (bytes : K → List ℕ) where
  -- the keys of the first list that the second has, and those that it lacks
  abbrev pub intersection_of : List K → List K → List K
  intersection_of xs ys = filter (λ x. is_member bytes (bytes x) ys) xs

  abbrev pub difference_of : List K → List K → List K
  difference_of xs ys = filter (λ x. not (is_member bytes (bytes x) ys)) xs

  -- the list with x in front of the first key whose bytes are above its bytes
  abbrev pub put_below : K → List K → List K
  put_below x [] = x ∷ []
  put_below x (y ∷ ys) = if is_below (bytes x) (bytes y) then x ∷ y ∷ ys else y ∷ put_below x ys

  -- the second list with each key of the first put in so
  abbrev pub put_among : List K → List K → List K
  put_among [] ys = ys
  put_among (x ∷ xs) ys = put_below x (put_among xs ys)

  -- the keys of either list, and of those that both have the first list's; and the keys that one of them lacks
  abbrev pub union_of : List K → List K → List K
  union_of xs ys = put_among (difference_of ys xs) xs

  abbrev pub symmetric_difference_of : List K → List K → List K
  symmetric_difference_of xs ys = put_among (difference_of ys xs) (difference_of xs ys)

  -- whether the second list lacks every key of the first, and whether it has every one
  abbrev pub are_disjoint : List K → List K → Bool
  are_disjoint xs ys = list_all (λ x. not (is_member bytes (bytes x) ys)) xs

  abbrev pub is_subset_of : List K → List K → Bool
  is_subset_of xs ys = list_all (λ x. is_member bytes (bytes x) ys) xs

  -- whether a key of the list is not below this one
  abbrev pub has_not_below : K → List K → Bool
  has_not_below x ys = list_any (λ y. not (is_below (bytes y) (bytes x))) ys

  -- How many comparisons a merge of two ascending lists needs: one for each step in which both have a key left. These
  -- are the steps at the keys, one that both have taken once, that don't lie after all of the other list.
  abbrev pub comparisons_of : List K → List K → ℕ
  comparisons_of xs ys = length (filter (λ x. has_not_below x ys) xs)
      + length (filter (λ y. has_not_below y xs) (difference_of ys xs))

  -- the bytes of each key are below those of all later ones
  abbrev pub AscendsInBytes : List K → Type 0
  AscendsInBytes [] = Unit {0}
  AscendsInBytes (x ∷ xs) = AllByRecursion (λ y. bytes_cmp (bytes x) (bytes y) ≡ Less) xs × AscendsInBytes xs

-- what is left of a merge: the keys that are still to come, how many comparisons were made, how many it needs to its
-- end, and how many keys of both sets it has not gone past
pub record Merge (K : Type 0) : Type 0 where
  pub rest : List K
  pub comparisons : ℕ
  pub to_compare : ℕ
  pub unmet : ℕ

-- A call gave the first key that was still to come, or none. It made the comparisons that it went past, each once, and
-- counted each, until the greatest count; at most as many as it went past keys. Where it gave none, none is left to be
-- made.
pub record GivesNext {K : Type 0} (s : Merge K) (r : Option (Bor K)) (t : Merge K) : Type 0 where
  pub first : TakesFirst deref s.rest r t.rest
  pub fewer : t.to_compare ≤ s.to_compare
  pub counted : min (s.comparisons + (s.to_compare - t.to_compare)) (2 ^ 64 - 1) ≤ t.comparisons
  pub most : t.comparisons ≤ s.comparisons + (s.to_compare - t.to_compare)
  pub bound : t.comparisons + t.unmet ≤ s.comparisons + s.unmet
  pub ended : IfNone r (t.to_compare ≡ 0)
