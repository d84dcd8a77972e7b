-- The statements that the functions of `laws` ensure.
use Rattle.std.specs.Prelude.{◌≡◌, ◌⊎◌, ◌↔◌, ℕ, suc, ◌+◌, ◌&&◌, ◌||◌, not, Bool, true, false, if◌then◌else◌}
use Rattle.std.specs.Prelude.{List, filter, find, length, Some, bytes_eq}
use Rattle.std.specs.List.{AllZip}
use Rattle.art_bytes.specs.Keys.{IsBefore}
use Rattle.art_arena.specs.tree.Changes.{IsIn}
use Rattle.art_arena.specs.tree.Order.{AscendsByKey}
use Rattle.art_arena.specs.tree.Tenants.{begins_with, without_front}
use Rattle.art_map.specs.Contents.{first_item, has_bytes, last_item}
use Rattle.art_map.specs.PairLaws.{StandsLast, keys_added}
use Rattle.art_operations.specs.KeyedLists.{HasKey, without_key}
use Rattle.art_set.specs.Members.{is_member, with_key_put, with_keys_put}
use Rattle.art_set.specs.Merges.{difference_of, intersection_of, symmetric_difference_of, union_of}

module _ (K : Type 0) where
  abbrev pub MembersAfterInsertion : Type 0
  MembersAfterInsertion = (bytes : K → List ℕ) (query : List ℕ) (k : K) (keys : List K)
      → is_member bytes query (with_key_put bytes k keys) ≡ (bytes_eq (bytes k) query || is_member bytes query keys)

  abbrev pub MembersAfterRemoval : Type 0
  MembersAfterRemoval = (bytes : K → List ℕ) (query key : List ℕ) (keys : List K)
      → is_member bytes query (without_key bytes key keys)
      ≡ (not (bytes_eq key query) && is_member bytes query keys)

  abbrev pub MembersAfterPrefixRemoval : Type 0
  MembersAfterPrefixRemoval = (bytes : K → List ℕ) (query front : List ℕ) (keys : List K)
      → is_member bytes query (without_front bytes front keys)
      ≡ (not (begins_with front query) && is_member bytes query keys)

  abbrev pub MembersAfterInsertions : Type 0
  MembersAfterInsertions = (bytes : K → List ℕ) (query : List ℕ) (new keys : List K)
      → is_member bytes query (with_keys_put bytes new keys)
      ≡ (is_member bytes query new || is_member bytes query keys)

  abbrev pub MembersAmongRetained : Type 0
  MembersAmongRetained = (bytes : K → List ℕ) (query : List ℕ) (keep : List ℕ → Bool) (keys : List K)
      → is_member bytes query (filter (λ k. keep (bytes k)) keys) ≡ (keep query && is_member bytes query keys)

  abbrev pub MembersOfIntersection : Type 0
  MembersOfIntersection = (bytes : K → List ℕ) (query : List ℕ) (xs ys : List K)
      → is_member bytes query (intersection_of bytes xs ys) ≡ (is_member bytes query xs && is_member bytes query ys)

  abbrev pub MembersOfDifference : Type 0
  MembersOfDifference = (bytes : K → List ℕ) (query : List ℕ) (xs ys : List K)
      → is_member bytes query (difference_of bytes xs ys)
      ≡ (is_member bytes query xs && not (is_member bytes query ys))

  abbrev pub MembersOfUnion : Type 0
  MembersOfUnion = (bytes : K → List ℕ) (query : List ℕ) (xs ys : List K)
      → is_member bytes query (union_of bytes xs ys) ≡ (is_member bytes query xs || is_member bytes query ys)

  abbrev pub MembersOfSymmetricDifference : Type 0
  MembersOfSymmetricDifference = (bytes : K → List ℕ) (query : List ℕ) (xs ys : List K)
      → is_member bytes query (symmetric_difference_of bytes xs ys)
      ≡ ((is_member bytes query xs && not (is_member bytes query ys))
      || (is_member bytes query ys && not (is_member bytes query xs)))

  abbrev pub ManyKeysAfterInsertion : Type 0
  ManyKeysAfterInsertion = (bytes : K → List ℕ) (k : K) (keys : List K) → AscendsByKey bytes keys
      → length (with_key_put bytes k keys)
      ≡ (if is_member bytes (bytes k) keys then length keys else suc (length keys))

  abbrev pub ManyKeysAfterRemoval : Type 0
  ManyKeysAfterRemoval = (bytes : K → List ℕ) (key : List ℕ) (keys : List K) → AscendsByKey bytes keys
      → length (without_key bytes key keys) + (if is_member bytes key keys then 1 else 0) ≡ length keys

  abbrev pub ManyKeysAfterInsertions : Type 0
  ManyKeysAfterInsertions = (bytes : K → List ℕ) (new keys : List K) → AscendsByKey bytes keys
      → length (with_keys_put bytes new keys) ≡ length keys + keys_added bytes new keys

  abbrev pub ManyKeysAmongRetained : Type 0
  ManyKeysAmongRetained = (test : K → Bool) (keys : List K)
      → length (filter test keys) + length (filter (λ k. not (test k)) keys) ≡ length keys

  abbrev pub ManyKeysOfDifference : Type 0
  ManyKeysOfDifference = (bytes : K → List ℕ) (xs ys : List K)
      → length (intersection_of bytes xs ys) + length (difference_of bytes xs ys) ≡ length xs

  abbrev pub ManyKeysOfIntersection : Type 0
  ManyKeysOfIntersection = (bytes : K → List ℕ) (xs ys : List K) → AscendsByKey bytes xs → AscendsByKey bytes ys
      → length (intersection_of bytes xs ys) ≡ length (intersection_of bytes ys xs)

  abbrev pub ManyKeysOfUnion : Type 0
  ManyKeysOfUnion = (bytes : K → List ℕ) (xs ys : List K)
      → length (union_of bytes xs ys) ≡ length xs + length (difference_of bytes ys xs)

  abbrev pub ManyKeysOfSymmetricDifference : Type 0
  ManyKeysOfSymmetricDifference = (bytes : K → List ℕ) (xs ys : List K)
      → length (symmetric_difference_of bytes xs ys)
      ≡ length (difference_of bytes xs ys) + length (difference_of bytes ys xs)

  abbrev pub IsKeyInAfterInsertion : Type 0
  IsKeyInAfterInsertion = (bytes : K → List ℕ) (q k : K) (keys : List K)
      → IsIn q (with_key_put bytes k keys)
      ↔ ((q ≡ k) ⊎ (IsIn q keys × (bytes_eq (bytes q) (bytes k) ≡ false)))

  abbrev pub IsKeyInAfterRemoval : Type 0
  IsKeyInAfterRemoval = (bytes : K → List ℕ) (q : K) (key : List ℕ) (keys : List K)
      → IsIn q (without_key bytes key keys) ↔ (IsIn q keys × (bytes_eq (bytes q) key ≡ false))

  abbrev pub IsKeyInAfterPrefixRemoval : Type 0
  IsKeyInAfterPrefixRemoval = (bytes : K → List ℕ) (q : K) (front : List ℕ) (keys : List K)
      → IsIn q (without_front bytes front keys) ↔ (IsIn q keys × (begins_with front (bytes q) ≡ false))

  abbrev pub IsKeyInAfterInsertions : Type 0
  IsKeyInAfterInsertions = (bytes : K → List ℕ) (q : K) (new keys : List K)
      → IsIn q (with_keys_put bytes new keys)
      ↔ (StandsLast bytes q new ⊎ (IsIn q keys × (HasKey bytes (bytes q) new → ⊥)))

  abbrev pub IsKeyInAmongRetained : Type 0
  IsKeyInAmongRetained = (test : K → Bool) (q : K) (keys : List K)
      → IsIn q (filter test keys) ↔ (IsIn q keys × (test q ≡ true))

  abbrev pub KeyFoundByBytes : Type 0
  KeyFoundByBytes = (bytes : K → List ℕ) (query : List ℕ) (k : K) (keys : List K) → AscendsByKey bytes keys
      → (find (has_bytes bytes query) keys ≡ Some k) ↔ (IsIn k keys × (bytes_eq (bytes k) query ≡ true))

  abbrev pub FirstKeyIsLeast : Type 0
  FirstKeyIsLeast = (bytes : K → List ℕ) (k q : K) (keys : List K) → AscendsByKey bytes keys
      → first_item keys ≡ Some k → IsIn q keys → (q ≡ k) ⊎ IsBefore (bytes k) (bytes q)

  abbrev pub LastKeyIsGreatest : Type 0
  LastKeyIsGreatest = (bytes : K → List ℕ) (k q : K) (keys : List K) → AscendsByKey bytes keys
      → last_item keys ≡ Some k → IsIn q keys → (q ≡ k) ⊎ IsBefore (bytes q) (bytes k)

  abbrev pub KeysOfClones : (K → K → Type 0) → Type 0
  KeysOfClones is_clone = (keys clones : List K) → ((k c : K) → is_clone k c → c ≡ k)
      → AllZip is_clone keys clones → clones ≡ keys
