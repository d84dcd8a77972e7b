-- The statements that the functions of `laws` ensure of how many pairs there are, and of which.
use Rattle.std.specs.List.{list_any}
use Rattle.std.specs.Prelude.{◌≡◌, ◌⊎◌, ◌↔◌, ℕ, suc, ◌+◌, ◌||◌, Bool, true, false, not, if◌then◌else◌}
use Rattle.std.specs.Prelude.{List, [], ◌∷◌, filter, length, Some, bytes_eq}
use Rattle.std.specs.Map.{lookup_entry, set_value}
use Rattle.art_bytes.specs.Keys.{IsBefore}
use Rattle.art_arena.specs.arena.Shapes.{key_of}
use Rattle.art_arena.specs.tree.Changes.{IsIn}
use Rattle.art_arena.specs.tree.Order.{AscendsByKey}
use Rattle.art_arena.specs.tree.Tenants.{begins_with, without_front}
use Rattle.art_map.specs.Asked.{with_pairs_put}
use Rattle.art_map.specs.Contents.{first_item, found_pair, has_bytes, is_front, last_item}
use Rattle.art_operations.specs.KeyedLists.{HasKey, overlapping, overlaps, without_key}
use Rattle.art_operations.specs.Pairs.{with_pair_over, with_pair_put}

module _ {X : Type 0} (key : X → List ℕ) where
  -- the test that an item of the list has the key
  abbrev pub has_key : List ℕ → List X → Bool
  has_key k xs = list_any (λ x. bytes_eq (key x) k) xs

  -- how many keys of the first list the second lacks, each counted once
  abbrev pub keys_added : List X → List X → ℕ
  keys_added [] xs = 0
  keys_added (y ∷ ys) xs = (if has_key (key y) ys || has_key (key y) xs then 0 else 1) + keys_added ys xs

  -- the item stands in the list, and none after it has its key
  abbrev pub StandsLast : X → List X → Type 0
  StandsLast x [] = ⊥
  StandsLast x (y ∷ ys) = StandsLast x ys ⊎ ((y ≡ x) × (HasKey key (key x) ys → ⊥))

-- a pair of the list with another key; or one with this key and this value, whose key had some value in the list
abbrev pub IsWrittenPair : {K V : Type 0} → (K → List ℕ) → List ℕ → V → K × V → List (K × V) → Type 0
IsWrittenPair {K} {V} bytes key w q pairs =
    ((bytes_eq (bytes q.0) key ≡ false) × IsIn q pairs)
    ⊎ ((bytes_eq (bytes q.0) key ≡ true) × (q.1 ≡ w) × (v : V) × IsIn (q.0, v) pairs)

module _ (K V : Type 0) where
  abbrev pub LenAfterPrefixInsertion : Type 0
  LenAfterPrefixInsertion = (bytes : K → List ℕ) (k : K) (v : V) (pairs : List (K × V))
      → length (with_pair_over bytes k v pairs) + length (overlapping (key_of bytes) (bytes k) pairs)
      ≡ suc (length pairs)

  abbrev pub LenAfterInsertions : Type 0
  LenAfterInsertions = (bytes : K → List ℕ) (new pairs : List (K × V)) → AscendsByKey (key_of bytes) pairs
      → length (with_pairs_put bytes new pairs) ≡ length pairs + keys_added (key_of bytes) new pairs

  abbrev pub LenAmongRetained : Type 0
  LenAmongRetained = (test : K × V → Bool) (pairs : List (K × V))
      → length (filter test pairs) + length (filter (λ p. not (test p)) pairs) ≡ length pairs

  abbrev pub IsInAfterInsertion : Type 0
  IsInAfterInsertion = (bytes : K → List ℕ) (q : K × V) (k : K) (v : V) (pairs : List (K × V))
      → IsIn q (with_pair_put bytes k v pairs)
      ↔ ((q ≡ (k, v)) ⊎ (IsIn q pairs × (bytes_eq (bytes q.0) (bytes k) ≡ false)))

  abbrev pub IsInAfterRemoval : Type 0
  IsInAfterRemoval = (bytes : K → List ℕ) (q : K × V) (key : List ℕ) (pairs : List (K × V))
      → IsIn q (without_key (key_of bytes) key pairs) ↔ (IsIn q pairs × (bytes_eq (bytes q.0) key ≡ false))

  abbrev pub IsInAfterPrefixInsertion : Type 0
  IsInAfterPrefixInsertion = (bytes : K → List ℕ) (q : K × V) (k : K) (v : V) (pairs : List (K × V))
      → IsIn q (with_pair_over bytes k v pairs)
      ↔ ((q ≡ (k, v)) ⊎ (IsIn q pairs × (overlaps (bytes k) (bytes q.0) ≡ false)))

  abbrev pub IsInAfterPrefixRemoval : Type 0
  IsInAfterPrefixRemoval = (bytes : K → List ℕ) (q : K × V) (front : List ℕ) (pairs : List (K × V))
      → IsIn q (without_front (key_of bytes) front pairs) ↔ (IsIn q pairs × (begins_with front (bytes q.0) ≡ false))

  abbrev pub IsInAfterWrite : Type 0
  IsInAfterWrite = (bytes : K → List ℕ) (q : K × V) (key : List ℕ) (w : V) (pairs : List (K × V))
      → AscendsByKey (key_of bytes) pairs
      → IsIn q (set_value (has_bytes bytes key) pairs w) ↔ IsWrittenPair bytes key w q pairs

  abbrev pub IsInAfterInsertions : Type 0
  IsInAfterInsertions = (bytes : K → List ℕ) (q : K × V) (new pairs : List (K × V))
      → IsIn q (with_pairs_put bytes new pairs)
      ↔ (StandsLast (key_of bytes) q new ⊎ (IsIn q pairs × (HasKey (key_of bytes) (bytes q.0) new → ⊥)))

  abbrev pub IsInAmongRetained : Type 0
  IsInAmongRetained = (test : K × V → Bool) (q : K × V) (pairs : List (K × V))
      → IsIn q (filter test pairs) ↔ (IsIn q pairs × (test q ≡ true))

  abbrev pub FirstIsLeast : Type 0
  FirstIsLeast = (bytes : K → List ℕ) (p q : K × V) (pairs : List (K × V)) → AscendsByKey (key_of bytes) pairs
      → first_item pairs ≡ Some p → IsIn q pairs → (q ≡ p) ⊎ IsBefore (bytes p.0) (bytes q.0)

  abbrev pub LastIsGreatest : Type 0
  LastIsGreatest = (bytes : K → List ℕ) (p q : K × V) (pairs : List (K × V)) → AscendsByKey (key_of bytes) pairs
      → last_item pairs ≡ Some p → IsIn q pairs → (q ≡ p) ⊎ IsBefore (bytes q.0) (bytes p.0)

  abbrev pub FoundByKey : Type 0
  FoundByKey = (bytes : K → List ℕ) (query : List ℕ) (p : K × V) (pairs : List (K × V))
      → AscendsByKey (key_of bytes) pairs
      → (found_pair bytes query pairs ≡ Some p) ↔ (IsIn p pairs × (bytes_eq (bytes p.0) query ≡ true))

  abbrev pub FoundByPrefix : Type 0
  FoundByPrefix = (bytes : K → List ℕ) (query : List ℕ) (p : K × V) (pairs : List (K × V))
      → AscendsByKey (key_of bytes) pairs
      → (lookup_entry (is_front bytes query) pairs ≡ Some p) ↔ (IsIn p pairs × (begins_with (bytes p.0) query ≡ true))
