-- The statements that the functions of `laws` ensure.
use Rattle.std.specs.Prelude.{◌≡◌, ℕ, suc, ◌+◌, Bool}
use Rattle.std.specs.Prelude.{List, [], ◌∷◌, ◌++◌, filter, length, Option, Some, None}
use Rattle.std.specs.Prelude.{bytes_eq, if◌then◌else◌, is_some}
use Rattle.std.specs.BTreeMap.Range.{range_contains}
use Rattle.std.specs.Map.{lookup, set_value}
use Rattle.std.specs.Option.{option_map, option_or}
use Rattle.std.specs.declared.ops.Bound.{Bound}
use Rattle.art_bytes.specs.Keys.{bytes_cmp}
use Rattle.art_arena.specs.arena.Shapes.{key_of}
use Rattle.art_arena.specs.tree.Order.{AscendsByKey}
use Rattle.art_arena.specs.tree.Tenants.{begins_with, with_front, without_front}
use Rattle.art_map.specs.Asked.{with_pairs_put}
use Rattle.art_map.specs.Contents.{found_value, has_bytes}
use Rattle.art_map.specs.Ranges.{pairs_between}
use Rattle.art_operations.specs.KeyedLists.{overlaps, without_key}
use Rattle.art_operations.specs.Pairs.{with_pair_over, with_pair_put}

module _ {K V : Type 0} where
  -- the value of the last pair whose key has these bytes, if there is one
  abbrev pub last_value : (K → List ℕ) → List ℕ → List (K × V) → Option V
  last_value bytes query [] = None
  last_value bytes query (p ∷ ps) =
      option_or (last_value bytes query ps) (if bytes_eq (bytes p.0) query then Some p.1 else None)

-- the value, if there is one and it passes the test
abbrev pub kept_value : {V : Type 0} → (V → Bool) → Option V → Option V
kept_value test None = None
kept_value test (Some v) = if test v then Some v else None

module _ (K V : Type 0) where
  abbrev pub FoundAfterInsertion : Type 0
  FoundAfterInsertion = (bytes : K → List ℕ) (query : List ℕ) (k : K) (v : V) (pairs : List (K × V))
      → found_value bytes query (with_pair_put bytes k v pairs)
      ≡ (if bytes_eq (bytes k) query then Some v else found_value bytes query pairs)

  abbrev pub FoundAfterRemoval : Type 0
  FoundAfterRemoval = (bytes : K → List ℕ) (query key : List ℕ) (pairs : List (K × V))
      → found_value bytes query (without_key (key_of bytes) key pairs)
      ≡ (if bytes_eq key query then None else found_value bytes query pairs)

  abbrev pub FoundAfterPrefixInsertion : Type 0
  FoundAfterPrefixInsertion = (bytes : K → List ℕ) (query : List ℕ) (k : K) (v : V) (pairs : List (K × V))
      → found_value bytes query (with_pair_over bytes k v pairs)
      ≡ (if bytes_eq (bytes k) query then Some v else (if overlaps (bytes k) query then None
      else found_value bytes query pairs))

  abbrev pub FoundAfterPrefixRemoval : Type 0
  FoundAfterPrefixRemoval = (bytes : K → List ℕ) (query front : List ℕ) (pairs : List (K × V))
      → found_value bytes query (without_front (key_of bytes) front pairs)
      ≡ (if begins_with front query then None else found_value bytes query pairs)

  abbrev pub FoundWithinPrefix : Type 0
  FoundWithinPrefix = (bytes : K → List ℕ) (query front : List ℕ) (pairs : List (K × V))
      → found_value bytes query (with_front (key_of bytes) front pairs)
      ≡ (if begins_with front query then found_value bytes query pairs else None)

  abbrev pub FoundWithinBounds : Type 0
  FoundWithinBounds = (bytes : K → List ℕ) (query : List ℕ) (start end : Bound (List ℕ)) (pairs : List (K × V))
      → found_value bytes query (pairs_between bytes start end pairs)
      ≡ (if range_contains bytes_cmp start end query then found_value bytes query pairs else None)

  abbrev pub FoundAfterWrite : Type 0
  FoundAfterWrite = (bytes : K → List ℕ) (query key : List ℕ) (w : V) (pairs : List (K × V))
      → found_value bytes query (set_value (has_bytes bytes key) pairs w)
      ≡ (if bytes_eq key query then option_map (λ v. w) (found_value bytes query pairs)
      else found_value bytes query pairs)

  abbrev pub FoundAfterInsertions : Type 0
  FoundAfterInsertions = (bytes : K → List ℕ) (query : List ℕ) (new pairs : List (K × V))
      → found_value bytes query (with_pairs_put bytes new pairs)
      ≡ option_or (last_value bytes query new) (found_value bytes query pairs)

  abbrev pub FoundAmongRetained : Type 0
  FoundAmongRetained = (bytes : K → List ℕ) (query : List ℕ) (keep : List ℕ → V → Bool) (pairs : List (K × V))
      → AscendsByKey (key_of bytes) pairs
      → found_value bytes query (filter (λ p. keep (bytes p.0) p.1) pairs)
      ≡ kept_value (keep query) (found_value bytes query pairs)

  abbrev pub LenAfterInsertion : Type 0
  LenAfterInsertion = (bytes : K → List ℕ) (k : K) (v : V) (pairs : List (K × V)) → AscendsByKey (key_of bytes) pairs
      → length (with_pair_put bytes k v pairs)
      ≡ (if is_some (found_value bytes (bytes k) pairs) then length pairs else suc (length pairs))

  abbrev pub LenAfterRemoval : Type 0
  LenAfterRemoval = (bytes : K → List ℕ) (key : List ℕ) (pairs : List (K × V)) → AscendsByKey (key_of bytes) pairs
      → length (without_key (key_of bytes) key pairs) + (if is_some (found_value bytes key pairs) then 1 else 0)
      ≡ length pairs

  abbrev pub LenAfterPrefixRemoval : Type 0
  LenAfterPrefixRemoval = (bytes : K → List ℕ) (front : List ℕ) (pairs : List (K × V))
      → length (with_front (key_of bytes) front pairs) + length (without_front (key_of bytes) front pairs)
      ≡ length pairs

  abbrev pub LenAfterWrite : Type 0
  LenAfterWrite = (test : K → Bool) (w : V) (pairs : List (K × V)) → length (set_value test pairs w) ≡ length pairs

-- the bytes of a key that is seen without the zero at its end
abbrev pub ended : List ℕ → List ℕ
ended k = k ++ 0 ∷ []

abbrev pub FoundOfEndedKeys : Type 0 → Type 0
FoundOfEndedKeys V = (query : List ℕ) (pairs : List (List ℕ × V))
    → found_value ended (ended query) pairs ≡ lookup (λ k. bytes_eq k query) pairs
