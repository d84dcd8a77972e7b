-- What is left where many keys are put in, one after another.
use Rattle.std.specs.Prelude.{◌≡◌, ℕ, suc, ◌+◌, ◌*◌, ◌≤◌, length, List, [], ◌∷◌, ◌++◌, map}
use Rattle.std.specs.Prelude.{Option, Some, MatchResult, Result}
use Rattle.std.specs.Iterator.{Drains, YieldsThen}
use Rattle.std.specs.Map.{keys_of}
use Rattle.art_arena.specs.arena.Arena.{HasRoom}
use Rattle.art_map.specs.Asked.{with_pairs_put}
use Rattle.art_map.specs.Builders.{HasGathered, HasRoomLeft}
use Rattle.art_map.specs.Bulk.{UsesRoomOfPairs}
use Rattle.art_map.specs.declared.map.builder.TreeMapBuilder.{TreeMapBuilder}
use Rattle.art_operations.specs.KeyedLists.{HasKey}
use Rattle.art_set.specs.Members.{Members, with_keys_put}
use Rattle.art_set.specs.declared.set.refused.RefusedKey.{RefusedKey}

-- the key that is handed back stands in the list, and is the first there with its bytes
abbrev pub IsFirstOfKeys : {K : Type 0} → (K → List ℕ) → List K → RefusedKey K → Type 0
IsFirstOfKeys {K} bytes keys refused =
    (front : List K) × (back : List K) × (keys ≡ front ++ refused.key ∷ back)
    × (HasKey bytes (bytes refused.key) front → ⊥)

module _ {K U S A : Type 0} (bytes : K → List ℕ) (key_of : A → K) (becomes : U → S → Type 0)
    (steps : S → Option A → S → Type 0) where
  -- after these items the iterator gave one whose key is handed back
  abbrev pub HandsNextKeyBack : S → List A → RefusedKey K → Type 0
  HandsNextKeyBack it given refused =
      (item : A) × (rest : S) × YieldsThen steps it given (Some item) rest × (key_of item ≡ refused.key)

  -- The keys of the items that came were put in, one after another, and used room for two nodes a key at most: of all
  -- items, or of those before one that was refused and is handed back. For all of these, two nodes a key, there was no
  -- room.
  abbrev pub ExtendsWithKeys : U → Members K → Result (Unit {0}) (RefusedKey K) → Members K → Type 0
  ExtendsWithKeys iter old result new =
      (it : S) × (given : List A) × becomes iter it
      × (new.keys ≡ with_keys_put bytes (map key_of given) old.keys)
      × UsesRoomOfPairs (length given) old.nodes new.nodes
      × MatchResult result (λ _. Drains steps it given)
      (λ e. HandsNextKeyBack it given e × (HasRoom old.nodes (2 * suc (length given)) → ⊥))

  -- The same of a map in the making, whatever keys it had, each beside the unit. The key of the one that was refused
  -- was new.
  abbrev pub GathersKeysWith : {P : ℕ} → (K → Type 0) → U → TreeMapBuilder K (Unit {0}) P
      → Result (Unit {0}) (RefusedKey K) → TreeMapBuilder K (Unit {0}) P → Type 0
  GathersKeysWith is_key iter old result new =
      (it : S) × (given : List A) × becomes iter it
      × ((pairs : List (K × Unit {0})) → HasGathered bytes is_key old pairs
      → HasGathered bytes is_key new (with_pairs_put bytes (map (λ x. (key_of x, tt)) given) pairs))
      × ((n : ℕ) → 1 ≤ n → HasRoomLeft old (n + 2 * length given) → HasRoomLeft new n)
      × MatchResult result (λ _. Drains steps it given)
      (λ e. HandsNextKeyBack it given e × (HasRoomLeft old (2 * suc (length given)) → ⊥)
      × ((pairs : List (K × Unit {0})) → HasGathered bytes is_key old pairs
      → HasKey bytes (bytes e.key) (with_keys_put bytes (map key_of given) (keys_of pairs)) → ⊥))

  -- The same of a set that is made of them, which is let go of where one is refused. No key before that one has its
  -- bytes.
  abbrev pub IsMadeOfKeys : U → Result (Members K) (RefusedKey K) → Type 0
  IsMadeOfKeys iter result =
      (it : S) × (given : List A) × becomes iter it
      × MatchResult result (λ made. Drains steps it given × (made.keys ≡ with_keys_put bytes (map key_of given) []))
      (λ e. HandsNextKeyBack it given e
      × (HasKey bytes (bytes e.key) (with_keys_put bytes (map key_of given) []) → ⊥))
