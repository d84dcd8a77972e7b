-- What is left where many pairs are put in, one after another.
use Rattle.std.specs.Prelude.{◌≡◌, ℕ, suc, ◌+◌, ◌*◌, ◌≤◌, List, [], ◌∷◌, ◌++◌}
use Rattle.std.specs.Prelude.{length, map, Option, Some, MatchResult, Result}
use Rattle.std.specs.Iterator.{Drains, YieldsThen}
use Rattle.art_arena.specs.arena.Arena.{Arena, HasRoom}
use Rattle.art_arena.specs.arena.Shapes.{key_of}
use Rattle.art_operations.specs.KeyedLists.{HasKey}
use Rattle.art_operations.specs.declared.insert.result.InsertRefused.{InsertRefused}
use Rattle.art_map.specs.Asked.{with_pairs_put}
use Rattle.art_map.specs.Contents.{Contents}

-- the pair that is handed back stands in the list, and is the first there with its key
abbrev pub IsFirstOfList : {K V : Type 0} → (K → List ℕ) → List (K × V) → InsertRefused K V → Type 0
IsFirstOfList {K} {V} bytes pairs refused =
    (front : List (K × V)) × (back : List (K × V)) × (pairs ≡ front ++ (refused.key, refused.value) ∷ back)
    × (HasKey (key_of bytes) (bytes refused.key) front → ⊥)

-- of what room there was, that of two nodes a pair may be used up by so many pairs
abbrev pub UsesRoomOfPairs : {K V : Type 0} → ℕ → Arena K V → Arena K V → Type 0
UsesRoomOfPairs count old new = (n : ℕ) → 1 ≤ n → HasRoom old (n + 2 * count) → HasRoom new n

module _ {K V U S A : Type 0} (bytes : K → List ℕ) (pair_of : A → K × V)
    (becomes : U → S → Type 0) (steps : S → Option A → S → Type 0) where
  -- after these items the iterator gave one whose pair is handed back
  abbrev pub HandsNextBack : S → List A → InsertRefused K V → Type 0
  HandsNextBack it given refused =
      (item : A) × (rest : S) × YieldsThen steps it given (Some item) rest
      × (pair_of item ≡ (refused.key, refused.value))

  -- The pairs of the items that came were put in, one after another, and used room for two nodes a pair at most: of all
  -- items, or of those before one that was refused and is handed back. For all of these, two nodes a pair, there was no
  -- room.
  abbrev pub ExtendsWith : U → Contents K V → Result (Unit {0}) (InsertRefused K V) → Contents K V → Type 0
  ExtendsWith iter old result new =
      (it : S) × (given : List A) × becomes iter it
      × (new.pairs ≡ with_pairs_put bytes (map pair_of given) old.pairs)
      × UsesRoomOfPairs (length given) old.nodes new.nodes
      × MatchResult result (λ _. Drains steps it given)
      (λ e. HandsNextBack it given e × (HasRoom old.nodes (2 * suc (length given)) → ⊥))

  -- The same of a map that is made of them, which is let go of where one is refused. No pair before that one has its
  -- key.
  abbrev pub IsMadeOf : U → Result (Contents K V) (InsertRefused K V) → Type 0
  IsMadeOf iter result =
      (it : S) × (given : List A) × becomes iter it
      × MatchResult result (λ made. Drains steps it given × (made.pairs ≡ with_pairs_put bytes (map pair_of given) []))
      (λ e. HandsNextBack it given e
      × (HasKey (key_of bytes) (bytes e.key) (with_pairs_put bytes (map pair_of given) []) → ⊥))
