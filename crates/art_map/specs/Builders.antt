-- A map in the making: what it has of the pairs that were put into it.
use Rattle.std.specs.Prelude.{◌≡◌, ℕ, suc, ◌+◌, ◌*◌, ◌≤◌, cond, List, []}
use Rattle.std.specs.Prelude.{length, map, Option, MatchBool, MatchResult, Result}
use Rattle.std.specs.Iterator.{Drains}
use Rattle.std.specs.List.{AllByRecursion}
use Rattle.art_arena.specs.arena.Arena.{Arena, HasRoom}
use Rattle.art_arena.specs.arena.Shapes.{key_of}
use Rattle.art_operations.specs.Builders.{Builds, HasRoomBeside}
use Rattle.art_operations.specs.KeyedLists.{HasKey}
use Rattle.art_operations.specs.declared.insert.result.InsertRefused.{InsertRefused}
use Rattle.art_map.specs.Asked.{with_pairs_put}
use Rattle.art_map.specs.Bulk.{HandsNextBack}
use Rattle.art_map.specs.declared.map.builder.TreeMapBuilder.{TreeMapBuilder}

module _ {K V : Type 0} {P : ℕ} (bytes : K → List ℕ) (is_key : K → Type 0) where
  -- a tree of these pairs is being built, each key is one, and there is no map yet
  abbrev pub HasGatheredInOrder : TreeMapBuilder K V P → List (K × V) → Type 0
  HasGatheredInOrder b pairs =
      Builds bytes P b.arena b.builder pairs × AllByRecursion (λ p. is_key p.0) pairs × (b.map.pairs ≡ [])

  -- a map in the making has these pairs: a tree of them is being built, as long as they came in order; else the map has
  -- them
  abbrev pub HasGathered : TreeMapBuilder K V P → List (K × V) → Type 0
  HasGathered b pairs = MatchBool b.in_order (HasGatheredInOrder b pairs) (b.map.pairs ≡ pairs)

-- the nodes that hold the pairs of a map in the making
abbrev pub nodes_of : {K V : Type 0} {P : ℕ} → TreeMapBuilder K V P → Arena K V
nodes_of b = cond b.in_order b.arena b.map.nodes

-- there is room for so many more nodes of each kind, beside those that are still to be made of a tree
abbrev pub HasRoomLeft : {K V : Type 0} {P : ℕ} → TreeMapBuilder K V P → ℕ → Type 0
HasRoomLeft b n = MatchBool b.in_order (HasRoomBeside b.arena b.builder n) (HasRoom b.map.nodes n)

-- what room is left for one node or more stays
abbrev pub KeepsRoomLeft : {K V : Type 0} {P : ℕ} → TreeMapBuilder K V P → TreeMapBuilder K V P → Type 0
KeepsRoomLeft old new = (n : ℕ) → 1 ≤ n → HasRoomLeft old n → HasRoomLeft new n

-- Whatever pairs the map in the making had, those of the items that came were put in after each other, and used room
-- for two nodes a pair at most: of all items, or of those before one that was refused and is handed back. For all of
-- these, two nodes a pair, there was no room, and the key of that one was new.
abbrev pub GathersWith : {K V U S A : Type 0} {P : ℕ} → (K → List ℕ) → (K → Type 0) → (A → K × V) → (U → S → Type 0)
    → (S → Option A → S → Type 0) → U → TreeMapBuilder K V P → Result (Unit {0}) (InsertRefused K V)
    → TreeMapBuilder K V P → Type 0
GathersWith {K} {V} {U} {S} {A} bytes is_key pair_of becomes steps iter old result new =
    (it : S) × (given : List A) × becomes iter it
    × ((pairs : List (K × V)) → HasGathered bytes is_key old pairs
    → HasGathered bytes is_key new (with_pairs_put bytes (map pair_of given) pairs))
    × ((n : ℕ) → 1 ≤ n → HasRoomLeft old (n + 2 * length given) → HasRoomLeft new n)
    × MatchResult result (λ _. Drains steps it given) (λ e. HandsNextBack bytes pair_of becomes steps it given e
    × (HasRoomLeft old (2 * suc (length given)) → ⊥)
    × ((pairs : List (K × V)) → HasGathered bytes is_key old pairs
    → HasKey (key_of bytes) (bytes e.key) (with_pairs_put bytes (map pair_of given) pairs) → ⊥))
