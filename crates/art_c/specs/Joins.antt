-- What becomes of a map into which another's pairs move.
use Rattle.std.specs.Prelude.{◌≡◌, ◌≢◌, ℕ, ◌-◌, ◌*◌, [], ◌∷◌, ◌++◌, length, Option}
use Rattle.art_arena.specs.arena.Arena.{UsesRoom}
use Rattle.art_map.specs.Asked.{with_pairs_put}
use Rattle.art_operations.specs.Pairs.{with_pair_put}
use Rattle.art_c.specs.Answers.{Changes, OnMade}
use Rattle.art_c.specs.Calls.{IsPutRefused, whole}
use Rattle.art_c.specs.Handles.{Map, Pairs, View}
use Rattle.art_c.specs.declared.code.Code.{Code}
use Rattle.art_c.specs.declared.code.Code.TheVariants.{Done}
use Rattle.art_c.specs.declared.handle.store.Store.{Store}

module _ {V : Type 0} where
  -- the first pair of another map moved, to the place of its key
  abbrev pub MovesFirst : Pairs V → Pairs V → Pairs V → Pairs V → Type 0
  MovesFirst other old left new =
      (p : _) × (other ≡ p ∷ left) × (new ≡ with_pair_put whole p.0 p.1 old)

  -- how it ends: the other map has no pair, or a put of its first is refused
  abbrev pub MoveEnds : Pairs V → Pairs V → Code → Type 0
  MoveEnds [] pairs code = code ≡ Done
  MoveEnds (p ∷ rest) pairs code = IsPutRefused p.0 pairs code pairs

  -- The first pairs of the other map moved, each as it would be put in, and the others are still there. It ended so
  -- after them.
  abbrev pub ArePairsMoved : Pairs V → Pairs V → Code → Pairs V → Pairs V → Type 0
  ArePairsMoved other old code left new =
      (moved : Pairs V) × (other ≡ moved ++ left) × (new ≡ with_pairs_put whole moved old) × MoveEnds left new code

  -- each pair that moved may use room for two nodes here, and for one there
  abbrev pub JoinLeavesRoom : Map V → Map V → Map V → Map V → Type 0
  JoinLeavesRoom other old left new =
      let moved : ℕ = length other.pairs - length left.pairs in
      UsesRoom (2 * moved) old.nodes new.nodes × UsesRoom moved other.nodes left.nodes

  -- The same of two maps. Where the other is empty, both stay what they are; else an empty one changes places with it,
  -- with all nodes and all room.
  abbrev pub IsJoined : Map V → Map V → Code → Map V → Map V → Type 0
  IsJoined other old code left new =
      ArePairsMoved other.pairs old.pairs code left.pairs new.pairs
      × (other.pairs ≡ [] → (new ≡ old) × (left ≡ other))
      × (old.pairs ≡ [] → other.pairs ≢ [] → (code ≡ Done) × (new ≡ other) × (left ≡ old))
      × (old.pairs ≢ [] → JoinLeavesRoom other old left new)

  -- the same of the map in another handle: it has to have one that is not frozen, and else nothing is done
  abbrev pub IsAppended : View V → Map V → Option Store → Code → Map V → Option Store → Type 0
  IsAppended view old x code new y = OnMade view (Changes IsJoined) x old code y new
