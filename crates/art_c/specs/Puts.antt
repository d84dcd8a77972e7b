-- What becomes of a map into which a pair is put, or from which pairs are taken.
use Rattle.std.specs.Prelude.{◌≡◌, ℕ, ◌+◌, List, [], length, Option, Some, None, Result, Ok, Err}
use Rattle.art_nodes.specs.declared.kind.NodeType.TheVariants.{Leaf}
use Rattle.art_arena.specs.arena.Arena.{HasRoom, HasRoomOf, KeepsRoomOf, UsesRoom}
use Rattle.art_arena.specs.arena.Shapes.{key_of}
use Rattle.art_arena.specs.declared.ends.End.{End}
use Rattle.art_arena.specs.tree.Shrinks.{Shrinks}
use Rattle.art_arena.specs.tree.Tenants.{with_front, without_front}
use Rattle.art_operations.specs.KeyedLists.{HasKey, without_key}
use Rattle.art_operations.specs.Pairs.{IsAtEnd, ShrinksAtEnd}
use Rattle.art_map.specs.PrefixBlocks.{ShrinksAtCut}
use Rattle.art_c.specs.Calls.{GoesIn, IsPutRefused, Nothing, stored_value, whole}
use Rattle.art_c.specs.Handles.{Map}
use Rattle.art_c.specs.NodeRoom.{NeedsMemory, PutLeavesRoom, RemovalLeavesRoom, RemovalLacksRoom}
use Rattle.art_c.specs.declared.code.Code.{Code}
use Rattle.art_c.specs.declared.code.Code.TheVariants.{Done, Replaced, NotFound, NoMemory}

module _ {V : Type 0} where
  -- A pair went in, in the place of this value if there was one.
  abbrev pub PutsPair : List ℕ → V → Option V → Map V → Map V → Type 0
  PutsPair key value was old new = GoesIn key value old.pairs was new.pairs × PutLeavesRoom was old new

  -- It did not: a stored key blocks its key, or it needs memory and there is none. The pairs and all room stay.
  abbrev pub IsNotPut : List ℕ → List ℕ → Map V → Code → Map V → Type 0
  IsNotPut key text old code new =
      IsPutRefused key old.pairs code new.pairs × KeepsRoomOf old.nodes new.nodes
      × (code ≡ NoMemory → NeedsMemory key text old)

  -- The pairs whose keys begin with the prefix are gone, and their number is told: there is room for so many leaves
  -- more. Want of memory is told only where their loss makes a node smaller, and there was no room for one. Nothing is
  -- changed then.
  abbrev pub IsPrefixRemoved : List ℕ → Map V → ℕ → Code → Map V → ℕ → Type 0
  IsPrefixRemoved front old x Done new y =
      (new.pairs ≡ without_front (key_of whole) front old.pairs)
      × (y ≡ length (with_front (key_of whole) front old.pairs)) × UsesRoom 1 old.nodes new.nodes
      × ((n : ℕ) → HasRoom old.nodes n → HasRoomOf new.nodes Leaf (n + y))
  IsPrefixRemoved front old x NoMemory new y =
      ShrinksAtCut whole front old.pairs × (new.pairs ≡ old.pairs) × RemovalLacksRoom old new × (y ≡ x)
  IsPrefixRemoved front old x _ new y = ⊥

-- The pair is put in at the place of its key, where no pair had the key and none blocks it, or in the place of the one
-- with its key, whose word is told. Where a stored key blocks it, or there is no memory, nothing is changed.
abbrev pub IsWordPut : List ℕ → ℕ → Map ℕ → ℕ → Code → Map ℕ → ℕ → Type 0
IsWordPut key word old x Done new y = PutsPair key word None old new × (y ≡ x)
IsWordPut key word old x Replaced new y = PutsPair key word (Some y) old new
IsWordPut key word old x code new y = IsNotPut key [] old code new × (y ≡ x)

-- the same of bytes, of which no old value is told
abbrev pub IsBytesPut : List ℕ → List ℕ → Map (List ℕ) → Nothing → Code → Map (List ℕ) → Nothing → Type 0
IsBytesPut key value old _ Done new _ = PutsPair key value None old new
IsBytesPut key value old _ Replaced new _ = (was : List ℕ) × PutsPair key value (Some was) old new
IsBytesPut key value old _ code new _ = IsNotPut key value old code new

-- The pair with the key is gone, and its word is told, or there was none. Want of memory is told only where its loss
-- makes a node smaller. Nothing is changed then.
abbrev pub IsWordRemoved : List ℕ → Map ℕ → ℕ → Code → Map ℕ → ℕ → Type 0
IsWordRemoved key old x Done new y =
    (stored_value key old.pairs ≡ Some y) × (new.pairs ≡ without_key (key_of whole) key old.pairs)
    × RemovalLeavesRoom old new
IsWordRemoved key old x NotFound new y =
    (stored_value key old.pairs ≡ None) × (new.pairs ≡ old.pairs) × (y ≡ x) × KeepsRoomOf old.nodes new.nodes
IsWordRemoved key old x NoMemory new y =
    HasKey (key_of whole) key old.pairs × Shrinks (key_of whole) old.pairs key × (new.pairs ≡ old.pairs) × (y ≡ x)
    × RemovalLacksRoom old new
IsWordRemoved key old x _ new y = ⊥

-- The pair at this end was taken out, or there was none, or there was no memory for a node that becomes a smaller one.
abbrev pub IsEndTaken : {E : Type 0} → End → Map ℕ → Result (Option (List ℕ × ℕ)) E → Map ℕ → Type 0
IsEndTaken end old (Ok (Some p)) new = IsAtEnd end p new.pairs old.pairs × RemovalLeavesRoom old new
IsEndTaken end old (Ok None) new = (old.pairs ≡ []) × (new.pairs ≡ []) × KeepsRoomOf old.nodes new.nodes
IsEndTaken end old (Err e) new = ShrinksAtEnd whole end old.pairs × (new.pairs ≡ old.pairs) × RemovalLacksRoom old new

-- the same, and its word is told
abbrev pub IsWordPopped : End → Map ℕ → ℕ → Code → Map ℕ → ℕ → Type 0
IsWordPopped end old x Done new y =
    (key : List ℕ) × IsAtEnd end (key, y) new.pairs old.pairs × RemovalLeavesRoom old new
IsWordPopped end old x NotFound new y =
    (old.pairs ≡ []) × (new.pairs ≡ []) × (y ≡ x) × KeepsRoomOf old.nodes new.nodes
IsWordPopped end old x NoMemory new y =
    ShrinksAtEnd whole end old.pairs × (new.pairs ≡ old.pairs) × (y ≡ x) × RemovalLacksRoom old new
IsWordPopped end old x _ new y = ⊥

abbrev pub IsRemoved : List ℕ → Map (List ℕ) → Nothing → Code → Map (List ℕ) → Nothing → Type 0
IsRemoved key old _ Done new _ =
    HasKey (key_of whole) key old.pairs × (new.pairs ≡ without_key (key_of whole) key old.pairs)
    × RemovalLeavesRoom old new
IsRemoved key old _ NotFound new _ =
    (HasKey (key_of whole) key old.pairs → ⊥) × (new.pairs ≡ old.pairs) × KeepsRoomOf old.nodes new.nodes
IsRemoved key old _ NoMemory new _ =
    HasKey (key_of whole) key old.pairs × Shrinks (key_of whole) old.pairs key × (new.pairs ≡ old.pairs)
    × RemovalLacksRoom old new
IsRemoved key old _ _ new _ = ⊥
