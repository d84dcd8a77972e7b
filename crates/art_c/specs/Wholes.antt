-- What is done with a map as a whole.
use Rattle.std.specs.Prelude.{◌≡◌, ◌≢◌, ◌⊎◌, ℕ, ◌*◌, List, [], length, Option, Some, None}
use Rattle.std.specs.declared.ops.Bound.TheVariants.{Included, Excluded, Unbounded}
use Rattle.art_arena.specs.arena.Arena.{HasNoRoom, HasRoom, IsTrimmed, KeepsRoomOf, UsesRoom}
use Rattle.art_operations.specs.Frees.{FreesLeaves}
use Rattle.art_map.specs.Ranges.{pairs_between}
use Rattle.art_c.specs.Calls.{whole, Nothing}
use Rattle.art_c.specs.Handles.{IsOwn, IsShut, Map, MapState, own, shut, Pairs, View}
use Rattle.art_c.specs.declared.code.Code.{Code}
use Rattle.art_c.specs.declared.handle.kept.Kept.{Kept}
use Rattle.art_c.specs.declared.handle.kept.Kept.TheVariants.{Own, Frozen}
use Rattle.art_c.specs.declared.handle.store.Store.{Store}
use Rattle.art_c.specs.declared.handle.store.Store.TheVariants.{Words, Bytes}
use Rattle.art_c.specs.declared.code.Code.TheVariants.{Done, NotFound, NoMemory, Shared}

-- in a map that is kept, and can be changed, so many more nodes of any kinds take no memory
abbrev pub HasRoomIn : {V : Type 0} → ℕ → Kept V → Type 0
HasRoomIn n (Own owned) = HasRoom owned.map.nodes n
HasRoomIn n (Frozen shared) = ⊥

-- the same of the map of a handle
abbrev pub HasRoomInStore : ℕ → Option Store → Type 0
HasRoomInStore n (Some (Words kept)) = HasRoomIn n kept
HasRoomInStore n (Some (Bytes kept)) = HasRoomIn n kept
HasRoomInStore n None = ⊥

-- a map that is kept has no slot that its nodes do not need, and the map of a handle
abbrev pub IsTrimmedIn : {V : Type 0} → Kept V → Type 0
IsTrimmedIn (Own owned) = IsTrimmed owned.map.nodes
IsTrimmedIn (Frozen shared) = ⊥

abbrev pub IsTrimmedStore : Option Store → Type 0
IsTrimmedStore (Some (Words kept)) = IsTrimmedIn kept
IsTrimmedStore (Some (Bytes kept)) = IsTrimmedIn kept
IsTrimmedStore None = ⊥

module _ {V : Type 0} where
  -- a handle gets such a map, in the place of what it had, or there is no memory and it has what it had
  abbrev pub IsGiven : View V → (MapState V → Type 0) → Option Store → Code → Option Store → Type 0
  IsGiven view Is x code y =
      ((code ≡ Done) × (s : MapState V) × (view y ≡ Some s) × Is s) ⊎ ((code ≡ NoMemory) × (y ≡ x))

  -- why another handle does not get a map
  abbrev pub IsSharedOf : MapState V → Code → Type 0
  IsSharedOf (own m) code = code ≡ NotFound
  IsSharedOf (shut m) code = code ≡ NoMemory

  -- another handle gets a copy of the pairs
  abbrev pub GetsCopy : View V → Pairs V → Option Store → Code → Option Store → Type 0
  GetsCopy view pairs x code y = IsGiven view (IsOwn pairs) x code y

  -- Room after a split. Where some stay, each pair that leaves gives room for a leaf back, and uses that of four nodes
  -- of each other kind at most. Where none leave, all stays; where all do, all room goes with them.
  abbrev pub SplitLeavesRoom : Map V → Map V → MapState V → Type 0
  SplitLeavesRoom old new (own off) =
      (new.pairs ≢ [] → FreesLeaves (length off.pairs) old.nodes new.nodes
      × UsesRoom (4 * length off.pairs) old.nodes new.nodes)
      × (off.pairs ≡ [] → (new ≡ old) × HasNoRoom off.nodes)
      × (new.pairs ≡ [] → off.pairs ≢ [] → (off ≡ old) × HasNoRoom new.nodes)
  SplitLeavesRoom old new (shut off) = ⊥

  -- the pairs from a key on move to another handle, or there is no memory and both have what they had
  abbrev pub IsSplitOff : View V → List ℕ → Map V → Option Store → Code → Map V → Option Store → Type 0
  IsSplitOff view key old x Done new y =
      (new.pairs ≡ pairs_between whole Unbounded (Excluded key) old.pairs)
      × (s : MapState V) × (view y ≡ Some s) × IsOwn (pairs_between whole (Included key) Unbounded old.pairs) s
      × SplitLeavesRoom old new s
  IsSplitOff view key old x NoMemory new y =
      (new.pairs ≡ old.pairs) × KeepsRoomOf old.nodes new.nodes × (y ≡ x)
  IsSplitOff view key old x code new y = ⊥

  -- all pairs stay, and the call may find no memory
  abbrev pub IsReserved : Map V → Nothing → Code → Map V → Nothing → Type 0
  IsReserved old _ code new _ = ((code ≡ Done) ⊎ (code ≡ NoMemory)) × (new.pairs ≡ old.pairs)

  abbrev pub IsShrunk : Map V → Nothing → Code → Map V → Nothing → Type 0
  IsShrunk old _ code new _ = (code ≡ Done) × (new.pairs ≡ old.pairs)

  -- the same, and where it finds none, there are pairs, and the map is as it was
  abbrev pub IsCompacted : Map V → Nothing → Code → Map V → Nothing → Type 0
  IsCompacted old _ code new _ =
      ((code ≡ Done) ⊎ ((code ≡ NoMemory) × (old.pairs ≢ []) × (new ≡ old))) × (new.pairs ≡ old.pairs)

  -- all pairs are gone, and all memory for nodes
  abbrev pub IsCleared : Map V → Nothing → Code → Map V → Nothing → Type 0
  IsCleared old _ code new _ = (code ≡ Done) × (new.pairs ≡ []) × HasNoRoom new.nodes

  -- The map is frozen: one that was frozen is what it was. Or it was not, and there is no memory, and its pairs are
  -- those that it had.
  abbrev pub IsFrozen : MapState V → Nothing → Code → MapState V → Nothing → Type 0
  IsFrozen (own m) _ Done t _ = IsShut m.pairs t
  IsFrozen (own m) _ NoMemory t _ = IsOwn m.pairs t
  IsFrozen (own m) _ code t _ = ⊥
  IsFrozen (shut m) _ code t _ = (code ≡ Done) × (t ≡ shut m)

  -- The map can be changed: one that could is what it was. Or another handle has it and it stays frozen.
  abbrev pub IsThawed : MapState V → Nothing → Code → MapState V → Nothing → Type 0
  IsThawed (own m) _ code t _ = (code ≡ Done) × (t ≡ own m)
  IsThawed (shut m) _ Done t _ = t ≡ own m
  IsThawed (shut m) _ Shared t _ = t ≡ shut m
  IsThawed (shut m) _ code t _ = ⊥

  -- another handle gets a frozen map, too
  abbrev pub IsShared : View V → MapState V → Option Store → Code → MapState V → Option Store → Type 0
  IsShared view (own m) x code t y = (code ≡ NotFound) × (t ≡ own m) × (y ≡ x)
  IsShared view (shut m) x code t y = IsGiven view (λ s. s ≡ shut m) x code y × (t ≡ shut m)
