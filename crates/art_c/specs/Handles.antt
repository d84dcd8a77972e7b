-- What a contract sees of a handle: a map with its pairs and its nodes, and whether it is frozen.
use Rattle.std.specs.Prelude.{◌≡◌, ℕ, Bool, true, false, List, [], Option, Some, None}
use Rattle.art_map.specs.Contents.{Contents}
use Rattle.art_c.specs.declared.handle.Handle.{Handle}
use Rattle.art_c.specs.declared.handle.kept.Kept.{Kept}
use Rattle.art_c.specs.declared.handle.kept.Kept.TheVariants.{Own, Frozen}
use Rattle.art_c.specs.declared.handle.store.Store.{Store}
use Rattle.art_c.specs.declared.handle.store.Store.TheVariants.{Words, Bytes}

-- the pairs of a map, by ascending keys; keys are byte strings
abbrev pub Pairs : Type 0 → Type 0
Pairs V = List (List ℕ × V)

-- the contents of a map: these pairs, and the nodes that hold them
abbrev pub Map : Type 0 → Type 0
Map V = Contents (List ℕ) V

-- a map that can be changed, or one that is frozen
pub data MapState (V : Type 0) : Type 0 where
  own : Map V → MapState V
  shut : Map V → MapState V

abbrev pub state_pairs : {V : Type 0} → MapState V → Pairs V
state_pairs (own m) = m.pairs
state_pairs (shut m) = m.pairs

-- the test that a map is frozen
abbrev pub is_shut : {V : Type 0} → MapState V → Bool
is_shut (own m) = false
is_shut (shut m) = true

-- it can be changed, and has these pairs
abbrev pub IsOwn : {V : Type 0} → Pairs V → MapState V → Type 0
IsOwn pairs (own m) = m.pairs ≡ pairs
IsOwn pairs (shut m) = ⊥

-- it is frozen, and has these
abbrev pub IsShut : {V : Type 0} → Pairs V → MapState V → Type 0
IsShut pairs (own m) = ⊥
IsShut pairs (shut m) = m.pairs ≡ pairs

-- the state of a map that is kept
abbrev pub state_of : {V : Type 0} → Kept V → MapState V
state_of (Own owned) = own owned.map
state_of (Frozen shared) = shut shared.value.map

-- what a handle has, if a map is made
abbrev pub store_of : Handle → Option Store
store_of handle = handle.held.store

-- how the maps of one kind are seen
abbrev pub View : Type 0 → Type 0
View V = Option Store → Option (MapState V)

-- the map of words, or of bytes, if it is one
abbrev pub word_map_in : View ℕ
word_map_in (Some (Words kept)) = Some (state_of kept)
word_map_in (Some (Bytes kept)) = None
word_map_in None = None

abbrev pub byte_map_in : View (List ℕ)
byte_map_in (Some (Bytes kept)) = Some (state_of kept)
byte_map_in (Some (Words kept)) = None
byte_map_in None = None

-- the same of a handle
abbrev pub word_map_of : Handle → Option (MapState ℕ)
word_map_of handle = word_map_in (store_of handle)

abbrev pub byte_map_of : Handle → Option (MapState (List ℕ))
byte_map_of handle = byte_map_in (store_of handle)

-- the pairs of a map, and none where there is no map
abbrev pub pairs_or_none : {V : Type 0} → Option (MapState V) → Pairs V
pairs_or_none None = []
pairs_or_none (Some s) = state_pairs s

-- the test that there is a map, and that it is frozen
abbrev pub is_frozen_map : {V : Type 0} → Option (MapState V) → Bool
is_frozen_map None = false
is_frozen_map (Some s) = is_shut s
