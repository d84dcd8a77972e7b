-- What a contract says of a prefix entry. The words serve its kinds too, as `occupied_key (Inner e)`.
pub use Rattle.art_map.specs.declared.map.prefix_entry.PrefixEntry.TheVariants.{Occupied, Vacant}
pub use Rattle.art_map.specs.declared.map.prefix_entry.PrefixOccupiedKind.TheVariants.{Leaf, Inner}
use Rattle.std.specs.Prelude.{◌≡◌, ℕ, true, List, [], Option, Some, None, option_map, Result, IfErr}
use Rattle.std.specs.Borrow.{Fml, RattleType, MutBor, Lends, LendsSo, LendsSoOk, RestsIfErr}
use Rattle.std.specs.Map.{set_value}
use Rattle.std.specs.Option.{OnSome}
use denote.Param.{number}
use mir.Syntax.{named}
use Rattle.art_arena.specs.arena.Arena.{HasRoom, KeepsRoomOf, UsesRoom}
use Rattle.art_arena.specs.arena.Shapes.{key_of}
use Rattle.art_bytes.specs.declared.as_bytes.AsBytes as as_bytes
use Rattle.art_operations.specs.KeyedLists.{IsBlocked, overlapping}
use Rattle.art_operations.specs.Pairs.{with_pair_over}
use Rattle.art_operations.specs.declared.insert.result.InsertRefused.{InsertRefused}
use Rattle.art_map.specs.Contents.{Contents, IsKept}
use Rattle.art_map.specs.LeafNames.{KeepsAllLeaves, KeepsLeaves}
use Rattle.art_map.specs.Entries as entry
use Rattle.art_map.specs.Overlapped.{lone_item, overlaps_query}
use Rattle.art_map.specs.Room.{LeavesRoom}
use Rattle.art_map.specs.declared.map.entry.OccupiedEntry.{OccupiedEntry}
use Rattle.art_map.specs.declared.map.prefix_entry.InnerOccupiedEntry.{InnerOccupiedEntry}
use Rattle.art_map.specs.declared.map.prefix_entry.PrefixEntry.{PrefixEntry}
use Rattle.art_map.specs.declared.map.prefix_entry.PrefixOccupied.{PrefixOccupied}
use Rattle.art_map.specs.declared.map.prefix_entry.PrefixOccupiedKind.{PrefixOccupiedKind}
use Rattle.art_map.specs.declared.map.prefix_entry.Spot.{Spot}
use Rattle.art_map.specs.declared.map.prefix_entry.Spot.TheVariants.{Stored, New}
use Rattle.art_map.specs.Found.{is_held}
use Rattle.art_map.specs.contracts.map.TreeMap as map
use Rattle.art_map.specs.contracts.map.prefix_entry.InnerOccupiedEntry as inner
use Rattle.art_map.specs.contracts.map.prefix_entry.PrefixOccupied as occupied

module _ {K V : Type 0} {P : ℕ} {M : Type 0} where
  -- the pairs that an insertion would remove
  abbrev pub removed_pairs : (K → List ℕ) → InnerOccupiedEntry K V P M → List (K × V)
  removed_pairs bytes e = overlapping (key_of bytes) (bytes e.key) e.map.now.pairs

  -- the entry, once the map has these contents
  abbrev pub with_contents : InnerOccupiedEntry K V P M → Contents K V → InnerOccupiedEntry K V P M
  with_contents e m = record { map = record e.map { now = m }; key = e.key; mark = e.mark }

  -- n is the entry e, once w is the value of the only pair that an insertion would remove; each leaf has the key that
  -- it had, and room stays
  pub record IsWithLoneValue (bytes : K → List ℕ) (e : InnerOccupiedEntry K V P M) (w : V)
      (n : InnerOccupiedEntry K V P M) : Type 0 where
    pub same_map : n.map.ghost_name ≡ e.map.ghost_name
    pub key : n.key ≡ e.key
    pub pairs : n.map.now.pairs ≡ set_value (overlaps_query bytes (bytes e.key)) e.map.now.pairs w
    pub names : KeepsAllLeaves bytes e.map.now n.map.now
    pub room : KeepsRoomOf e.map.now.nodes n.map.now.nodes

module _ {K V : Type 0} {P : ℕ} {M : Type 0} {g : as_bytes.Ghosts K} where
  -- the entry of its own kind that a prefix entry is, where stored keys overlap its key
  abbrev pub kind_at : (e : PrefixOccupied K V P M g) → (s : Spot K) → is_held e.map.now s ≡ true
      → PrefixOccupiedKind K V P M g
  kind_at e (Stored slot) held = Leaf (record { map = e.map; leaf = slot; mark = e.mark; held = held })
  kind_at e (New k) held = Inner (record { map = e.map; key = k; mark = e.mark })

  abbrev pub occupied_kind : PrefixOccupied K V P M g → PrefixOccupiedKind K V P M g
  occupied_kind e = kind_at e e.spot e.held

  -- the reference to the map
  abbrev pub occupied_map : PrefixOccupiedKind K V P M g → MutBor (Contents K V)
  occupied_map (Leaf o) = o.map
  occupied_map (Inner e) = e.map

  abbrev pub prefix_map : PrefixEntry K V P M g → MutBor (Contents K V)
  prefix_map (Occupied o) = o.map
  prefix_map (Vacant e) = e.map

  -- the stored key, or where it is not stored the one that would go in
  abbrev pub occupied_key : PrefixOccupiedKind K V P M g → K
  occupied_key (Leaf o) = entry.entry_key (entry.Occupied o)
  occupied_key (Inner e) = e.key

  abbrev pub prefix_key : PrefixEntry K V P M g → K
  prefix_key (Occupied o) = occupied_key (occupied_kind o)
  prefix_key (Vacant e) = e.key

  -- the value of the key, if it is stored
  abbrev pub occupied_value : PrefixOccupiedKind K V P M g → Option V
  occupied_value (Leaf o) = entry.entry_value (entry.Occupied o)
  occupied_value (Inner e) = None

  abbrev pub prefix_value : PrefixEntry K V P M g → Option V
  prefix_value (Occupied o) = occupied_value (occupied_kind o)
  prefix_value (Vacant e) = None

  -- a refusal is of a key that is not stored, where there was no room for two nodes: it hands the key back, and a value
  -- that is one of these
  abbrev pub IsRefusedPrefix : {A : Type 0} → PrefixEntry K V P M g → (V → Type 0) → Result A (InsertRefused K V)
      → Type 0
  IsRefusedPrefix e Gives result =
      IfErr result (λ refused. (prefix_value e ≡ None) × (refused.key ≡ prefix_key e) × Gives refused.value
      × (HasRoom (prefix_map e).now.nodes 2 → ⊥))

  -- the pairs of the map, once w is the value of the key
  abbrev pub occupied_pairs_with : PrefixOccupiedKind K V P M g → V → List (K × V)
  occupied_pairs_with (Leaf o) w = entry.entry_pairs (entry.Occupied o) w
  occupied_pairs_with (Inner e) w = with_pair_over g.bytes e.key w e.map.now.pairs

  abbrev pub prefix_pairs_with : PrefixEntry K V P M g → V → List (K × V)
  prefix_pairs_with (Occupied o) w = occupied_pairs_with (occupied_kind o) w
  prefix_pairs_with (Vacant e) w = entry.entry_pairs (entry.Vacant e) w

  -- the one pair that an insertion would replace or remove, where it is one alone
  abbrev pub lone_pair : PrefixOccupiedKind K V P M g → Option (K × V)
  lone_pair (Leaf o) = option_map (λ v. (entry.entry_key (entry.Occupied o), v)) (entry.entry_value (entry.Occupied o))
  lone_pair (Inner e) = lone_item (removed_pairs g.bytes e)

  -- the stored key of that pair, or the new key where no stored key overlaps it
  abbrev pub shown_key : PrefixEntry K V P M g → Option K
  shown_key (Occupied o) = entry.option_key (lone_pair (occupied_kind o))
  shown_key (Vacant e) = Some e.key

  -- d is the entry e, once its key was put in with the value w
  pub record IsInnerWritten (e : InnerOccupiedEntry K V P M) (w : V) (d : OccupiedEntry K V P M g) : Type 0 where
    pub same_map : d.map.ghost_name ≡ e.map.ghost_name
    pub pairs : d.map.now.pairs ≡ with_pair_over g.bytes e.key w e.map.now.pairs
    pub key : entry.entry_key (entry.Occupied d) ≡ e.key
    pub value : entry.entry_value (entry.Occupied d) ≡ Some w
    pub writes : (u : V) → entry.entry_pairs (entry.Occupied d) u ≡ with_pair_over g.bytes e.key u e.map.now.pairs
    pub names : KeepsLeaves g.bytes e.map.now d.map.now
    pub room : UsesRoom 2 e.map.now.nodes d.map.now.nodes

  -- d is the entry, once w is the value of its key
  abbrev pub IsOccupiedWritten : PrefixOccupiedKind K V P M g → V → OccupiedEntry K V P M g → Type 0
  IsOccupiedWritten (Leaf o) w d = entry.IsWritten (entry.Occupied o) w (entry.Occupied d)
  IsOccupiedWritten (Inner e) w d = IsInnerWritten e w d

  abbrev pub IsPrefixWritten : PrefixEntry K V P M g → V → OccupiedEntry K V P M g → Type 0
  IsPrefixWritten (Occupied o) w d = IsOccupiedWritten (occupied_kind o) w d
  IsPrefixWritten (Vacant e) w d = entry.IsWritten (entry.Vacant e) w (entry.Occupied d)

  -- n is the entry e, once w is the value of the pair that it shows
  abbrev pub IsShownWritten : PrefixOccupiedKind K V P M g → V → PrefixOccupiedKind K V P M g → Type 0
  IsShownWritten (Leaf o) w (Leaf n) = entry.IsWritten (entry.Occupied o) w (entry.Occupied n)
  IsShownWritten (Inner e) w (Inner n) = IsWithLoneValue g.bytes e w n
  IsShownWritten (Leaf o) w (Inner n) = ⊥
  IsShownWritten (Inner e) w (Leaf n) = ⊥

  -- d is the entry, as it is or, where its key was not stored, with a value that is one of these
  abbrev pub IsOccupiedFilled : PrefixOccupiedKind K V P M g → (V → Type 0) → OccupiedEntry K V P M g → Type 0
  IsOccupiedFilled (Leaf o) Gives d = entry.IsFilled (entry.Occupied o) Gives d
  IsOccupiedFilled (Inner e) Gives d = (v : V) × Gives v × IsInnerWritten e v d

  abbrev pub IsPrefixFilled : PrefixEntry K V P M g → (V → Type 0) → OccupiedEntry K V P M g → Type 0
  IsPrefixFilled (Occupied o) Gives d = IsOccupiedFilled (occupied_kind o) Gives d
  IsPrefixFilled (Vacant e) Gives d = entry.IsFilled (entry.Vacant e) Gives d

  -- the entry is that of this key in these pairs: the key is stored; or it is not, and in conflict with stored keys; or
  -- it is not, and no stored key is in conflict with it
  abbrev pub IsOccupiedOf : List (K × V) → K → PrefixOccupiedKind K V P M g → Type 0
  IsOccupiedOf pairs k (Leaf o) = entry.IsEntryOf pairs k (entry.Occupied o)
  IsOccupiedOf pairs k (Inner e) = (e.key ≡ k) × IsBlocked (key_of g.bytes) (g.bytes k) pairs

  abbrev pub IsPrefixEntryOf : List (K × V) → K → PrefixEntry K V P M g → Type 0
  IsPrefixEntryOf pairs k (Occupied o) = IsOccupiedOf pairs k (occupied_kind o)
  IsPrefixEntryOf pairs k (Vacant e) =
      entry.IsEntryOf pairs k (entry.Vacant e) × (IsBlocked (key_of g.bytes) (g.bytes k) pairs → ⊥)

module _ (K V : RattleType) (P : ℕ) (key : as_bytes.Ghosts K.Denot) where
  -- the map's type, as the logic holds it
  abbrev pub map_row : RattleType
  map_row = map.the_row K V (number P) key

  -- Once the borrow r ends, the only pair that an insertion would remove has the last value written through r, and at
  -- `None` the entry is as it was. Its lifetime is the second of the signature.
  abbrev pub lends_lone : MutBor (InnerOccupiedEntry K.Denot V.Denot P map_row.Denot) → Option (MutBor V.Denot) → Fml
  lends_lone e r =
      LendsSo (inner.the_row (record { mir = named 1; lft = [] }) K V (number P) map_row key) V e r
      (λ n w. OnSome r (IsWithLoneValue key.bytes e.now w n)) (λ n. (n.map ≡ e.now.map) × (n.key ≡ e.now.key))

  -- the same of the only pair that a `PrefixOccupied` shows
  abbrev pub lends_shown : MutBor (PrefixOccupied K.Denot V.Denot P map_row.Denot key) → Option (MutBor V.Denot) → Fml
  lends_shown e r =
      LendsSo (occupied.the_row (record { mir = named 1; lft = [] }) K V (number P) map_row key) V e r
      (λ n w. OnSome r (IsShownWritten (occupied_kind e.now) w (occupied_kind n)))
      (λ n. (n.map ≡ e.now.map) × (n.spot ≡ e.now.spot))

  -- once the borrow r ends, the entry is what the last value written through r makes of it. Its lifetime is as above
  abbrev pub lends_from_inner : (T : RattleType) → MutBor (InnerOccupiedEntry K.Denot V.Denot P map_row.Denot)
      → MutBor T.Denot → (T.Denot → InnerOccupiedEntry K.Denot V.Denot P map_row.Denot) → Fml
  lends_from_inner T = Lends (inner.the_row (record { mir = named 1; lft = [] }) K V (number P) map_row key) T

  -- once the borrow r ends, the map has the last value written through r under the entry's key, each key that stays has
  -- its leaf, and all room stays or that of two nodes may be used; where there is no borrow, its pairs, nodes and room
  -- are as they were
  abbrev pub lends_prefix : {E : Type 0} → PrefixEntry K.Denot V.Denot P map_row.Denot key
      → Result (MutBor V.Denot) E → Fml
  lends_prefix e r =
      LendsSoOk map_row V (prefix_map e) r
      (λ n w. (n.pairs ≡ prefix_pairs_with e w) × KeepsLeaves key.bytes (prefix_map e).now n
      × LeavesRoom (prefix_value e) (prefix_map e).now.nodes n.nodes)
      (IsKept (prefix_map e).now)

  -- where r has no entry, the pairs, the nodes and the room of the map are as they were
  abbrev pub prefix_rests : {E : Type 0} → PrefixEntry K.Denot V.Denot P map_row.Denot key
      → Result (OccupiedEntry K.Denot V.Denot P map_row.Denot key) E → Fml
  prefix_rests e r =
      RestsIfErr map_row (prefix_map e) (λ d. d.map.ghost_name) r (IsKept (prefix_map e).now)

  -- the same of an entry that an insertion of its key would remove pairs
  abbrev pub lends_inner : {E : Type 0} → InnerOccupiedEntry K.Denot V.Denot P map_row.Denot
      → Result (MutBor V.Denot) E → Fml
  lends_inner e r =
      LendsSoOk map_row V e.map r (λ n w. (n.pairs ≡ with_pair_over key.bytes e.key w e.map.now.pairs)
      × KeepsLeaves key.bytes e.map.now n × UsesRoom 2 e.map.now.nodes n.nodes) (IsKept e.map.now)

  abbrev pub inner_rests : {E : Type 0} → InnerOccupiedEntry K.Denot V.Denot P map_row.Denot
      → Result (OccupiedEntry K.Denot V.Denot P map_row.Denot key) E → Fml
  inner_rests e r =
      RestsIfErr map_row e.map (λ d. d.map.ghost_name) r (IsKept e.map.now)
