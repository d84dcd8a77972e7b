-- What a contract says of an entry. The words serve its halves too, as `entry_key (Occupied o)`.
pub use Rattle.art_map.specs.declared.map.entry.Entry.TheVariants.{Occupied, Vacant}
use Rattle.std.specs.Prelude.{◌≡◌, ℕ, List, [], Option, Some, None, IsSome, option_map, Result, IfErr}
use Rattle.std.specs.Option.{unwrap_or}
use Rattle.std.specs.Borrow.{Fml, RattleType, MutBor, follows, LendsSoOk, RestsIfErr, RestsIfNone}
use Rattle.std.proofs.Common.{sym}
use mathlib.Core.Bool.{true≢false}
use denote.Param.{number}
use mir.Syntax.{named}
use Rattle.art_bytes.specs.declared.as_bytes.AsBytes as as_bytes
use Rattle.art_arena.specs.arena.Arena.{HasRoom}
use Rattle.art_arena.specs.arena.Shapes.{key_of}
use Rattle.art_operations.specs.KeyedLists.{without_key}
use Rattle.art_operations.specs.Pairs.{with_pair_put}
use Rattle.art_operations.specs.declared.insert.result.InsertRefused.{InsertRefused}
use Rattle.art_map.specs.Contents.{Contents, found_pair, found_value, IsKept}
use Rattle.art_map.specs.Found.{pair_under, still_held}
use Rattle.art_map.specs.LeafNames.{KeepsAllLeaves}
use Rattle.art_map.specs.Lends.{with_value_at}
use Rattle.art_map.specs.Room.{LeavesRoom}
use Rattle.art_map.specs.declared.map.entry.Entry.{Entry}
use Rattle.art_map.specs.declared.map.entry.OccupiedEntry.{OccupiedEntry}
use Rattle.art_map.specs.contracts.map.TreeMap as map
use Rattle.art_map.specs.contracts.map.entry.OccupiedEntry as occupied

-- the key of a pair, if there is one
abbrev pub option_key : {K V : Type 0} → Option (K × V) → Option K
option_key None = None
option_key (Some p) = Some p.0

-- what is there
abbrev pub unwrapped : {X : Type 0} (o : Option X) → IsSome o → X
unwrapped None there = absurd (true≢false (sym there))
unwrapped (Some x) there = x

module _ {K V : Type 0} {P : ℕ} {M : Type 0} {g : as_bytes.Ghosts K} where
  -- the reference to the map
  abbrev pub entry_map : Entry K V P M g → MutBor (Contents K V)
  entry_map (Occupied o) = o.map
  entry_map (Vacant e) = e.map

  -- the stored key, or where none is stored the one that would go in
  abbrev pub entry_key : Entry K V P M g → K
  entry_key (Occupied o) = (unwrapped (pair_under o.map.now o.leaf) o.held).0
  entry_key (Vacant e) = e.key

  -- the value of the key, if it is stored
  abbrev pub entry_value : Entry K V P M g → Option V
  entry_value (Occupied o) = Some (unwrapped (pair_under o.map.now o.leaf) o.held).1
  entry_value (Vacant e) = None

  -- a refusal is of a key that is not stored, where there was no room for two nodes: it hands the key back, and a value
  -- that is one of these
  abbrev pub IsRefusedEntry : {A : Type 0} → Entry K V P M g → (V → Type 0) → Result A (InsertRefused K V) → Type 0
  IsRefusedEntry e Gives result =
      IfErr result (λ refused. (entry_value e ≡ None) × (refused.key ≡ entry_key e) × Gives refused.value
      × (HasRoom (entry_map e).now.nodes 2 → ⊥))

  -- the entry has this pair, or there is neither
  abbrev pub IsPairOf : Option (K × V) → Option (OccupiedEntry K V P M g) → Type 0
  IsPairOf wanted None = wanted ≡ None
  IsPairOf wanted (Some o) = wanted ≡ option_map (λ v. (entry_key (Occupied o), v)) (entry_value (Occupied o))

  -- the entry is that of this key in these pairs
  pub record IsEntryOf (pairs : List (K × V)) (k : K) (e : Entry K V P M g) : Type 0 where
    pub key : entry_key e ≡ unwrap_or (option_key (found_pair g.bytes (g.bytes k) pairs)) k
    pub same_key : g.bytes (entry_key e) ≡ g.bytes k
    pub value : entry_value e ≡ found_value g.bytes (g.bytes k) pairs

  -- the pairs of the map, once w is the value of the key
  abbrev pub entry_pairs : Entry K V P M g → V → List (K × V)
  entry_pairs e w = with_pair_put g.bytes (entry_key e) w (entry_map e).now.pairs

  -- the pairs of the map without that of the key
  abbrev pub pairs_without : Entry K V P M g → List (K × V)
  pairs_without e = without_key (key_of g.bytes) (g.bytes (entry_key e)) (entry_map e).now.pairs

  -- d is the entry e, once w is the value of its key
  pub record IsWritten (e : Entry K V P M g) (w : V) (d : Entry K V P M g) : Type 0 where
    pub same_map : (entry_map d).ghost_name ≡ (entry_map e).ghost_name
    pub pairs : (entry_map d).now.pairs ≡ entry_pairs e w
    pub key : entry_key d ≡ entry_key e
    pub value : entry_value d ≡ Some w
    pub writes : (u : V) → entry_pairs d u ≡ entry_pairs e u
    pub names : KeepsAllLeaves g.bytes (entry_map e).now (entry_map d).now
    pub room : LeavesRoom (entry_value e) (entry_map e).now.nodes (entry_map d).now.nodes

  -- d is the entry e
  pub record IsSame (e d : Entry K V P M g) : Type 0 where
    pub same_map : (entry_map d).ghost_name ≡ (entry_map e).ghost_name
    pub unchanged : (entry_map d).now ≡ (entry_map e).now
    pub key : entry_key d ≡ entry_key e
    pub value : entry_value d ≡ entry_value e

  -- d is the entry, as it is or, where it was vacant, with a value that is one of these
  abbrev pub IsFilled : Entry K V P M g → (V → Type 0) → OccupiedEntry K V P M g → Type 0
  IsFilled (Occupied o) Gives d = IsSame (Occupied o) (Occupied d)
  IsFilled (Vacant e) Gives d = (v : V) × Gives v × IsWritten (Vacant e) v (Occupied d)

  -- an occupied entry, once w is its value
  abbrev pub with_entry_value : OccupiedEntry K V P M g → V → OccupiedEntry K V P M g
  with_entry_value o w = record {
    map = record o.map { now = with_value_at o.map.now o.leaf w };
    leaf = o.leaf;
    mark = o.mark;
    held = still_held o.map.now o.leaf w o.held;
  }

module _ (K V : RattleType) (P : ℕ) (key : as_bytes.Ghosts K.Denot) where
  -- the map's type, as the logic holds it
  abbrev map_row : RattleType
  map_row = map.the_row K V (number P) key

  -- once the borrow r ends, the entry has the last value written through r. Its lifetime is the second of the signature
  abbrev pub lends_entry_value : MutBor (OccupiedEntry K.Denot V.Denot P map_row.Denot key) → MutBor V.Denot → Fml
  lends_entry_value o r =
      let row = occupied.the_row (record { mir = named 1; lft = [] }) K V (number P) map_row key in
      follows row V o.ghost_name r.ghost_name (with_entry_value o.now)

  -- once the borrow r ends, the map has the last value written through r under the entry's key, each leaf has the key
  -- that it had, and all room stays or that of two nodes may be used; where there is no borrow, its pairs, nodes and
  -- room are as they were
  abbrev pub lends_entry : {E : Type 0} → Entry K.Denot V.Denot P map_row.Denot key → Result (MutBor V.Denot) E → Fml
  lends_entry e r =
      LendsSoOk map_row V (entry_map e) r
      (λ n w. (n.pairs ≡ entry_pairs e w) × KeepsAllLeaves key.bytes (entry_map e).now n
      × LeavesRoom (entry_value e) (entry_map e).now.nodes n.nodes) (IsKept (entry_map e).now)

  -- where r has no entry, the pairs, the nodes and the room of the map are as they were
  abbrev pub rests_if_refused : {E : Type 0} → Entry K.Denot V.Denot P map_row.Denot key
      → Result (OccupiedEntry K.Denot V.Denot P map_row.Denot key) E → Fml
  rests_if_refused e r =
      RestsIfErr map_row (entry_map e) (λ o. o.map.ghost_name) r (IsKept (entry_map e).now)

  -- the same of the map whose entry is asked for
  abbrev pub rests_if_blocked : {E : Type 0} → MutBor (Contents K.Denot V.Denot)
      → Result (Entry K.Denot V.Denot P map_row.Denot key) E → Fml
  rests_if_blocked m r = RestsIfErr map_row m (λ e. (entry_map e).ghost_name) r (IsKept m.now)

  -- where r has no entry, the map is as it was
  abbrev pub rests_if_none : MutBor (Contents K.Denot V.Denot)
      → Option (OccupiedEntry K.Denot V.Denot P map_row.Denot key) → Fml
  rests_if_none m r = RestsIfNone map_row m (λ o. o.map.ghost_name) r (λ n. n ≡ m.now)
