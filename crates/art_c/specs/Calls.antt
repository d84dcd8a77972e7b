-- What the calls answer, in the words of the map. Keys are byte strings, so a key is its own bytes.
use Rattle.std.specs.Prelude.{◌≡◌, ◌⊎◌, ℕ, Bool, true, false, List, [], Option, Some, is_some}
use Rattle.std.specs.Map.{lookup, lookup_entry}
use Rattle.std.specs.declared.ops.Bound.{Bound}
use Rattle.std.specs.declared.ops.Bound.TheVariants.{Included, Excluded, Unbounded}
use Rattle.art_arena.specs.arena.Shapes.{key_of}
use Rattle.art_arena.specs.tree.Tenants.{with_front}
use Rattle.art_operations.specs.KeyedLists.{IsBlocked}
use Rattle.art_operations.specs.Pairs.{with_pair_put}
use Rattle.art_map.specs.Audit.{audit_of}
use Rattle.art_map.specs.Contents.{has_bytes, is_front, first_item, last_item, marked_pair}
use Rattle.art_map.specs.Ranges.{pairs_between}
use Rattle.art_c.specs.Codes.{code_number}
use Rattle.art_c.specs.Handles.{IsOwn, MapState, Pairs, View}
use Rattle.art_c.specs.Copies.{Rooms, KeyRoom, pair_code, pair_out, value_code, value_out, length_out}
use Rattle.art_c.specs.Copies.{found_code, word_out, pairs_word_out, len_word_out, word_code, word_pair_out}
use Rattle.art_walks.specs.declared.stats.WellFormedTreeStats.{WellFormedTreeStats}
use Rattle.art_c.specs.declared.nodes.NodeCounts.{NodeCounts}
use Rattle.art_c.specs.declared.code.Code.{Code}
use Rattle.art_c.specs.declared.code.Code.TheVariants.{Done, Conflict, NoMemory}
use Rattle.art_c.specs.declared.handle.store.Store.{Store}
use Rattle.art_c.specs.declared.calls.reads.Wanted.{Wanted}
use Rattle.art_c.specs.declared.calls.reads.Wanted.TheVariants.{First, Last, FirstWithPrefix, LastWithPrefix}
use Rattle.art_c.specs.declared.calls.reads.Wanted.TheVariants.{FrontOf, MarkedFrontOf, Above, Below}
use Rattle.art_c.specs.declared.calls.reads.Wanted.TheVariants.{AtOrAbove, AtOrBelow}

-- the bytes of a key
abbrev pub whole : List ℕ → List ℕ
whole k = k

-- nothing that C lent
abbrev pub Nothing : Type 0
Nothing = Unit {0}

module _ {V : Type 0} where
  -- an empty map is made, or there is no memory and the handle has what it had
  abbrev pub IsNew : View V → Option Store → ℕ → Option Store → Type 0
  IsNew view old result new =
      ((result ≡ code_number Done) × (s : MapState V) × (view new ≡ Some s) × IsOwn [] s)
      ⊎ ((result ≡ code_number NoMemory) × (new ≡ old))

  -- the value of a key
  abbrev pub stored_value : List ℕ → Pairs V → Option V
  stored_value key pairs = lookup (has_bytes whole key) pairs

  -- the test that a pair has the key
  abbrev pub is_stored : List ℕ → Pairs V → Bool
  is_stored key pairs = is_some (stored_value key pairs)

  -- A pair went in at the place of its key, which no stored key blocks. It had no pair, or the one with this value.
  abbrev pub GoesIn : List ℕ → V → Pairs V → Option V → Pairs V → Type 0
  GoesIn key value old was new =
      (IsBlocked (key_of whole) key old → ⊥) × (was ≡ stored_value key old) × (new ≡ with_pair_put whole key value old)

  -- It did not: a stored key blocks its key, or none does and there is no memory. Nothing is changed.
  abbrev pub IsPutRefused : List ℕ → Pairs V → Code → Pairs V → Type 0
  IsPutRefused key old Conflict new = IsBlocked (key_of whole) key old × (new ≡ old)
  IsPutRefused key old NoMemory new = (IsBlocked (key_of whole) key old → ⊥) × (new ≡ old)
  IsPutRefused key old _ new = ⊥

  -- the pair whose key is a front of a query, or equals it
  abbrev pub pair_of_front : List ℕ → Pairs V → Option (List ℕ × V)
  pair_of_front query pairs = lookup_entry (is_front whole query) pairs

  -- the pair with the longest key that is a front of a query, or all of it, and a mark after it
  abbrev pub pair_of_marked_front : List ℕ → ℕ → Pairs V → Option (List ℕ × V)
  pair_of_marked_front query mark pairs = marked_pair whole query mark pairs

  -- the first of the pairs inside a bound as a start, and the last of those inside it as an end
  abbrev pub pair_inside : Bool → Bound (List ℕ) → Pairs V → Option (List ℕ × V)
  pair_inside true bound pairs = first_item (pairs_between whole bound Unbounded pairs)
  pair_inside false bound pairs = last_item (pairs_between whole Unbounded bound pairs)

  -- the pair with the least key above a key, and the one with the greatest below
  abbrev pub pair_above : List ℕ → Pairs V → Option (List ℕ × V)
  pair_above key pairs = pair_inside true (Excluded key) pairs

  abbrev pub pair_below : List ℕ → Pairs V → Option (List ℕ × V)
  pair_below key pairs = pair_inside false (Excluded key) pairs

  -- the same, or the pair of the key itself
  abbrev pub pair_at_or_above : List ℕ → Pairs V → Option (List ℕ × V)
  pair_at_or_above key pairs = pair_inside true (Included key) pairs

  abbrev pub pair_at_or_below : List ℕ → Pairs V → Option (List ℕ × V)
  pair_at_or_below key pairs = pair_inside false (Included key) pairs

  -- the first pair of those whose keys begin with a prefix, and the last
  abbrev pub first_with_prefix : List ℕ → Pairs V → Option (List ℕ × V)
  first_with_prefix prefix pairs = first_item (with_front (key_of whole) prefix pairs)

  abbrev pub last_with_prefix : List ℕ → Pairs V → Option (List ℕ × V)
  last_with_prefix prefix pairs = last_item (with_front (key_of whole) prefix pairs)

  -- the pair that is wanted
  abbrev pub wanted_of : Wanted → Pairs V → Option (List ℕ × V)
  wanted_of First pairs = first_item pairs
  wanted_of Last pairs = last_item pairs
  wanted_of (FirstWithPrefix prefix) pairs = first_with_prefix prefix.now pairs
  wanted_of (LastWithPrefix prefix) pairs = last_with_prefix prefix.now pairs
  wanted_of (FrontOf query) pairs = pair_of_front query.now pairs
  wanted_of (MarkedFrontOf query mark) pairs = pair_of_marked_front query.now mark pairs
  wanted_of (Above key) pairs = pair_above key.now pairs
  wanted_of (Below key) pairs = pair_below key.now pairs
  wanted_of (AtOrAbove key) pairs = pair_at_or_above key.now pairs
  wanted_of (AtOrBelow key) pairs = pair_at_or_below key.now pairs

-- how many nodes of each kind there are, as C has them
abbrev pub as_node_counts : WellFormedTreeStats → NodeCounts
as_node_counts stats = record {
  nodes4 = stats.num_node4;
  nodes16 = stats.num_node16;
  nodes32 = stats.num_node32;
  nodes48 = stats.num_node48;
  nodes256 = stats.num_node256;
  leaves = stats.num_leaf;
}

-- the nodes of the tree are counted, or there is no memory for the count and nothing is told
abbrev pub IsAudited : {V : Type 0} → Pairs V → NodeCounts → Code → NodeCounts → Type 0
IsAudited pairs x Done y = y ≡ as_node_counts (audit_of (key_of whole) pairs)
IsAudited pairs x NoMemory y = y ≡ x
IsAudited pairs x _ y = ⊥

-- the word of a key is told, if there is one
abbrev pub IsWordRead : List ℕ → Pairs ℕ → ℕ → Code → ℕ → Type 0
IsWordRead key pairs x code y =
    (code ≡ found_code (stored_value key pairs)) × (y ≡ word_out (stored_value key pairs) x)

-- the word of a pair is told, if there is one
abbrev pub IsPairsWordRead : (Pairs ℕ → Option (List ℕ × ℕ)) → Pairs ℕ → ℕ → Code → ℕ → Type 0
IsPairsWordRead pick pairs x code y = (code ≡ found_code (pick pairs)) × (y ≡ pairs_word_out (pick pairs) x)

-- how long the key of a pair is, and its word, if there is one
abbrev pub IsLenWordRead : (Pairs ℕ → Option (List ℕ × ℕ)) → Pairs ℕ → ℕ × ℕ → Code → ℕ × ℕ → Type 0
IsLenWordRead pick pairs x code y = (code ≡ found_code (pick pairs)) × (y ≡ len_word_out (pick pairs) x)

-- the key of a pair is copied out, if there is one and it goes into the room; its length and its word are told
abbrev pub IsWordPairRead : (Pairs ℕ → Option (List ℕ × ℕ)) → Pairs ℕ → KeyRoom → Code → KeyRoom → Type 0
IsWordPairRead pick pairs x code y = (code ≡ word_code (pick pairs) x.key) × (y ≡ word_pair_out (pick pairs) x)

-- the value of a key is copied out, if there is one and it goes into the room; its length is told
abbrev pub IsValueRead : List ℕ → Pairs (List ℕ) → List ℕ × ℕ → Code → List ℕ × ℕ → Type 0
IsValueRead key pairs x code y =
    (code ≡ value_code (stored_value key pairs) x.0)
    × (y ≡ (value_out (stored_value key pairs) x.0, length_out (stored_value key pairs) x.1))

-- a pair is copied out, if it is there and both parts go into their rooms; their lengths are told
abbrev pub IsPairRead : (Pairs (List ℕ) → Option (List ℕ × List ℕ)) → Pairs (List ℕ) → Rooms → Code → Rooms → Type 0
IsPairRead pick pairs x code y = (code ≡ pair_code (pick pairs) x) × (y ≡ pair_out (pick pairs) x)
