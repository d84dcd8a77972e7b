-- What the maps of an index stand for.
use Rattle.std.specs.Prelude.{◌≡◌, ℕ, ◌^◌, ◌<◌, List, [], map, take, drop}
use Rattle.std.specs.Global.{Vec}
use Rattle.std.specs.Int.{from_be_bytes, w32}
use Rattle.std.specs.List.{AllByRecursion}
use Rattle.art_arena.specs.tree.Order.{AscendsByKey}
use Rattle.art_lines.specs.Keys.{full_key}
use Rattle.art_engine.specs.Keys.{number_of_bytes, number_key_of}
use Rattle.art_engine.specs.Records.{KeyRecord, NumberRecord, Records, InOrder, KeyComesBefore, KeyFits, NumberFits}

-- a value under a full key
abbrev pub Pair : Type 0
Pair = Vec ℕ × Vec ℕ

-- the record of a pair: its tenant is the first four bytes of the full key, its key the others
abbrev pub record_of : Pair → KeyRecord
record_of p = record {
  tenant = from_be_bytes w32 (take 4 p.0.items);
  key = drop 4 p.0.items;
  value = p.1.items;
}

-- the records of some pairs
abbrev pub records_of : List Pair → Records
records_of ps = record { keys = map record_of ps; numbers = [] }

-- a value under the bytes of a tenant and a number
abbrev pub NumberPair : Type 0
NumberPair = List ℕ × Vec ℕ

-- the record of such a pair: its tenant is the first four bytes, its number the others
abbrev pub number_record_of : NumberPair → NumberRecord
number_record_of p = record {
  tenant = from_be_bytes w32 (take 4 p.0);
  key = number_of_bytes (drop 4 p.0);
  value = p.1.items;
}

-- the records of some pairs of this kind
abbrev pub number_records_of : List NumberPair → Records
number_records_of ns = record { keys = []; numbers = map number_record_of ns }

-- the records of some pairs of both kinds
abbrev pub all_records_of : List Pair → List NumberPair → Records
all_records_of ps ns = record { keys = map record_of ps; numbers = map number_record_of ns }

-- bytes are the full key of the tenant of their first four, and of the others
abbrev pub IsFullKey : List ℕ → Type 0
IsFullKey full = full ≡ full_key (from_be_bytes w32 (take 4 full)) (drop 4 full)

-- a pair stands under the full key of its record
abbrev pub IsFull : Pair → Type 0
IsFull p = IsFullKey p.0.items

-- the tenant of a record is below 2 ^ 32
abbrev pub IsOfTenant : KeyRecord → Type 0
IsOfTenant r = r.tenant < 2 ^ 32

-- Pairs under full keys, their records in order and without conflicts.
pub record AreFull (ps : List Pair) : Type 0 where
  pub full : AllByRecursion IsFull ps
  pub in_order : InOrder KeyComesBefore (map record_of ps)
  pub tenants : AllByRecursion IsOfTenant (map record_of ps)

-- Pairs as an index holds them: their records are of bytes and no longer than a line, too.
pub record ArePairs (ps : List Pair) : Type 0 where
  pub stand : AreFull ps
  pub fit : AllByRecursion KeyFits (map record_of ps)

-- a pair stands under the bytes of its record's tenant and number
abbrev pub IsNumberPair : NumberPair → Type 0
IsNumberPair p = p.0 ≡ number_key_of (number_record_of p)

-- Pairs under numbers as an index holds them: under the bytes of their records, which ascend, and no longer than a
-- line.
pub record AreNumberPairs (ns : List NumberPair) : Type 0 where
  pub stand : AllByRecursion IsNumberPair ns
  pub ascend : AscendsByKey (λ p. p.0) ns
  pub fit : AllByRecursion NumberFits (map number_record_of ns)
