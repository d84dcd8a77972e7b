-- What an index holds: the records of each tenant.
use Rattle.std.specs.Prelude.{◌≡◌, ℕ, ℤ, ◌^◌, ◌<◌, ◌≤◌, ◌⊎◌, ◌==◌, nat_lt, int_lt, IsTrue, false, List, [], ◌∷◌, ◌++◌}
use Rattle.std.specs.Prelude.{length, map, filter, FitsSigned}
use Rattle.std.specs.Int.{w64}
use Rattle.std.specs.List.{AllByRecursion}
use Rattle.hex.specs.Hex.{IsBytes}
use Rattle.art_lines.specs.Words.{text_of}
use Rattle.art_lines.specs.Commands.{put_words, nput_words}
use Rattle.art_bytes.specs.Keys.{is_below, conflicts}

-- what one tenant holds: values under keys, and values under numbers, both ascending
pub record Own : Type 0 where
  pub keys : List (List ℕ × List ℕ)
  pub numbers : List (ℤ × List ℕ)

-- a value under a tenant's key, which is bytes or a number
pub record Record (K : Type 0) : Type 0 where
  pub tenant : ℕ
  pub key : K
  pub value : List ℕ

abbrev pub KeyRecord : Type 0
KeyRecord = Record (List ℕ)

abbrev pub NumberRecord : Type 0
NumberRecord = Record ℤ

-- The records of all tenants. The lists stand for a map from tenants to what each holds: `own` looks a tenant up,
-- `with_own` puts what it holds in place.
pub record Records : Type 0 where
  pub keys : List (Record (List ℕ))
  pub numbers : List (Record ℤ)

abbrev pub no_records : Records
no_records = record { keys = []; numbers = [] }

-- of records of one kind, what a tenant holds; and the records where it holds this, and each other tenant what it held
abbrev pub own_part : {K : Type 0} → ℕ → List (Record K) → List (K × List ℕ)
own_part tenant records = map (λ r. (r.key, r.value)) (filter (λ r. r.tenant == tenant) records)

abbrev pub with_part : {K : Type 0} → ℕ → List (K × List ℕ) → List (Record K) → List (Record K)
with_part tenant pairs records =
    filter (λ r. nat_lt r.tenant tenant) records ++ map (λ p. record { tenant = tenant; key = p.0; value = p.1 }) pairs
    ++ filter (λ r. nat_lt tenant r.tenant) records

-- the same of records of both kinds
abbrev pub own : ℕ → Records → Own
own tenant records = record { keys = own_part tenant records.keys; numbers = own_part tenant records.numbers }

abbrev pub with_own : ℕ → Own → Records → Records
with_own tenant mine records =
    record { keys = with_part tenant mine.keys records.keys; numbers = with_part tenant mine.numbers records.numbers }

-- a record comes before another: its tenant is smaller, or it is the same and the keys ascend without a conflict
abbrev pub KeyComesBefore : KeyRecord → KeyRecord → Type 0
KeyComesBefore r s = (r.tenant < s.tenant)
    ⊎ ((r.tenant ≡ s.tenant) × IsTrue (is_below r.key s.key) × (conflicts r.key s.key ≡ false))

-- likewise under numbers
abbrev pub NumberComesBefore : NumberRecord → NumberRecord → Type 0
NumberComesBefore r s = (r.tenant < s.tenant) ⊎ ((r.tenant ≡ s.tenant) × IsTrue (int_lt r.key s.key))

-- each of some things comes before all after it
abbrev pub InOrder : {X : Type 0} → (X → X → Type 0) → List X → Type 0
InOrder Before [] = Unit {0}
InOrder Before (x ∷ xs) = AllByRecursion (Before x) xs × InOrder Before xs

-- A value under a tenant's key as an index may hold it: the tenant is below 2 ^ 32, key and value are bytes, and the
-- line that would make the record has at most 4,096 bytes.
pub record KeyFits (r : KeyRecord) : Type 0 where
  pub tenant_fits : r.tenant < 2 ^ 32
  pub key_fits : IsBytes r.key
  pub value_fits : IsBytes r.value
  pub line_fits : length (text_of (put_words r.tenant r.key r.value)) ≤ 4096

-- likewise under a number, which has 64 bits with its sign
pub record NumberFits (r : NumberRecord) : Type 0 where
  pub tenant_fits : r.tenant < 2 ^ 32
  pub number_fits : FitsSigned w64 r.key
  pub value_fits : IsBytes r.value
  pub line_fits : length (text_of (nput_words r.tenant r.key r.value)) ≤ 4096

-- Records as an index may hold them: in order, without conflicts, each of bytes and no longer than a line.
pub record AreRecords (records : Records) : Type 0 where
  pub keys_in_order : InOrder KeyComesBefore records.keys
  pub numbers_in_order : InOrder NumberComesBefore records.numbers
  pub keys_fit : AllByRecursion KeyFits records.keys
  pub numbers_fit : AllByRecursion NumberFits records.numbers
