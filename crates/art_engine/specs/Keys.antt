-- The full keys of records.
use Rattle.std.specs.Prelude.{ℕ, ℤ, List, bit_xor}
use Rattle.std.specs.Int.{from_be_bytes, cast_signed, w64}
use Rattle.art_bytes.specs.Numbers.{top_bit}
use Rattle.art_bytes.specs.Laws.{pair_key}
use Rattle.art_lines.specs.Keys.{full_key}
use Rattle.art_engine.specs.Records.{Record}

-- the full key of a record
abbrev pub full_key_of : Record (List ℕ) → List ℕ
full_key_of r = full_key r.tenant r.key

-- that of a record under a number: four bytes of the tenant, then eight of the number with its top bit flipped
abbrev pub number_key_of : Record ℤ → List ℕ
number_key_of r = pair_key (r.tenant, r.key)

-- the number that eight bytes are, the top bit flipped
abbrev pub number_of_bytes : List ℕ → ℤ
number_of_bytes bytes = cast_signed w64 (bit_xor (from_be_bytes w64 bytes) (top_bit w64))

-- a record under a number as a map has it
abbrev pub number_pair : Record ℤ → List ℕ × List ℕ
number_pair r = (number_key_of r, r.value)

-- a record as a map has it: its value under its full key
abbrev pub full_pair : Record (List ℕ) → List ℕ × List ℕ
full_pair r = (full_key_of r, r.value)
