-- What two maps have to hold for an index to be made of them.
use Rattle.std.specs.Prelude.{◌≡◌, ℕ, ◌≤◌, List, length, take, drop}
use Rattle.std.specs.Int.{from_be_bytes, w32}
use Rattle.art_lines.specs.Commands.{put_words, nput_words}
use Rattle.art_engine.specs.Keys.{full_key_of, number_key_of, number_of_bytes}
use Rattle.art_engine.specs.Records.{KeyRecord, NumberRecord, KeyFits, NumberFits}
use Rattle.art_engine.specs.Stored.{Pair, NumberPair}
use Rattle.art_lines.specs.Words.{text_of}

-- the record of a full key and a value, and that of a number's bytes and a value
abbrev pub record_in : List ℕ → List ℕ → KeyRecord
record_in full value = record { tenant = from_be_bytes w32 (take 4 full); key = drop 4 full; value = value }

abbrev pub number_record_in : List ℕ → List ℕ → NumberRecord
number_record_in bytes value =
    record { tenant = from_be_bytes w32 (take 4 bytes); key = number_of_bytes (drop 4 bytes); value = value }

-- a key has the four bytes of a tenant, and the line that makes its record is no longer than a line may be
abbrev pub IsShortRecord : List ℕ → List ℕ → Type 0
IsShortRecord full value = (4 ≤ length full)
    × (length (text_of (put_words (record_in full value).tenant (record_in full value).key value)) ≤ 4096)

abbrev pub IsShortNumber : List ℕ → List ℕ → Type 0
IsShortNumber bytes value =
    length (text_of (nput_words (number_record_in bytes value).tenant
    (number_record_in bytes value).key value)) ≤ 4096

-- the same of a pair
abbrev pub IsShortPair : Pair → Type 0
IsShortPair p = IsShortRecord p.0.items p.1.items

abbrev pub IsShortNumberPair : NumberPair → Type 0
IsShortNumberPair p = IsShortNumber p.0 p.1.items

-- bytes are a full key, and the record under them fits
abbrev pub IsRecordIn : List ℕ → List ℕ → Type 0
IsRecordIn full value = (full ≡ full_key_of (record_in full value)) × KeyFits (record_in full value)

abbrev pub IsNumberRecordIn : List ℕ → List ℕ → Type 0
IsNumberRecordIn bytes value =
    (bytes ≡ number_key_of (number_record_in bytes value)) × NumberFits (number_record_in bytes value)
