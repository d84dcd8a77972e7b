-- How pairs, words and values are copied out to a caller.
use Rattle.std.specs.Prelude.{ℕ, nat_le, ◌&&◌, Bool, if◌then◌else◌, List, ◌++◌, length, drop, Option, Some, None}
use Rattle.art_c.specs.declared.code.Code.{Code}
use Rattle.art_c.specs.declared.code.Code.TheVariants.{Done, NotFound, NoRoom}

-- the rooms that a caller lends for a pair, and where its lengths are told
pub record Rooms : Type 0 where
  pub key : List ℕ
  pub key_len : ℕ
  pub value : List ℕ
  pub value_len : ℕ

abbrev pub rooms : List ℕ → ℕ → List ℕ → ℕ → Rooms
rooms key key_len value value_len = record { key = key; key_len = key_len; value = value; value_len = value_len }

-- the room that a caller lends for a key, and where its length and its word are told
pub record KeyRoom : Type 0 where
  pub key : List ℕ
  pub key_len : ℕ
  pub word : ℕ

abbrev pub key_room : List ℕ → ℕ → ℕ → KeyRoom
key_room key key_len word = record { key = key; key_len = key_len; word = word }

-- a room with these items at its start, whose rest is what it was
abbrev pub written : {X : Type 0} → List X → List X → List X
written items room = items ++ drop (length items) room

-- the test that both parts of a pair go into their rooms
abbrev pub fits_in : List ℕ × List ℕ → Rooms → Bool
fits_in p rooms = nat_le (length p.0) (length rooms.key) && nat_le (length p.1) (length rooms.value)

-- the rooms with a pair in them, and as they were but that its lengths are told
abbrev pub with_pair_written : List ℕ × List ℕ → Rooms → Rooms
with_pair_written p rooms = record {
  key = written p.0 rooms.key;
  key_len = length p.0;
  value = written p.1 rooms.value;
  value_len = length p.1;
}

abbrev pub with_lengths : List ℕ × List ℕ → Rooms → Rooms
with_lengths p rooms =
    record { key = rooms.key; key_len = length p.0; value = rooms.value; value_len = length p.1 }

-- what is answered of a pair, or of none, and the rooms then
abbrev pub pair_code : Option (List ℕ × List ℕ) → Rooms → Code
pair_code None rooms = NotFound
pair_code (Some p) rooms = if fits_in p rooms then Done else NoRoom

abbrev pub pair_out : Option (List ℕ × List ℕ) → Rooms → Rooms
pair_out None rooms = rooms
pair_out (Some p) rooms = if fits_in p rooms then with_pair_written p rooms else with_lengths p rooms

-- the same of a value alone: what is answered, the room then, and the length that is told
abbrev pub value_code : Option (List ℕ) → List ℕ → Code
value_code None room = NotFound
value_code (Some v) room = if nat_le (length v) (length room) then Done else NoRoom

abbrev pub value_out : Option (List ℕ) → List ℕ → List ℕ
value_out None room = room
value_out (Some v) room = if nat_le (length v) (length room) then written v room else room

abbrev pub length_out : Option (List ℕ) → ℕ → ℕ
length_out None len = len
length_out (Some v) len = length v

-- what is answered where nothing is copied
abbrev pub found_code : {X : Type 0} → Option X → Code
found_code None = NotFound
found_code (Some x) = Done

-- the word that is told: of a key, and of a pair
abbrev pub word_out : Option ℕ → ℕ → ℕ
word_out None word = word
word_out (Some w) word = w

abbrev pub pairs_word_out : Option (List ℕ × ℕ) → ℕ → ℕ
pairs_word_out None word = word
pairs_word_out (Some p) word = p.1

-- the length of the key and the word that are told
abbrev pub len_word_out : Option (List ℕ × ℕ) → ℕ × ℕ → ℕ × ℕ
len_word_out None old = old
len_word_out (Some p) old = (length p.0, p.1)

-- what is answered of a pair with a word whose key is copied, and the room then
abbrev pub word_code : Option (List ℕ × ℕ) → List ℕ → Code
word_code None room = NotFound
word_code (Some p) room = if nat_le (length p.0) (length room) then Done else NoRoom

abbrev pub word_pair_out : Option (List ℕ × ℕ) → KeyRoom → KeyRoom
word_pair_out None room = room
word_pair_out (Some p) room =
    key_room (if nat_le (length p.0) (length room.key) then written p.0 room.key else room.key) (length p.0) p.1
