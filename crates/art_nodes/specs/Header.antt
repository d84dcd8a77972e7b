-- What a contract sees of the header of an inner node.
use Rattle.std.specs.Prelude.{◌≡◌, ℕ, ◌≤◌, List, length, take, min}

-- how many children the node has, the length of its prefix, and the bytes of the prefix that are stored: its front
pub record Header : Type 0 where
  pub num_children : ℕ
  pub prefix_len : ℕ
  pub stored : List ℕ

-- the front of these first `len` bytes that a header with room for `room` bytes stores
abbrev pub front_of : ℕ → List ℕ → ℕ → List ℕ
front_of room bytes len = take room (take len bytes)

-- the header of no children whose prefix is the first `len` of these bytes
abbrev pub header_of : ℕ → List ℕ → ℕ → Header
header_of room bytes len = record { num_children = 0; prefix_len = len; stored = front_of room bytes len }

-- the header with a prefix of this length, of which these bytes are stored
abbrev pub with_stored_prefix : ℕ → List ℕ → Header → Header
with_stored_prefix len stored header = record header { prefix_len = len; stored = stored }

-- what a header with room for so many bytes may be: it counts at most 256 children, and stores as much of the prefix as
-- there is room for
pub record IsHeader (room : ℕ) (header : Header) : Type 0 where
  pub counts : header.num_children ≤ 256
  pub stores : length header.stored ≡ min header.prefix_len room
