-- What a line asks for: the grammar, as a relation between a line and a command.
use Rattle.std.specs.Prelude.{ℕ, ℤ, ◌≤◌, ◌==◌, List, [], ◌∷◌, length, codes}
use Rattle.std.specs.List.{slice_split, AllZip}
use Rattle.art_lines.specs.Words.{Word, name, natural, signed, bytes, Reads}

-- what is asked of one tenant's records
pub data Request : Type 0 where
  put : List ℕ → List ℕ → Request
  over : List ℕ → List ℕ → Request
  del : List ℕ → Request
  get : List ℕ → Request
  find : List ℕ → Request
  list : List ℕ → Request
  span : List ℕ → List ℕ → Request
  nput : ℤ → List ℕ → Request
  nget : ℤ → Request
  ndel : ℤ → Request
  nspan : ℤ → ℤ → Request
  drop : Request

-- what a line asks for: something of one tenant's records, or of all
pub data Command : Type 0 where
  of_tenant : ℕ → Request → Command
  dump : Command
  audit : Command

-- the words of a tenant's request
abbrev pub request_words : ℕ → Request → List Word
request_words tenant (put key value) = name (codes "put") ∷ natural tenant ∷ bytes key ∷ bytes value ∷ []
request_words tenant (over key value) = name (codes "over") ∷ natural tenant ∷ bytes key ∷ bytes value ∷ []
request_words tenant (del key) = name (codes "del") ∷ natural tenant ∷ bytes key ∷ []
request_words tenant (get key) = name (codes "get") ∷ natural tenant ∷ bytes key ∷ []
request_words tenant (find key) = name (codes "find") ∷ natural tenant ∷ bytes key ∷ []
request_words tenant (list front) = name (codes "list") ∷ natural tenant ∷ bytes front ∷ []
request_words tenant (span low high) = name (codes "span") ∷ natural tenant ∷ bytes low ∷ bytes high ∷ []
request_words tenant (nput number value) = name (codes "nput") ∷ natural tenant ∷ signed number ∷ bytes value ∷ []
request_words tenant (nget number) = name (codes "nget") ∷ natural tenant ∷ signed number ∷ []
request_words tenant (ndel number) = name (codes "ndel") ∷ natural tenant ∷ signed number ∷ []
request_words tenant (nspan low high) = name (codes "nspan") ∷ natural tenant ∷ signed low ∷ signed high ∷ []
request_words tenant drop = name (codes "drop") ∷ natural tenant ∷ []

-- those that put a value at a tenant's key, and at its number
abbrev pub put_words : ℕ → List ℕ → List ℕ → List Word
put_words tenant key value = request_words tenant (put key value)

abbrev pub nput_words : ℕ → ℤ → List ℕ → List Word
nput_words tenant number value = request_words tenant (nput number value)

-- the words of a command
abbrev pub words_of : Command → List Word
words_of (of_tenant tenant request) = request_words tenant request
words_of dump = name (codes "dump") ∷ []
words_of audit = name (codes "audit") ∷ []

-- the fields of a line, parted by single spaces
abbrev pub fields_of : List ℕ → List (List ℕ)
fields_of line = slice_split (λ b. b == 32) line

-- A line of at most 4,096 bytes spells a command where its fields are read as the command's words, one for each.
pub record Spells (line : List ℕ) (command : Command) : Type 0 where
  pub short : length line ≤ 4096
  pub read : AllZip Reads (fields_of line) (words_of command)
