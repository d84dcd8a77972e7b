-- The reply to a line, and the records after it.
use Rattle.std.specs.Prelude.{ℕ, ℤ, ◌+◌, int_lt, not, ◌&&◌, ◌||◌, Bool, false, if◌then◌else◌, List, [], ◌∷◌, ◌++◌}
use Rattle.std.specs.Prelude.{length, map, filter, codes, Option, Some, None, is_some, option_map}
use Rattle.std.specs.List.{list_any, find}
use Rattle.std.specs.Str.{bytes_eq}
use Rattle.std.specs.Ordering.{int_eq}
use Rattle.art_lines.specs.Words.{Word, name, natural, signed, bytes}
use Rattle.art_lines.specs.Commands.{Request, put, over, del, get, find as find_front, list, span}
use Rattle.art_lines.specs.Commands.{nput, nget, ndel, nspan, drop}
use Rattle.art_lines.specs.Commands.{Command, of_tenant, dump, audit, request_words}
use Rattle.art_bytes.specs.Keys.{is_below, conflicts}
use Rattle.art_arena.specs.tree.Tenants.{begins_with}
use Rattle.art_operations.specs.KeyedLists.{overlaps}
use Rattle.art_walks.specs.declared.stats.WellFormedTreeStats.{WellFormedTreeStats}
use Rattle.art_map.specs.Audit.{audit_of}
use Rattle.art_lines.specs.ReplyWords.{found_or, put_reply, find_reply, end_words, listed_as}
use Rattle.art_engine.specs.Keys.{full_key_of, number_key_of}
use Rattle.art_engine.specs.Records.{Own, Record, Records, own, with_own}

-- the value at a key
abbrev pub value_at : {K : Type 0} → (K → K → Bool) → K → List (K × List ℕ) → Option (List ℕ)
value_at same key pairs = option_map (λ p. p.1) (find (λ p. same p.0 key) pairs)

-- the pairs with a value at a key, which stands at its place in the order, and no other value at it
abbrev pub with_pair : {K : Type 0} → (K → K → Bool) → K → List ℕ → List (K × List ℕ) → List (K × List ℕ)
with_pair below key value pairs = filter (λ p. below p.0 key) pairs ++ (key, value) ∷ filter (λ p. below key p.0) pairs

-- the pairs without the one at a key
abbrev pub without_at : {K : Type 0} → (K → K → Bool) → K → List (K × List ℕ) → List (K × List ℕ)
without_at same key pairs = filter (λ p. not (same p.0 key)) pairs

-- whether a key conflicts with one of these
abbrev pub has_conflict : List ℕ → List (List ℕ × List ℕ) → Bool
has_conflict key pairs = list_any (λ p. conflicts key p.0) pairs

-- the pairs whose keys overlap a key, and the pairs with a value at it in the place of these
abbrev pub overlapped : List ℕ → List (List ℕ × List ℕ) → List (List ℕ × List ℕ)
overlapped key pairs = filter (λ p. overlaps key p.0) pairs

abbrev pub with_value_over : List ℕ → List ℕ → List (List ℕ × List ℕ) → List (List ℕ × List ℕ)
with_value_over key value pairs = with_pair is_below key value (filter (λ p. not (overlaps key p.0)) pairs)

-- the pair whose key is a front of this one, or equals it
abbrev pub front_at : List ℕ → List (List ℕ × List ℕ) → Option (List ℕ × List ℕ)
front_at key pairs = find (λ p. begins_with p.0 key) pairs

-- the pairs whose keys begin with a front, and those from a low key on and below a high one
abbrev pub pairs_with_prefix : List ℕ → List (List ℕ × List ℕ) → List (List ℕ × List ℕ)
pairs_with_prefix front pairs = filter (λ p. begins_with front p.0) pairs

abbrev pub pairs_from_to : List ℕ → List ℕ → List (List ℕ × List ℕ) → List (List ℕ × List ℕ)
pairs_from_to low high pairs = filter (λ p. not (is_below p.0 low) && is_below p.0 high) pairs

-- the pairs from a low number on and up to a high one
abbrev pub numbers_from_to : ℤ → ℤ → List (ℤ × List ℕ) → List (ℤ × List ℕ)
numbers_from_to low high pairs = filter (λ p. not (int_lt p.0 low) && not (int_lt high p.0)) pairs

-- It puts the value in place, unless there is a conflict and no old value.
abbrev pub puts : Option (List ℕ) → Bool → Bool
puts old conflict = is_some old || not conflict

-- the reply to a tenant's request, line by line, from what the tenant holds and nothing else
abbrev pub own_reply : Request → Own → List (List Word)
own_reply (put key value) mine = put_reply (value_at bytes_eq key mine.keys) (has_conflict key mine.keys) ∷ []
own_reply (over key value) mine = (name (codes "over") ∷ natural (length (overlapped key mine.keys)) ∷ []) ∷ []
own_reply (del key) mine = found_or (value_at bytes_eq key mine.keys) (codes "gone") (codes "none") ∷ []
own_reply (get key) mine = found_or (value_at bytes_eq key mine.keys) (codes "is") (codes "none") ∷ []
own_reply (find_front key) mine = find_reply (front_at key mine.keys) ∷ []
own_reply (list front) mine = listed_as bytes (pairs_with_prefix front mine.keys)
own_reply (span low high) mine =
    if is_below high low then (name (codes "bounds") ∷ []) ∷ [] else listed_as bytes (pairs_from_to low high mine.keys)
own_reply (nput number value) mine = put_reply (value_at int_eq number mine.numbers) false ∷ []
own_reply (nget number) mine = found_or (value_at int_eq number mine.numbers) (codes "is") (codes "none") ∷ []
own_reply (ndel number) mine = found_or (value_at int_eq number mine.numbers) (codes "gone") (codes "none") ∷ []
own_reply (nspan low high) mine =
    if int_lt high low then (name (codes "bounds") ∷ []) ∷ []
    else listed_as signed (numbers_from_to low high mine.numbers)
own_reply drop mine = (name (codes "dropped") ∷ natural (length mine.keys + length mine.numbers) ∷ []) ∷ []

-- what the tenant holds after its request, where the request changes that
abbrev pub own_after : Request → Own → Option Own
own_after (put key value) mine =
    if puts (value_at bytes_eq key mine.keys) (has_conflict key mine.keys)
    then Some (record mine { keys = with_pair is_below key value mine.keys }) else None
own_after (over key value) mine = Some (record mine { keys = with_value_over key value mine.keys })
own_after (del key) mine = Some (record mine { keys = without_at bytes_eq key mine.keys })
own_after (nput number value) mine = Some (record mine { numbers = with_pair int_lt number value mine.numbers })
own_after (ndel number) mine = Some (record mine { numbers = without_at int_eq number mine.numbers })
own_after drop mine = Some (record { keys = []; numbers = [] })
own_after other mine = None

-- the lines that would make some records, each by a request for its key and value
abbrev pub lines_by : {K : Type 0} → (K → List ℕ → Request) → List (Record K) → List (List Word)
lines_by request records = map (λ r. request_words r.tenant (request r.key r.value)) records

-- those of the records under keys, and of those under numbers
abbrev pub key_lines : Records → List (List Word)
key_lines records = lines_by put records.keys

abbrev pub number_lines : Records → List (List Word)
number_lines records = lines_by nput records.numbers

-- A dump is the lines that would make all records, by tenant and key, then by tenant and number, then their count.
abbrev pub dump_of : Records → List (List Word)
dump_of records = lines_by put records.keys ++ lines_by nput records.numbers
    ++ end_words (length records.keys + length records.numbers) ∷ []

-- what tells of a tree: its leaves, and its inner nodes of 2 to 4, 5 to 16, 17 to 32, 33 to 48 and 49 to 256 children
abbrev pub count_words : List ℕ → WellFormedTreeStats → List Word
count_words tree counts = name tree ∷ natural counts.num_leaf ∷ natural counts.num_node4 ∷ natural counts.num_node16
    ∷ natural counts.num_node32 ∷ natural counts.num_node48 ∷ natural counts.num_node256 ∷ []

-- An audit tells so of the full keys of all records under keys, and of those of all under numbers.
abbrev pub audit_lines : Records → List (List Word)
audit_lines records = count_words (codes "bytes") (audit_of full_key_of records.keys)
    ∷ count_words (codes "numbers") (audit_of number_key_of records.numbers) ∷ []

-- the reply to a command, line by line; a line that spells no command is bad
abbrev pub command_reply : Option Command → Records → List (List Word)
command_reply None records = (name (codes "bad") ∷ []) ∷ []
command_reply (Some (of_tenant tenant request)) records = own_reply request (own tenant records)
command_reply (Some dump) records = dump_of records
command_reply (Some audit) records = audit_lines records

-- the records where a tenant holds something else, if it does
abbrev pub with_changed : ℕ → Option Own → Records → Records
with_changed tenant None records = records
with_changed tenant (Some mine) records = with_own tenant mine records

-- the records after a command
abbrev pub command_after : Option Command → Records → Records
command_after (Some (of_tenant tenant request)) records =
    with_changed tenant (own_after request (own tenant records)) records
command_after other records = records
