-- Laws of the definitions, each proved on a function of `laws`.
use Rattle.std.specs.Prelude.{◌≡◌, ◌≢◌, ℕ, ℤ, FitsSigned, ◌^◌, ◌<◌, ◌==◌, ◌||◌, ◌&&◌, ◌↔◌, nat_lt, if◌then◌else◌}
use Rattle.std.specs.Prelude.{Bool, true, false, List, [], ◌∷◌, ◌++◌, Option, Some, None, drop, map, flat_map}
use Rattle.std.specs.Prelude.{length, replicate, codes, ◌+◌, ◌*◌, ◌-◌, ◌≤◌, min, max}
use Rattle.std.specs.Int.{w64}
use Rattle.std.specs.List.{fold}
use Rattle.art_arena.specs.tree.Changes.{IsIn}
use Rattle.art_arena.specs.tree.Tenants.{with_front}
use Rattle.art_lines.specs.Commands.{Request, put, del, nput, ndel, Command, of_tenant}
use Rattle.art_lines.specs.Reading.{command_of}
use Rattle.art_bytes.specs.Keys.{is_below, conflicts}
use Rattle.art_engine.specs.Ahead.{path_ahead}
use Rattle.art_engine.specs.FewVisits.{dropping, longest}
use Rattle.art_lines.specs.Keys.{full_key}
use Rattle.art_engine.specs.Keys.{full_key_of, number_key_of, number_of_bytes}
use Rattle.art_engine.specs.Records.{Own, KeyRecord, NumberRecord, Records, AreRecords, no_records, own, with_own}
use Rattle.art_engine.specs.Refusals.{MayRefuse}
use Rattle.art_lines.specs.Lines.{lines_of}
use Rattle.art_lines.specs.Words.{name, line_of}
use Rattle.art_engine.specs.Replies.{own_reply, own_after, command_after, dump_of}
use Rattle.art_engine.specs.Outcome.{left_by, answers, reply_to, records_after}
use Rattle.art_engine.specs.Stored.{Pair, NumberPair, AreFull, AreNumberPairs, all_records_of}

-- what is put in place for a tenant is what it holds then
abbrev pub OwnReadsBack : Type 0
OwnReadsBack = (tenant : ℕ) (mine : Own) (records : Records) → own tenant (with_own tenant mine records) ≡ mine

-- what another tenant holds is untouched by it
abbrev pub OthersAreUntouched : Type 0
OthersAreUntouched = (other tenant : ℕ) (mine : Own) (records : Records) → other ≢ tenant
    → own other (with_own tenant mine records) ≡ own other records

-- what a tenant holds, put in place again, changes nothing
abbrev pub OwnIsInPlace : Type 0
OwnIsInPlace = (tenant : ℕ) (records : Records) → AreRecords records
    → with_own tenant (own tenant records) records ≡ records

-- full keys are in order where their tenants are, and within a tenant where its keys are
abbrev pub FullKeysKeepOrder : Type 0
FullKeysKeepOrder = (t u : ℕ) (k j : List ℕ) → t < 2 ^ 32 → u < 2 ^ 32
    → is_below (full_key t k) (full_key u j) ≡ (nat_lt t u || ((t == u) && is_below k j))

-- full keys conflict where they are one tenant's and its keys do
abbrev pub FullKeysKeepConflicts : Type 0
FullKeysKeepConflicts = (t u : ℕ) (k j : List ℕ) → t < 2 ^ 32 → u < 2 ^ 32
    → conflicts (full_key t k) (full_key u j) ≡ ((t == u) && conflicts k j)

-- what a tenant holds is what the pairs of an index have under its prefix, the prefix cut off
abbrev pub OwnIsUnderPrefix : Type 0
OwnIsUnderPrefix = (tenant : ℕ) (ps : List Pair) (ns : List NumberPair) → tenant < 2 ^ 32 → AreFull ps
    → AreNumberPairs ns → own tenant (all_records_of ps ns) ≡ record {
      keys = map (λ p. (drop 4 p.0.items, p.1.items)) (with_front (λ p. p.0.items) (full_key tenant []) ps);
      numbers = map (λ p. (number_of_bytes (drop 4 p.0), p.1.items)) (with_front (λ p. p.0) (full_key tenant []) ns);
    }

-- the request of a tenant that a line asks for, if it asks for one of this tenant's
abbrev pub request_to : ℕ → Option Command → Option Request
request_to tenant (Some (of_tenant other request)) = if other == tenant then Some request else None
request_to tenant other = None

-- what a tenant holds after a request of its own
abbrev pub own_changed : Option Own → Own → Own
own_changed None mine = mine
own_changed (Some changed) mine = changed

-- a reply and the ones after it, where a tenant's request was not refused; else these alone
abbrev pub with_reply : Bool → Option Request → List ℕ → List (List ℕ) → List (List ℕ)
with_reply false (Some request) reply rest = reply ∷ rest
with_reply false None reply rest = rest
with_reply true request reply rest = rest

-- Of the answers to some lines, each of which finds no memory where `true` stands beside it, the replies to those of a
-- tenant's.
abbrev pub replies_among : ℕ → Records → List (List ℕ × Bool) → List (List ℕ)
replies_among tenant records [] = []
replies_among tenant records (l ∷ lines) =
    with_reply l.1 (request_to tenant (command_of l.0)) (reply_to records l.0)
    (replies_among tenant (left_by l.1 records l.0) lines)

-- what a tenant holds after a line: what its request leaves, where the line asks for one and is not refused
abbrev pub own_after_line : Bool → Option Request → Own → Own
own_after_line false (Some request) mine = own_changed (own_after request mine) mine
own_after_line false None mine = mine
own_after_line true request mine = mine

-- the reply to a tenant's request, if there is one
abbrev pub own_output : Option Request → Own → List ℕ
own_output None mine = []
own_output (Some request) mine = flat_map line_of (own_reply request mine)

-- The same replies from what the tenant holds alone, and what it holds then: the lines of others are passed over.
abbrev pub own_replies : ℕ → Own → List (List ℕ × Bool) → List (List ℕ)
own_replies tenant mine [] = []
own_replies tenant mine (l ∷ lines) =
    with_reply l.1 (request_to tenant (command_of l.0)) (own_output (request_to tenant (command_of l.0)) mine)
    (own_replies tenant (own_after_line l.1 (request_to tenant (command_of l.0)) mine) lines)

abbrev pub own_at_end : ℕ → Own → List (List ℕ × Bool) → Own
own_at_end tenant mine lines = fold (λ m l. own_after_line l.1 (request_to tenant (command_of l.0)) m) mine lines

-- a request of one tenant leaves what all others hold
abbrev pub RequestsLeaveOthers : Type 0
RequestsLeaveOthers = (other tenant : ℕ) (request : Request) (records : Records) → other ≢ tenant
    → own other (command_after (Some (of_tenant tenant request)) records) ≡ own other records

-- whatever others send, the replies to a tenant's lines and what it holds then are those of its lines alone
abbrev pub TenantsStandAlone : Type 0
TenantsStandAlone = (tenant : ℕ) (records : Records) (lines : List (List ℕ × Bool))
    → (replies_among tenant records lines ≡ own_replies tenant (own tenant records) lines)
    × (own tenant (fold (λ r l. left_by l.1 r l.0) records lines) ≡ own_at_end tenant (own tenant records) lines)

-- while a tenant has another key, whether the deletion of one may find no memory goes by what it holds alone
abbrev pub DeletionsGoByOwnKeys : Type 0
DeletionsGoByOwnKeys = (tenant : ℕ) (key : List ℕ) (records : Records) (other : KeyRecord) → tenant < 2 ^ 32
    → AreRecords records → IsIn other records.keys → other.tenant ≡ tenant → other.key ≢ key
    → MayRefuse records (of_tenant tenant (del key))
    ↔ MayRefuse (with_own tenant (own tenant records) no_records) (of_tenant tenant (del key))

-- likewise under numbers
abbrev pub DeletionsGoByOwnNumbers : Type 0
DeletionsGoByOwnNumbers = (tenant : ℕ) (number : ℤ) (records : Records) (other : NumberRecord) → tenant < 2 ^ 32
    → FitsSigned w64 number → AreRecords records → IsIn other records.numbers → other.tenant ≡ tenant
    → other.key ≢ number → MayRefuse records (of_tenant tenant (ndel number))
    ↔ MayRefuse (with_own tenant (own tenant records) no_records) (of_tenant tenant (ndel number))

-- A key that is put in and answered `new`, and is then deleted, leaves the records as they were; so what a dump and an
-- audit tell of them is as it was.
abbrev pub PutsAreUndone : Type 0
PutsAreUndone = (tenant : ℕ) (key value : List ℕ) (records : Records) → AreRecords records
    → own_reply (put key value) (own tenant records) ≡ (name (codes "new") ∷ []) ∷ []
    → command_after (Some (of_tenant tenant (del key)))
    (command_after (Some (of_tenant tenant (put key value))) records) ≡ records

-- likewise under numbers
abbrev pub NumberPutsAreUndone : Type 0
NumberPutsAreUndone = (tenant : ℕ) (number : ℤ) (value : List ℕ) (records : Records) → AreRecords records
    → own_reply (nput number value) (own tenant records) ≡ (name (codes "new") ∷ []) ∷ []
    → command_after (Some (of_tenant tenant (ndel number)))
    (command_after (Some (of_tenant tenant (nput number value))) records) ≡ records

-- what a dump writes
abbrev pub dump_text : Records → List ℕ
dump_text records = flat_map line_of (dump_of records)

-- dumps are equal exactly where the records are
abbrev pub DumpsTellRecords : Type 0
DumpsTellRecords = (r s : Records) → AreRecords r → AreRecords s → (dump_text r ≡ dump_text s) ↔ (r ≡ s)

-- The lines of a dump, where no record is and each finds memory, are answered `new` once a record and then `bad`, and
-- leave the records.
abbrev pub DumpsAreReadBack : Type 0
DumpsAreReadBack = (records : Records) → AreRecords records
    → let lines : List (List ℕ) = lines_of (dump_text records) in
    (answers no_records (map (λ line. (line, false)) lines)
    ≡ flat_map line_of (replicate (length records.keys + length records.numbers) (name (codes "new") ∷ [])
    ++ (name (codes "bad") ∷ []) ∷ []))
    × (fold records_after no_records lines ≡ records)

-- A drop reads and frees at least as many nodes as the tenant has records, the greatest count stays, and at most twice
-- as many, and 20 for each byte of the longest full key and for two.
abbrev pub DropsReadFew : Type 0
DropsReadFew = (tenant : ℕ) (records : Records)
    → let n : ℕ = length (own tenant records).keys + length (own tenant records).numbers in
    let L : ℕ = max (longest full_key_of records.keys) (longest number_key_of records.numbers) in
    (min n (2 ^ 64 - 1) ≤ (dropping tenant records).least) × ((dropping tenant records).most ≤ 20 * (L + 2) + 2 * n)

-- The way along which nodes are read ahead of a tenant's line is that of a full key of this tenant.
abbrev pub PathsAreOwn : Type 0
PathsAreOwn = (tenant : ℕ) (request : Request) (full : List ℕ)
    → path_ahead (Some (of_tenant tenant request)) ≡ Some full → (key : List ℕ) × (full ≡ full_key tenant key)
