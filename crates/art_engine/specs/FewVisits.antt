-- How many nodes a line reads at least and at most: told without the tree, by how many records there are, and by how
-- many bytes keys have.
use Rattle.std.specs.Prelude.{ℕ, int_lt, ◌+◌, ◌-◌, ◌*◌, ◌^◌, ◌≤◌, ◌==◌, min, max, if◌then◌else◌, List, [], ◌∷◌, length}
use Rattle.std.specs.Prelude.{filter, Option, Some, is_some, bytes_eq, Bool}
use Rattle.std.specs.Ordering.{int_eq}
use Rattle.art_bytes.specs.Keys.{is_below}
use Rattle.art_bytes.specs.Laws.{pair_key}
use Rattle.art_operations.specs.NodeCounts.{node_count}
use Rattle.art_lines.specs.Commands.{get, find, nget, list, span, nspan, drop, Command, of_tenant}
use Rattle.art_lines.specs.Keys.{full_key}
use Rattle.art_engine.specs.Counts.{Visits, exactly, path_nodes, visits_of}
use Rattle.art_engine.specs.Keys.{full_key_of, number_key_of}
use Rattle.art_engine.specs.Records.{Records, AreRecords, own}
use Rattle.art_engine.specs.Replies.{value_at, front_at, pairs_with_prefix, pairs_from_to, numbers_from_to}

-- A listing reads a leaf for each record that is listed, and what finds the first and the last of them: at most so many
-- nodes by the bytes of the prefix or of the longer bound, and by those of the longest full key.
abbrev pub listing : ℕ → ℕ → ℕ → Visits
listing records bound longest = record { least = records; most = records + 2 * (bound + 6) * (longest + 2) }

-- how many bytes the longest full key has, 0 where there is none
abbrev pub longest : {X : Type 0} → (X → List ℕ) → List X → ℕ
longest key [] = 0
longest key (x ∷ xs) = max (length (key x)) (longest key xs)

-- What dropping what a tenant holds reads and frees: the nodes that lie below its four bytes in both trees, a leaf for
-- each of its records and an inner node for each of the different longest fronts that neighbours among them share, and
-- what is read to find the first and the last of them: in each tree that is there its root at least. The greatest count
-- stays.
abbrev pub dropping : ℕ → Records → Visits
dropping tenant records =
    let freed : ℕ = node_count full_key_of (filter (λ r. r.tenant == tenant) records.keys)
    + node_count number_key_of (filter (λ r. r.tenant == tenant) records.numbers) in
    let roots : ℕ = min 1 (length records.keys) + min 1 (length records.numbers) in
    let L : ℕ = max (longest full_key_of records.keys) (longest number_key_of records.numbers) in
    record { least = min (roots + freed) (2 ^ 64 - 1); most = 20 * (L + 2) + freed }

-- A look-up of one record reads at most the path of its full key, and the whole path where it finds one.
abbrev pub looking_up : Bool → ℕ → Visits
looking_up found path = record { least = if found then path else 0; most = path }

-- Between these numbers is what a look-up, a listing or a drop reads; of other commands that is told as it is.
abbrev pub visit_bounds : ℕ → Option Command → Records → Visits
visit_bounds P (Some (of_tenant t (get key))) records =
    looking_up (is_some (value_at bytes_eq key (own t records).keys))
    (path_nodes full_key_of records.keys (full_key t key))
visit_bounds P (Some (of_tenant t (find key))) records =
    looking_up (is_some (front_at key (own t records).keys)) (path_nodes full_key_of records.keys (full_key t key))
visit_bounds P (Some (of_tenant t (nget number))) records =
    looking_up (is_some (value_at int_eq number (own t records).numbers))
    (path_nodes number_key_of records.numbers (pair_key (t, number)))
visit_bounds P (Some (of_tenant t (list front))) records =
    listing (length (pairs_with_prefix front (own t records).keys)) (length front) (longest full_key_of records.keys)
visit_bounds P (Some (of_tenant t (span low high))) records =
    if is_below high low then exactly 0
    else listing (length (pairs_from_to low high (own t records).keys)) (max (length low) (length high))
    (longest full_key_of records.keys)
visit_bounds P (Some (of_tenant t (nspan low high))) records =
    if int_lt high low then exactly 0
    else listing (length (numbers_from_to low high (own t records).numbers)) 8 12
visit_bounds P (Some (of_tenant t drop)) records = dropping t records
visit_bounds P command records = visits_of P command records

-- Of records that an index may hold, what a command reads lies between these bounds.
abbrev pub VisitsAreBounded : Type 0
VisitsAreBounded = (P : ℕ) (command : Option Command) (records : Records) → AreRecords records
    → ((visit_bounds P command records).least ≤ (visits_of P command records).least)
    × ((visits_of P command records).most ≤ (visit_bounds P command records).most)
