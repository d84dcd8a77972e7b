-- How many nodes a line reads, told by the records alone, and by how many bytes of a prefix a node stores.
use Rattle.std.specs.Prelude.{◌≡◌, ℕ, int_lt, ◌+◌, ◌-◌, ◌^◌, ◌≤◌, ◌==◌, not, min, bytes_eq}
use Rattle.std.specs.Prelude.{if◌then◌else◌, List, [], length}
use Rattle.std.specs.Prelude.{Bool, map, filter, Option, Some, IsSome, ℤ}
use Rattle.std.specs.Int.{to_be_bytes, w32}
use Rattle.std.specs.Ordering.{int_eq}
use Rattle.std.specs.declared.ops.Bound.{Bound}
use Rattle.std.specs.declared.ops.Bound.TheVariants.{Included, Excluded}
use Rattle.art_bytes.specs.Keys.{common_prefix, is_below}
use Rattle.art_arena.specs.tree.Fronts.{distinct}
use Rattle.art_arena.specs.tree.TreeOf.{tree_of}
use Rattle.art_operations.specs.NodeCounts.{node_count}
use Rattle.art_operations.specs.Openings.{part_reads, range_reads}
use Rattle.art_arena.specs.tree.Paths.{path_of}
use Rattle.art_walks.specs.MapReads.{look_up_reads, of_tree}
use Rattle.art_lines.specs.Commands.{get, find, list, span, nget, nspan, drop, Command, of_tenant}
use Rattle.art_bytes.specs.Laws.{pair_key}
use Rattle.art_lines.specs.Keys.{full_key}
use Rattle.art_engine.specs.Keys.{full_key_of, number_key_of}
use Rattle.art_lines.specs.Reading.{command_of}
use Rattle.art_engine.specs.Records.{Records, own}
use Rattle.art_engine.specs.Replies.{value_at, front_at, pairs_with_prefix, pairs_from_to, numbers_from_to}

-- At least so many nodes are read, and at most so many.
pub record Visits : Type 0 where
  pub least : ℕ
  pub most : ℕ

abbrev pub exactly : ℕ → Visits
exactly n = record { least = n; most = n }

module _ {X : Type 0} (key : X → List ℕ) where
  -- how many nodes the path of a full key has in the tree of some records
  abbrev pub path_nodes : List X → List ℕ → ℕ
  path_nodes xs full = of_tree (λ t. length (path_of t full)) (tree_of key xs)

  module _ (P : ℕ) (xs : List X) where
    -- how many of them a look-up reads: up to one with whose prefix, as it is stored, the full key doesn't go on
    abbrev pub look_up_nodes : List ℕ → ℕ
    look_up_nodes full = of_tree (look_up_reads P full) (tree_of key xs)

    -- what is read there to find the first and the last record whose full key begins with a front
    abbrev pub part_opening : List ℕ → ℕ
    part_opening front = of_tree (λ t. part_reads key P t front) (tree_of key xs)

    -- or whose full key is between two bounds
    abbrev pub range_opening : Bound (List ℕ) → Bound (List ℕ) → ℕ
    range_opening low high = of_tree (λ t. range_reads key P t low high) (tree_of key xs)

    -- What is read and freed to cut a tenant's records out: both ends of what lies below its four bytes, and the nodes
    -- there, a leaf for each record and an inner node for each of the different longest fronts that neighbours share.
    abbrev pub cut_nodes : (X → ℕ) → ℕ → ℕ
    cut_nodes tenant_of tenant =
        part_opening (full_key tenant []) + node_count key (filter (λ x. tenant_of x == tenant) xs)

-- A listing of so many records reads a leaf for each, and so many nodes to find the first and the last of them. The
-- greatest count stays.
abbrev pub listed_after : ℕ → ℕ → ℕ
listed_after opening records = records + min opening (2 ^ 64 - 1 - records)

-- so are listed a tenant's keys with a prefix, those from one up to another, and its numbers from one to another
abbrev pub list_nodes : ℕ → ℕ → List ℕ → Records → ℕ
list_nodes P tenant front records =
    listed_after (part_opening full_key_of P records.keys (full_key tenant front))
    (length (pairs_with_prefix front (own tenant records).keys))

abbrev pub span_nodes : ℕ → ℕ → List ℕ → List ℕ → Records → ℕ
span_nodes P tenant low high records =
    listed_after
    (range_opening full_key_of P records.keys (Included (full_key tenant low)) (Excluded (full_key tenant high)))
    (length (pairs_from_to low high (own tenant records).keys))

abbrev pub number_span_nodes : ℕ → ℕ → ℤ → ℤ → Records → ℕ
number_span_nodes P tenant low high records =
    listed_after
    (range_opening number_key_of P records.numbers (Included (pair_key (tenant, low)))
    (Included (pair_key (tenant, high))))
    (length (numbers_from_to low high (own tenant records).numbers))

-- A drop cuts both trees. The greatest count stays.
abbrev pub drop_nodes : ℕ → ℕ → Records → ℕ
drop_nodes P tenant records =
    min (cut_nodes full_key_of P records.keys (λ r. r.tenant) tenant
    + cut_nodes number_key_of P records.numbers (λ r. r.tenant) tenant) (2 ^ 64 - 1)

-- What a command reads: a look-up of one record nodes of the path of its full key, another what its listing reads, a
-- drop as above, and all others nothing that counts. `P` is how many bytes of a prefix a node stores.
abbrev pub visits_of : ℕ → Option Command → Records → Visits
visits_of P (Some (of_tenant t (get key))) records = exactly (look_up_nodes full_key_of P records.keys (full_key t key))
visits_of P (Some (of_tenant t (find key))) records =
    exactly (look_up_nodes full_key_of P records.keys (full_key t key))
visits_of P (Some (of_tenant t (list front))) records = exactly (list_nodes P t front records)
visits_of P (Some (of_tenant t (span low high))) records =
    if is_below high low then exactly 0 else exactly (span_nodes P t low high records)
visits_of P (Some (of_tenant t (nget number))) records =
    exactly (look_up_nodes number_key_of P records.numbers (pair_key (t, number)))
visits_of P (Some (of_tenant t (nspan low high))) records =
    if int_lt high low then exactly 0 else exactly (number_span_nodes P t low high records)
visits_of P (Some (of_tenant t drop)) records = exactly (drop_nodes P t records)
visits_of P other records = exactly 0

-- What a look-up reads of the records under keys, and what of those under numbers: it reads one of both maps alone.
abbrev pub key_visits : ℕ → Option Command → Records → Visits
key_visits P (Some (of_tenant t (nget number))) records = exactly 0
key_visits P (Some (of_tenant t (nspan low high))) records = exactly 0
key_visits P command records = visits_of P command records

abbrev pub number_visits : ℕ → Option Command → Records → Visits
number_visits P (Some (of_tenant t (nget number))) records = visits_of P (Some (of_tenant t (nget number))) records
number_visits P (Some (of_tenant t (nspan low high))) records =
    visits_of P (Some (of_tenant t (nspan low high))) records
number_visits P command records = exactly 0

-- what a line reads: one that finds no memory reads nothing that counts
abbrev pub line_visits : ℕ → Bool → List ℕ → Records → Visits
line_visits P memory line records = if memory then exactly 0 else visits_of P (command_of line) records

-- so many nodes
abbrev pub IsWithin : Visits → ℕ → Type 0
IsWithin v n = (v.least ≤ n) × (n ≤ v.most)

-- a count grew by this number; the greatest count stays
abbrev pub GrewBy : ℕ → ℕ → ℕ → Type 0
GrewBy n old new = old ≤ 2 ^ 64 - 1 → new ≡ min (old + n) (2 ^ 64 - 1)

-- it grew by no more than this
abbrev pub GrewUpTo : ℕ → ℕ → ℕ → Type 0
GrewUpTo most old new = (n : ℕ) × (n ≤ most) × GrewBy n old new

-- A count grew by so many; the greatest count stays.
pub record Grew (v : Visits) (old new : ℕ) : Type 0 where
  pub least : min (old + v.least) (2 ^ 64 - 1) ≤ new
  pub most : new ≤ old + v.most
  pub fits : v.least ≤ 2 ^ 64 - 1

-- A look-up of one record reads few nodes, whatever others store.
abbrev pub IsShort : Option Command → ℕ → Type 0
IsShort (Some (of_tenant tenant (get key))) n = n ≤ length key + 5
IsShort (Some (of_tenant tenant (find key))) n = n ≤ length key + 5
IsShort (Some (of_tenant tenant (nget number))) n = n ≤ 13
IsShort other n = Unit {0}

-- how many different longest fronts a tenant's four bytes share with those of other tenants that have such a record
abbrev pub fronts_shared : {X : Type 0} → (X → ℕ) → ℕ → List X → ℕ
fronts_shared tenant_of tenant xs =
    length (distinct bytes_eq (map (λ x. common_prefix (to_be_bytes w32 tenant) (to_be_bytes w32 (tenant_of x)))
    (filter (λ x. not (tenant_of x == tenant)) xs)))

-- So many are the nodes of a full key's path in the tree of the tenant's own records alone, and one for each front that
-- its four bytes share with those of others, at most four.
pub record IsOwnPath {X : Type 0} (key : X → List ℕ) (tenant_of : X → ℕ) (tenant : ℕ) (full : List ℕ) (xs : List X)
    (n : ℕ) : Type 0 where
  pub path : n ≡ path_nodes key (filter (λ x. tenant_of x == tenant) xs) full + fronts_shared tenant_of tenant xs
  pub few : fronts_shared tenant_of tenant xs ≤ 4

-- What a look-up reads that finds a record.
abbrev pub ReadsOwnPath : Option Command → Records → ℕ → Type 0
ReadsOwnPath (Some (of_tenant tenant (get key))) records n = IsSome (value_at bytes_eq key (own tenant records).keys)
    → IsOwnPath full_key_of (λ r. r.tenant) tenant (full_key tenant key) records.keys n
ReadsOwnPath (Some (of_tenant tenant (find key))) records n = IsSome (front_at key (own tenant records).keys)
    → IsOwnPath full_key_of (λ r. r.tenant) tenant (full_key tenant key) records.keys n
ReadsOwnPath (Some (of_tenant tenant (nget number))) records n =
    IsSome (value_at int_eq number (own tenant records).numbers)
    → IsOwnPath number_key_of (λ r. r.tenant) tenant (pair_key (tenant, number)) records.numbers n
ReadsOwnPath other records n = Unit {0}
