-- What is read ahead of a line, told by the records: nodes of its own tenant's path, and at most four more.
use Rattle.std.specs.Prelude.{◌≡◌, ◌≢◌, ℕ, ◌+◌, ◌≤◌, ◌==◌, Bool, true, false, List, [], length, filter}
use Rattle.std.specs.Prelude.{Option, Some, None}
use Rattle.std.specs.List.{AllByRecursion}
use Rattle.art_lines.specs.Commands.{Command, of_tenant}
use Rattle.art_lines.specs.Reading.{command_of}
use Rattle.art_map.specs.Contents.{Contents}
use Rattle.art_operations.specs.Runs.{HoldsTreeOf}
use Rattle.std.specs.Global.{Vec}
use Rattle.art_nodes.specs.Name.{Name}
use Rattle.art_engine.specs.Ahead.{AreOnOwnPath, is_in_numbers, path_ahead}
use Rattle.art_engine.specs.Counts.{fronts_shared, path_nodes}
use Rattle.art_engine.specs.Keys.{full_key_of, number_key_of}
use Rattle.art_engine.specs.ReadAhead.{IsLandedLine, IsOnOwnWay, IsReadAhead}
use Rattle.art_engine.specs.Records.{AreRecords, Records, own}
use Rattle.art_engine.specs.Stored.{ArePairs, AreNumberPairs, all_records_of}
use Rattle.art_engine.specs.declared.read_ahead.line.Line.{Line}

-- how many nodes the path of a command's full key has in the tree of the records, if it has such a key
abbrev pub path_nodes_at : Bool → Option (List ℕ) → Records → ℕ
path_nodes_at in_numbers None records = 0
path_nodes_at true (Some full) records = path_nodes number_key_of records.numbers full
path_nodes_at false (Some full) records = path_nodes full_key_of records.keys full

abbrev pub own_path_nodes : Option Command → Records → ℕ
own_path_nodes command records = path_nodes_at (is_in_numbers command) (path_ahead command) records

-- At most so many are the nodes of a full key's path in the tree of the tenant's own records alone, and one for each
-- front that its four bytes share with those of others, at most four.
pub record IsWithinOwnPath {X : Type 0} (key : X → List ℕ) (tenant_of : X → ℕ) (tenant : ℕ) (full : List ℕ)
    (xs : List X) (n : ℕ) : Type 0 where
  pub path : n ≤ path_nodes key (filter (λ x. tenant_of x == tenant) xs) full + fronts_shared tenant_of tenant xs
  pub few : fronts_shared tenant_of tenant xs ≤ 4

-- What is read ahead of a tenant's line, if the tenant has a record in the map where its path lies.
abbrev pub IsOwnAhead : Bool → ℕ → Option (List ℕ) → Records → ℕ → Type 0
IsOwnAhead in_numbers t None records n = n ≡ 0
IsOwnAhead true t (Some full) records n = (own t records).numbers ≢ []
    → IsWithinOwnPath number_key_of (λ r. r.tenant) t full records.numbers n
IsOwnAhead false t (Some full) records n = (own t records).keys ≢ []
    → IsWithinOwnPath full_key_of (λ r. r.tenant) t full records.keys n

abbrev pub AheadOfOwn : Option Command → Records → ℕ → Type 0
AheadOfOwn (Some (of_tenant t request)) records n =
    IsOwnAhead (is_in_numbers (Some (of_tenant t request))) t (path_ahead (Some (of_tenant t request))) records n
AheadOfOwn other records n = n ≡ 0

-- Two maps hold these records.
pub record HoldRecords (P : ℕ) (keys : Contents (Vec ℕ) (Vec ℕ)) (numbers : Contents (List ℕ) (Vec ℕ))
    (records : Records) : Type 0 where
  pub keys_held : HoldsTreeOf (λ k. k.items) P keys.nodes keys.root keys.pairs
  pub numbers_held : HoldsTreeOf (λ k. k) P numbers.nodes numbers.root numbers.pairs
  pub keys_are : ArePairs keys.pairs
  pub numbers_are : AreNumberPairs numbers.pairs
  pub records_are : all_records_of keys.pairs numbers.pairs ≡ records

-- Of two maps that hold the records, what was visited ahead of each of these lines are the first nodes of the path of
-- its own full key, and as many as are told for it: no more than that path has. What its path came to tells how its
-- look-up is answered.
pub record AreReadAhead (P : ℕ) (records : Records) (lines : List Line) : Type 0 where
  pub keys : Contents (Vec ℕ) (Vec ℕ)
  pub numbers : Contents (List ℕ) (Vec ℕ)
  pub hold : HoldRecords P keys numbers records
  pub paths : AllByRecursion (IsReadAhead P keys.nodes keys.pairs numbers.nodes numbers.pairs) lines
  pub few : AllByRecursion (λ line. line.read ≤ own_path_nodes (command_of line.text.items) records) lines
  pub landed : AllByRecursion (IsLandedLine P records) lines

-- Nodes on the path of a command's full key are nodes of the path in its own tenant's tree and at most four more, if
-- that tenant has a record there.
abbrev pub OwnPathsAreOwn : Type 0
OwnPathsAreOwn = (records : Records) (command : Option Command) (n : ℕ) → AreRecords records
    → n ≤ own_path_nodes command records → AheadOfOwn command records n

-- So are the names visited ahead of a command, in two maps that hold the records.
abbrev pub AheadIsOwn : Type 0
AheadIsOwn = (P : ℕ) (keys : Contents (Vec ℕ) (Vec ℕ)) (numbers : Contents (List ℕ) (Vec ℕ)) (records : Records)
    (command : Option Command) (names : List Name) → HoldRecords P keys numbers records
    → AreOnOwnPath P keys.nodes keys.pairs numbers.nodes numbers.pairs command names
    → AheadOfOwn command records (length names)

-- A way in a line's own map, where two maps hold the records, is the first nodes of the path of its own full key, as
-- many as are told for it.
abbrev pub OwnWaysArePaths : Type 0
OwnWaysArePaths = (P : ℕ) (keys : Contents (Vec ℕ) (Vec ℕ)) (numbers : Contents (List ℕ) (Vec ℕ)) (records : Records)
    (line : Line) → HoldRecords P keys numbers records
    → IsOnOwnWay keys.nodes keys.root numbers.nodes numbers.root line
    → IsReadAhead P keys.nodes keys.pairs numbers.nodes numbers.pairs line
