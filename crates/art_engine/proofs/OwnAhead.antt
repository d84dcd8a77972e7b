-- What was read ahead of lines are the first nodes of their own paths, and so few.
use Rattle.std.proofs.Common.{◌≡◌, ℕ, suc, ◌+◌, ◌<◌, ◌≤◌, Bool, true, false, Some, Option, List, [], ◌∷◌, length, map, refl, sym, ap, subst, ◌∙◌, arith, inl, inr}
use Rattle.std.specs.Global.{Vec}
use Rattle.std.specs.List.{AllByRecursion}
use Rattle.std.specs.Prelude.{None, int_lt}
use Rattle.art_nodes.proofs.Common.{Name}
use Rattle.art_arena.proofs.Common.{Arena, Tree, all_weaker, tree_of}
use Rattle.std.specs.Int.{w64}
use Rattle.std.proofs.lemmas.Bool.{cases_Bool, cond-true, cond-false}
use Rattle.art_bytes.proofs.Common.{big_endian, flipped, is_below, pair_key}
use Rattle.art_lines.specs.Commands.{Request}
use Rattle.art_lines.proofs.Common.{audit, del, drop, dump, find, full_key, get, list, ndel, nget, nput, nspan, of_tenant, over, put, span}
use Rattle.art_lines.specs.Reading.{command_of}
use Rattle.art_map.specs.Contents.{Contents}
use Rattle.art_operations.specs.Runs.{HoldsTreeOf}
use Rattle.art_arena.specs.tree.Paths.{path_of}
use Rattle.art_walks.specs.MapReads.{of_tree}
use Rattle.art_engine.specs.Ahead.{AreOnOwnPath, AreOnPath, is_in_numbers, nodes_to, path_ahead}
use Rattle.art_engine.specs.OwnAhead.{AheadIsOwn, AreReadAhead, HoldRecords, IsOwnAhead, IsWithinOwnPath, OwnPathsAreOwn, OwnWaysArePaths, own_path_nodes, path_nodes_at}
use Rattle.art_engine.specs.ReadAhead.{IsOnOwnWay, IsOnWayOf, IsReadAhead}
use Rattle.art_engine.specs.declared.read_ahead.line.Line.{Line}
use Rattle.art_engine.proofs.Terms.{AreRecords, IsOwnPath, KeyRecord, NumberPair, NumberRecord, Pair, Records, all_records_of, full_key_of, number_key_of, number_record_of, own, path_nodes, record_of}
use Rattle.art_engine.proofs.Changing.{keys_are}
use Rattle.art_engine.proofs.Conflicts.{bytes_of}
use Rattle.art_engine.proofs.CountLaws.{own_way_of, own_way_of_number}
use Rattle.art_engine.proofs.MappedReads.{paths_by_keys}
use Rattle.art_engine.proofs.NumberPlaces.{are_in_order, number_bytes, number_keys_are}
use Rattle.art_engine.proofs.LandedLines.{all_landed}
use Rattle.art_engine.proofs.PathsAhead.{first_few, root_first}

-- no names are on any path
on_path_none : (P : ℕ) (keys : Arena (Vec ℕ) (Vec ℕ)) (ps : List Pair) (numbers : Arena (List ℕ) (Vec ℕ)) (ns : List NumberPair) (b : Bool) (o : Option (List ℕ)) → AreOnPath P keys ps numbers ns b o []
on_path_none P keys ps numbers ns b None = refl
on_path_none P keys ps numbers ns true (Some full) = tt
on_path_none P keys ps numbers ns false (Some full) = tt

module _ (P : ℕ) (keys : Arena (Vec ℕ) (Vec ℕ)) (keys_root : Option Name) (ps : List Pair) (numbers : Arena (List ℕ) (Vec ℕ)) (numbers_root : Option Name) (ns : List NumberPair)
    (keys_held : HoldsTreeOf (λ k. k.items) P keys keys_root ps) (numbers_held : HoldsTreeOf (λ k. k) P numbers numbers_root ns) where
  -- a way in a line's own map is on the path of the key that it goes by
  on_path : (line : Line) → IsOnOwnWay keys keys_root numbers numbers_root line → AreOnPath P keys ps numbers ns line.of_number (Some line.key.items) line.visited.items
  on_path line own = go line.of_number own
    where
      go : (b : Bool) → IsOnWayOf keys keys_root numbers numbers_root b line → AreOnPath P keys ps numbers ns b (Some line.key.items) line.visited.items
      go true way = root_first P numbers line.key.items (λ k. k) numbers_root ns line.visited.items numbers_held way.ahead.way
      go false way = root_first P keys line.key.items (λ k. k.items) keys_root ps line.visited.items keys_held way.ahead.way

  -- that is its own
  read_ahead : (line : Line) → IsOnOwnWay keys keys_root numbers numbers_root line → IsReadAhead P keys ps numbers ns line
  read_ahead line own = record { path = go line.visited.items refl; told = line.told }
    where
      go : (names : List Name) → line.visited.items ≡ names → AreOnOwnPath P keys ps numbers ns (command_of line.text.items) line.visited.items
      go [] none = subst (AreOnOwnPath P keys ps numbers ns (command_of line.text.items)) (sym none) (on_path_none P keys ps numbers ns (is_in_numbers (command_of line.text.items)) (path_ahead (command_of line.text.items)))
      go (n ∷ names) some =
          let long : suc (length names) ≡ line.read = ap length (sym some) ∙ line.told in
          let read : 0 < line.read + line.left = omega (arith, long) in
          subst (λ b. AreOnPath P keys ps numbers ns b (path_ahead (command_of line.text.items)) line.visited.items) (line.map read)
          (subst (λ o. AreOnPath P keys ps numbers ns line.of_number o line.visited.items) (sym (line.path read)) (on_path line own))

  pub all_read_ahead : (lines : List Line) → AllByRecursion (IsOnOwnWay keys keys_root numbers numbers_root) lines → AllByRecursion (IsReadAhead P keys ps numbers ns) lines
  all_read_ahead lines own = all_weaker (IsOnOwnWay keys keys_root numbers numbers_root) (IsReadAhead P keys ps numbers ns) read_ahead lines own

-- a path has as many nodes as it is long
nodes_long : {X : Type 0} (full : List ℕ) (o : Option (Tree X)) → length (nodes_to full o) ≡ of_tree (λ t. length (path_of t full)) o
nodes_long full None = refl
nodes_long full (Some t) = refl

module _ (P : ℕ) (keys : Contents (Vec ℕ) (Vec ℕ)) (numbers : Contents (List ℕ) (Vec ℕ)) (records : Records) (hold : HoldRecords P keys numbers records) where
  -- names on a path are no more than it has nodes in the tree of the records
  names_few : (b : Bool) (o : Option (List ℕ)) (names : List Name) → AreOnPath P keys.nodes keys.pairs numbers.nodes numbers.pairs b o names → length names ≤ path_nodes_at b o records
  names_few b None names none = let long = ap length none in omega (arith, long)
  names_few true (Some full) names first =
      let few = first_few P numbers.nodes names (nodes_to full (tree_of number_bytes numbers.pairs)) first in
      let long = nodes_long full (tree_of number_bytes numbers.pairs) in
      let same = paths_by_keys number_bytes number_key_of numbers.pairs (map number_record_of numbers.pairs) (number_keys_are numbers.pairs hold.numbers_are.stand) full in
      let held : path_nodes number_key_of (map number_record_of numbers.pairs) full ≡ path_nodes number_key_of records.numbers full = ap (λ (r : Records). path_nodes number_key_of r.numbers full) hold.records_are in
      omega (arith, few, long, same, held)
  names_few false (Some full) names first =
      let few = first_few P keys.nodes names (nodes_to full (tree_of bytes_of keys.pairs)) first in
      let long = nodes_long full (tree_of bytes_of keys.pairs) in
      let same = paths_by_keys bytes_of full_key_of keys.pairs (map record_of keys.pairs) (keys_are keys.pairs hold.keys_are.stand.full) full in
      let held : path_nodes full_key_of (map record_of keys.pairs) full ≡ path_nodes full_key_of records.keys full = ap (λ (r : Records). path_nodes full_key_of r.keys full) hold.records_are in
      omega (arith, few, long, same, held)

  line_few : (line : Line) → IsReadAhead P keys.nodes keys.pairs numbers.nodes numbers.pairs line → line.read ≤ own_path_nodes (command_of line.text.items) records
  line_few line is =
      let few = names_few (is_in_numbers (command_of line.text.items)) (path_ahead (command_of line.text.items)) line.visited.items is.path in
      let told = is.told in
      omega (arith, few, told)

  pub are_read_ahead : (lines : List Line) → AllByRecursion (IsOnOwnWay keys.nodes keys.root numbers.nodes numbers.root) lines → AreReadAhead P records lines
  are_read_ahead lines own =
      let paths = all_read_ahead P keys.nodes keys.root keys.pairs numbers.nodes numbers.root numbers.pairs hold.keys_held hold.numbers_held lines own in
      record {
        keys = keys;
        numbers = numbers;
        hold = hold;
        paths = paths;
        few = all_weaker (IsReadAhead P keys.nodes keys.pairs numbers.nodes numbers.pairs) (λ (line : Line). line.read ≤ own_path_nodes (command_of line.text.items) records) line_few lines paths;
        landed = all_landed P keys numbers records hold lines own;
      }

-- fewer than the nodes of an own path
within_own : {X : Type 0} (key : X → List ℕ) (tenant_of : X → ℕ) (t : ℕ) (full : List ℕ) (xs : List X) (n : ℕ) → n ≤ path_nodes key xs full → IsOwnPath key tenant_of t full xs (path_nodes key xs full) → IsWithinOwnPath key tenant_of t full xs n
within_own key tenant_of t full xs n few own = record { path = let path = own.path in omega (arith, few, path); few = own.few }

-- the key whose path may be read ahead is the tenant's
own_key : (t : ℕ) (request : Request) (full : List ℕ) → path_ahead (Some (of_tenant t request)) ≡ Some full → (key : List ℕ) × (full ≡ full_key t key)
own_key t (get key) full is = (key, let e : full_key t key ≡ full = cc in sym e)
own_key t (find key) full is = (key, let e : full_key t key ≡ full = cc in sym e)
own_key t (list front) full is = (front, let e : full_key t front ≡ full = cc in sym e)
own_key t (over key value) full is = (key, let e : full_key t key ≡ full = cc in sym e)
own_key t (del key) full is = (key, let e : full_key t key ≡ full = cc in sym e)
own_key t (span low high) full is = elim (cases_Bool (is_below high low)) [
  | inl out ↦ let none = sym (cond-true (is_below high low) None (Some (full_key t low)) out) ∙ is in absurd (cc)
  | inr fine ↦ (low, let some = sym (cond-false (is_below high low) None (Some (full_key t low)) fine) ∙ is in let e : full_key t low ≡ full = cc in sym e)
]
own_key t (nget number) full is = (big_endian 8 (flipped w64 number), let e : pair_key (t, number) ≡ full = cc in sym e)
own_key t (ndel number) full is = (big_endian 8 (flipped w64 number), let e : pair_key (t, number) ≡ full = cc in sym e)
own_key t (nspan low high) full is = elim (cases_Bool (int_lt high low)) [
  | inl out ↦ let none = sym (cond-true (int_lt high low) None (Some (pair_key (t, low))) out) ∙ is in absurd (cc)
  | inr fine ↦ (big_endian 8 (flipped w64 low), let some = sym (cond-false (int_lt high low) None (Some (pair_key (t, low))) fine) ∙ is in let e : pair_key (t, low) ≡ full = cc in sym e)
]
own_key t (put key value) full is = absurd (cc)
own_key t (nput number value) full is = absurd (cc)
own_key t drop full is = absurd (cc)

own_at : (in_numbers : Bool) (t : ℕ) (o : Option (List ℕ)) (records : Records) (n : ℕ) → AreRecords records → ((full : List ℕ) → o ≡ Some full → (key : List ℕ) × (full ≡ full_key t key))
    → n ≤ path_nodes_at in_numbers o records → IsOwnAhead in_numbers t o records n
own_at in_numbers t None records n are its few = omega arith
own_at true t (Some full) records n are its few = λ some.
    let is = its full refl in
    within_own number_key_of (λ (r : NumberRecord). r.tenant) t full records.numbers n few
    (subst (λ k. IsOwnPath number_key_of (λ (r : NumberRecord). r.tenant) t k records.numbers (path_nodes number_key_of records.numbers k)) (sym is.1) (own_way_of_number t is.0 records are some))
own_at false t (Some full) records n are its few = λ some.
    let is = its full refl in
    within_own full_key_of (λ (r : KeyRecord). r.tenant) t full records.keys n few
    (subst (λ k. IsOwnPath full_key_of (λ (r : KeyRecord). r.tenant) t k records.keys (path_nodes full_key_of records.keys k)) (sym is.1) (own_way_of t is.0 records are some))

pub own_paths_are_own : OwnPathsAreOwn
own_paths_are_own records None n are few = omega arith
own_paths_are_own records (Some (of_tenant t request)) n are few =
    own_at (is_in_numbers (Some (of_tenant t request))) t (path_ahead (Some (of_tenant t request))) records n are (own_key t request) few
own_paths_are_own records (Some dump) n are few = omega arith
own_paths_are_own records (Some audit) n are few = omega arith

pub ahead_is_own : AheadIsOwn
ahead_is_own P keys numbers records command names hold on =
    let stand : AreRecords (all_records_of keys.pairs numbers.pairs) = record {
      keys_in_order = hold.keys_are.stand.in_order;
      numbers_in_order = are_in_order numbers.pairs hold.numbers_are;
      keys_fit = hold.keys_are.fit;
      numbers_fit = hold.numbers_are.fit;
    } in
    own_paths_are_own records command (length names) (subst AreRecords hold.records_are stand)
    (names_few P keys numbers records hold (is_in_numbers command) (path_ahead command) names on)

pub own_ways_are_paths : OwnWaysArePaths
own_ways_are_paths P keys numbers records line hold own =
    read_ahead P keys.nodes keys.root keys.pairs numbers.nodes numbers.root numbers.pairs hold.keys_held hold.numbers_held line own
