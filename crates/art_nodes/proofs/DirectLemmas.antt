-- Lemmas on a table's children as a map.
use Rattle.std.proofs.Common.{◌≡◌, ◌≢◌, ℕ, zero, suc, ◌+◌, ◌-◌, ◌<◌, ◌≤◌, List, [], ◌∷◌, ◌++◌, length, Option, Some, None, slice_set, slice_index_or, refl, ap, sym, ◌∙◌, inl, inr, arith}
use Rattle.std.specs.List.{insert, remove}
use Rattle.std.proofs.lemmas.Bool.Decides.{eqb_tells, leb_tells}
use Rattle.std.proofs.lemmas.List.{length-set}
use Rattle.std.proofs.lemmas.List.Edits.{length-insert, length-remove}
use Rattle.art_nodes.proofs.Terms.{Header, IsHeader, Name, InnerNode, IsInnerNode, with_children, IsAscendingFrom, child_at, with_child, without_child, place, children_within, StandsAt, BelongsAt, IsFirstFrom, IsLastBelow, children_from, entry_at, bytes_of, IsCountedTable, IsPartOfTable}
use Rattle.art_nodes.proofs.ChildLemmas.{IsAscendingFrom-lower, child_at-above, without_child-above, length-ascending, without_child-none}
use Rattle.art_nodes.proofs.PlaceLemmas.{place-within}
use Rattle.art_nodes.proofs.TableLemmas.{length-bytes_of, bytes-new, bytes-held, bytes-removed, byte-stands, byte-apart, byte-belongs, length-children_within, none_within, none_from, none_to, first_within, last_within, all_within_bytes}

module _ {N : Type 0} where
  pub entry_at-index : (xs : List (Option N)) (i : ℕ) (d : Option N) → i < length xs → slice_index_or xs i d ≡ entry_at xs i
  entry_at-index [] i d h = absurd (omega (arith, h))
  entry_at-index (x ∷ xs) zero d h = refl
  entry_at-index (x ∷ xs) (suc i) d h = entry_at-index xs i d (omega (arith, h))

  pub ascending-children_from : (first : ℕ) (xs : List (Option N)) → first + length xs ≤ 256 → IsAscendingFrom first (children_from first xs)
  ascending-children_from first [] h = tt
  ascending-children_from first (None ∷ xs) h = IsAscendingFrom-lower first (first + 1) (children_from (first + 1) xs) (omega arith) (ascending-children_from (first + 1) xs (omega arith))
  ascending-children_from first (Some n ∷ xs) h = (omega arith, omega arith, ascending-children_from (first + 1) xs (omega arith))

  -- a look-up by place
  pub child_at-children_from : (first i : ℕ) (xs : List (Option N)) → first + length xs ≤ 256 → child_at (children_from first xs) (first + i) ≡ entry_at xs i
  child_at-children_from first i [] h = refl
  child_at-children_from first zero (None ∷ xs) h = child_at-above (first + 1) (children_from (first + 1) xs) (first + 0) (omega arith) (ascending-children_from (first + 1) xs (omega arith))
  child_at-children_from first zero (Some n ∷ xs) h = elim (eqb_tells first (first + 0)) [
    | inl same ↦ rw same.0 refl
    | inr other ↦ absurd (other.1 (omega arith))
  ]
  child_at-children_from first (suc i) (None ∷ xs) h = let e : first + 1 + i ≡ first + suc i = omega arith in rw (← e) (child_at-children_from (first + 1) i xs (omega arith))
  child_at-children_from first (suc i) (Some n ∷ xs) h = elim (eqb_tells first (first + suc i)) [
    | inl same ↦ absurd (omega (arith, same.1))
    | inr other ↦ let e : first + 1 + i ≡ first + suc i = omega arith in rw (other.0, ← e) (child_at-children_from (first + 1) i xs (omega arith))
  ]

  -- a write by place
  pub with_child-children_from : (first i : ℕ) (xs : List (Option N)) (name : N) → first + length xs ≤ 256 → i < length xs → with_child (children_from first xs) (first + i) name ≡ children_from first (slice_set xs i (Some name))
  with_child-children_from first i [] name h within = absurd (omega (arith, within))
  with_child-children_from first zero (None ∷ xs) name h within = let e : first + 0 ≡ first = omega arith in rw e (before (first + 1) first name (children_from (first + 1) xs) (omega arith) (ascending-children_from (first + 1) xs (omega arith)))
    where
      before : (low byte : ℕ) (name : N) (cs : List (ℕ × N)) → byte < low → IsAscendingFrom low cs → with_child cs byte name ≡ (byte, name) ∷ cs
      before low byte name [] lt rises = refl
      before low byte name (c ∷ cs) lt rises = elim (leb_tells (suc c.0) byte) [
        | inl below ↦ absurd (omega (arith, below.1, rises.0))
        | inr above ↦ elim (eqb_tells c.0 byte) [
          | inl same ↦ absurd (omega (arith, same.1, rises.0))
          | inr other ↦ rw (above.0, other.0) refl
        ]
      ]
  with_child-children_from first zero (Some n ∷ xs) name h within =
      let e : first + 0 ≡ first = omega arith in
      elim (leb_tells (suc first) first) [
        | inl below ↦ absurd (omega (arith, below.1))
        | inr above ↦ elim (eqb_tells first first) [
          | inl same ↦ rw (e, above.0, same.0) refl
          | inr other ↦ absurd (other.1 refl)
        ]
      ]
  with_child-children_from first (suc i) (None ∷ xs) name h within = let e : first + 1 + i ≡ first + suc i = omega arith in rw (← e) (with_child-children_from (first + 1) i xs name (omega arith) (omega (arith, within)))
  with_child-children_from first (suc i) (Some n ∷ xs) name h within = elim (leb_tells (suc first) (first + suc i)) [
    | inl below ↦ let e : first + 1 + i ≡ first + suc i = omega arith in rw below.0 (ap (λ cs. (first, n) ∷ cs) (rw (← e) (with_child-children_from (first + 1) i xs name (omega arith) (omega (arith, within)))))
    | inr above ↦ absurd (omega (arith, above.1))
  ]

  -- a removal by place
  pub without_child-children_from : (first i : ℕ) (xs : List (Option N)) → first + length xs ≤ 256 → i < length xs → without_child (children_from first xs) (first + i) ≡ children_from first (slice_set xs i None)
  without_child-children_from first i [] h within = absurd (omega (arith, within))
  without_child-children_from first zero (None ∷ xs) h within = let e : first + 0 ≡ first = omega arith in rw e (without_child-above (first + 1) (children_from (first + 1) xs) first (omega arith) (ascending-children_from (first + 1) xs (omega arith)))
  without_child-children_from first zero (Some n ∷ xs) h within = elim (eqb_tells first (first + 0)) [
    | inl same ↦ rw same.0 refl
    | inr other ↦ absurd (other.1 (omega arith))
  ]
  without_child-children_from first (suc i) (None ∷ xs) h within = let e : first + 1 + i ≡ first + suc i = omega arith in rw (← e) (without_child-children_from (first + 1) i xs (omega arith) (omega (arith, within)))
  without_child-children_from first (suc i) (Some n ∷ xs) h within = elim (eqb_tells first (first + suc i)) [
    | inl same ↦ absurd (omega (arith, same.1))
    | inr other ↦ let e : first + 1 + i ≡ first + suc i = omega arith in rw other.0 (ap (λ cs. (first, n) ∷ cs) (rw (← e) (without_child-children_from (first + 1) i xs (omega arith) (omega (arith, within)))))
  ]

  -- the same for a whole table
  pub lookup-table : (slots : List (Option N)) (byte : ℕ) → length slots ≡ 256 → child_at (children_from 0 slots) byte ≡ entry_at slots byte
  lookup-table slots byte whole = let e : 0 + byte ≡ byte = omega arith in rw e at (child_at-children_from 0 byte slots (omega arith))

  pub write-table : (slots : List (Option N)) (byte : ℕ) (name : N) → length slots ≡ 256 → byte < 256 → children_from 0 (slice_set slots byte (Some name)) ≡ with_child (children_from 0 slots) byte name
  write-table slots byte name whole fits = let e : 0 + byte ≡ byte = omega arith in sym (rw e at (with_child-children_from 0 byte slots name (omega arith) (omega arith)))

  pub remove-table : (slots : List (Option N)) (byte : ℕ) → length slots ≡ 256 → byte < 256 → children_from 0 (slice_set slots byte None) ≡ without_child (children_from 0 slots) byte
  remove-table slots byte whole fits = let e : 0 + byte ≡ byte = omega arith in sym (rw e at (without_child-children_from 0 byte slots (omega arith) (omega arith)))

  pub ascending-table : (slots : List (Option N)) → length slots ≡ 256 → IsAscendingFrom 0 (children_from 0 slots)
  ascending-table slots whole = ascending-children_from 0 slots (omega arith)

  pub all-table : (slots : List (Option N)) → length slots ≡ 256 → children_within 0 256 (children_from 0 slots) ≡ children_from 0 slots
  all-table slots whole = all_within_bytes 0 (children_from 0 slots) (ascending-table slots whole)

  pub unchanged-table : (slots : List (Option N)) (byte : ℕ) → length slots ≡ 256 → entry_at slots byte ≡ None → without_child (children_from 0 slots) byte ≡ children_from 0 slots
  unchanged-table slots byte whole none = without_child-none (children_from 0 slots) byte (lookup-table slots byte whole ∙ none)

abbrev pub table_node : Header → List (Option Name) → InnerNode
table_node header slots = record { header = header; children = children_from 0 slots }

-- such a node is an inner node
pub IsInnerNode-table : (prefix_room room : ℕ) (header : Header) (marks : List ℕ) (slots : List (Option Name)) → IsHeader prefix_room header → IsCountedTable header marks slots → header.num_children ≤ room → IsInnerNode prefix_room room (table_node header slots)
IsInnerNode-table prefix_room room header marks slots is_header counted fits =
    let all : header.num_children ≡ length (children_from 0 slots) = counted.counts ∙ ap (λ (ks : List ℕ). length ks) counted.table.marked ∙ length-bytes_of (children_from 0 slots) in
    record { header = is_header; counts = all; ascending = ascending-table slots counted.table.whole; fits = omega (arith, all, fits) }

-- a node after an edit: its table is as it should be, and means the edited children
pub record Becomes (header : Header) (marks : List ℕ) (slots : List (Option Name)) (node : InnerNode) (children : List (ℕ × Name)) : Type 0 where
  pub counted : IsCountedTable header marks slots
  pub view : table_node header slots ≡ with_children node children

edited : (old : Header) (count : ℕ) (marks : List ℕ) (slots edit : List (Option Name)) (children : List (ℕ × Name)) → length edit ≡ 256 → children_from 0 edit
    ≡ children → marks ≡ bytes_of children → count ≡ length marks → Becomes (record old { num_children = count }) marks edit (table_node old slots) children
edited old count marks slots edit children whole same marked counts =
    let all : count ≡ length children = counts ∙ ap (λ (ks : List ℕ). length ks) marked ∙ length-bytes_of children in
    record { counted = record { table = record { whole = whole; marked = rw same marked }; counts = counts }; view = rw (all, same) refl }

module _ (header : Header) (marks : List ℕ) (slots : List (Option Name)) (byte : ℕ) (fits : byte < 256) (is : IsCountedTable header marks slots) where
  abbrev children : List (ℕ × Name)
  children = children_from 0 slots

  child_is : {entry : Option Name} → entry_at slots byte ≡ entry → child_at children byte ≡ entry
  child_is here = lookup-table slots byte is.table.whole ∙ here

  -- whether the byte is marked
  pub stands : (name : Name) → entry_at slots byte ≡ Some name → StandsAt marks byte (place marks byte)
  stands name here = rw is.table.marked (byte-stands 0 children byte name (ascending-table slots is.table.whole) (child_is here))

  pub belongs : entry_at slots byte ≡ None → BelongsAt marks byte (place marks byte)
  belongs here = rw is.table.marked (byte-belongs children byte (child_is here))

  -- a child in place of another, a new one, and one less
  pub replaced : (name old : Name) → entry_at slots byte ≡ Some old → Becomes header marks (slice_set slots byte (Some name)) (table_node header slots) (with_child children byte name)
  replaced name old here =
      let marked : marks ≡ bytes_of (with_child children byte name) = is.table.marked ∙ sym (bytes-held 0 children byte name old (ascending-table slots is.table.whole) (child_is here)) in
      edited header header.num_children marks slots (slice_set slots byte (Some name)) _ (length-set slots byte (Some name) ∙ is.table.whole) (write-table slots byte name is.table.whole fits) marked is.counts

  pub added : (name : Name) → entry_at slots byte ≡ None → Becomes (record header { num_children = header.num_children + 1 }) (insert marks (place marks byte) byte) (slice_set slots byte (Some name)) (table_node header slots) (with_child children byte name)
  added name here =
      let marked : insert marks (place marks byte) byte ≡ bytes_of (with_child children byte name) = rw is.table.marked (sym (bytes-new children byte name (child_is here))) in
      let more : length (insert marks (place marks byte) byte) ≡ length marks + 1 = length-insert marks (place marks byte) byte (place-within marks byte) in
      edited header (header.num_children + 1) _ slots (slice_set slots byte (Some name)) _ (length-set slots byte (Some name) ∙ is.table.whole) (write-table slots byte name is.table.whole fits) marked (omega (arith, more, is.counts))

  pub removed : (old : Name) → entry_at slots byte ≡ Some old → Becomes (record header { num_children = header.num_children - 1 }) (remove marks (place marks byte)) (slice_set slots byte None) (table_node header slots) (without_child children byte)
  removed old here =
      let marked : remove marks (place marks byte) ≡ bytes_of (without_child children byte) = rw is.table.marked (sym (bytes-removed 0 children byte old (ascending-table slots is.table.whole) (child_is here))) in
      let less : length (remove marks (place marks byte)) + 1 ≡ length marks = length-remove marks (place marks byte) ((stands old here).within) in
      edited header (header.num_children - 1) _ slots (slice_set slots byte None) _ (length-set slots byte None ∙ is.table.whole) (remove-table slots byte is.table.whole fits) marked (omega (arith, less, is.counts))

  pub unchanged : entry_at slots byte ≡ None → table_node header slots ≡ with_children (table_node header slots) (without_child children byte)
  unchanged here = (edited header header.num_children marks slots slots _ is.table.whole (sym (unchanged-table slots byte is.table.whole here)) (is.table.marked ∙ ap (λ (cs : List (ℕ × Name)). bytes_of cs) (sym (unchanged-table slots byte is.table.whole here))) is.counts).view

  -- the count can go up where no child stands, and down where one does
  pub counts_up : Name → entry_at slots byte ≡ None → header.num_children < 256
  counts_up name here =
      let new = (added name here).counted in
      let long = length-ascending 0 (children_from 0 (slice_set slots byte (Some name))) (omega arith) (ascending-table (slice_set slots byte (Some name)) new.table.whole) in
      let all = ap (λ (ks : List ℕ). length ks) new.table.marked ∙ length-bytes_of (children_from 0 (slice_set slots byte (Some name))) in
      omega (arith, new.counts, all, long)

  pub counts_down : (name : Name) → entry_at slots byte ≡ Some name → 0 < header.num_children
  counts_down name here = omega (arith, is.counts, (stands name here).within)

-- the children that are left of a table
module _ (from to : ℕ) (marks : List ℕ) (slots : List (Option Name)) (is : IsPartOfTable from to marks slots) where
  abbrev left : List (ℕ × Name)
  left = children_within from to (children_from 0 slots)

  rises : IsAscendingFrom 0 (children_from 0 slots)
  rises = ascending-table slots is.table.whole

  pub left-length : length left ≡ place marks to - place marks from
  left-length = rw is.table.marked (length-children_within from to (children_from 0 slots) is.forward rises)

  pub left-none : place marks to ≤ place marks from → left ≡ []
  left-none le = none_within from to (children_from 0 slots) is.forward rises (rw is.table.marked at le)

  pub left-none_from : (byte : ℕ) → IsFirstFrom marks from byte → to ≤ byte → left ≡ []
  left-none_from byte first past = none_from from to (children_from 0 slots) is.forward rises byte (rw is.table.marked at first) past

  pub left-none_to : (byte : ℕ) → IsLastBelow marks to byte → byte < from → left ≡ []
  left-none_to byte last before = none_to from to (children_from 0 slots) is.forward rises byte (rw is.table.marked at last) before

  pub left-first : (byte : ℕ) (name : Name) → IsFirstFrom marks from byte → byte < to → entry_at slots byte ≡ Some name → left ≡ (byte, name) ∷ children_within (byte + 1) to (children_from 0 slots)
  left-first byte name first less here = first_within from to (children_from 0 slots) is.forward rises byte name (rw is.table.marked at first) less (lookup-table slots byte is.table.whole ∙ here)

  pub left-last : (byte : ℕ) (name : Name) → IsLastBelow marks to byte → from ≤ byte → entry_at slots byte ≡ Some name → left ≡ children_within from byte (children_from 0 slots) ++ (byte, name) ∷ []
  left-last byte name last above here = last_within from to (children_from 0 slots) is.forward rises byte name (rw is.table.marked at last) above (lookup-table slots byte is.table.whole ∙ here)

  -- a marked byte has a child
  pub left-held : (byte at : ℕ) → StandsAt marks byte at → entry_at slots byte ≢ None
  left-held byte at st none = let st = rw is.table.marked at st in byte-apart (children_from 0 slots) byte (lookup-table slots byte is.table.whole ∙ none) at st.within st.here

pub ruleset holds = (entry_at-index)
