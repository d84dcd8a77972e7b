-- Lemmas on a sorted node's bytes and names side by side.
use Rattle.std.proofs.Common.{◌≡◌, ℕ, zero, suc, ◌+◌, ◌-◌, ◌<◌, ◌≤◌, ◌==◌, List, [], ◌∷◌, length, Some, None, slice_get, slice_set, slice_index, position, refl, ap, sym, ◌∙◌, arith, zero-le, ◌⊎◌, inl, inr, IsSome}
use Rattle.std.specs.List.{zip, insert, remove, position_or_len}
use Rattle.std.proofs.lemmas.Bool.Decides.{eqb_tells, leb_tells}
use Rattle.std.proofs.lemmas.List.{length-set}
use Rattle.std.proofs.lemmas.List.Edits.{length-insert, length-remove}
use Rattle.std.proofs.lemmas.Option.{slice_get_past}
use Rattle.art_nodes.proofs.Terms.{Header, IsHeader, InnerNode, IsInnerNode, IsAscendingFrom, child_at, with_child, without_child, with_children, Name, StandsAt, BelongsAt, IsSideBySide, InUse, in_use}
use Rattle.art_nodes.proofs.PlaceLemmas.{place-within}
use Rattle.art_nodes.proofs.ChildLemmas.{StandsAmong, held, Absent, absent, length-zip_same, length-ascending, IsAscendingFrom-with_child, IsAscendingFrom-without_child}

abbrev pub sorted_node : Header → List ℕ → List Name → InnerNode
sorted_node header keys names = record { header = header; children = zip keys names }

-- such a node is an inner node
pub IsInnerNode-sorted : (prefix_room room : ℕ) (header : Header) (keys : List ℕ) (names : List Name) → IsHeader prefix_room header → IsSideBySide room header keys names → IsInnerNode prefix_room room (sorted_node header keys names)
IsInnerNode-sorted prefix_room room header keys names is_header side =
    let long = length-zip_same keys names side.same_length in
    record { header = is_header; counts = side.counts ∙ sym long; ascending = side.ascending; fits = rw long side.fits }

-- a node after an edit: it is held as it should be, and means the edited children
pub record Becomes (room : ℕ) (header : Header) (keys : List ℕ) (names : List Name) (node : InnerNode) (children : List (ℕ × Name)) : Type 0 where
  pub side : IsSideBySide room header keys names
  pub view : sorted_node header keys names ≡ with_children node children

-- a byte that stands among the bytes is a byte
bound : (low : ℕ) (keys : List ℕ) (names : List Name) → length keys ≡ length names → IsAscendingFrom low (zip keys names) → (at : ℕ) {byte : ℕ} → at < length keys → slice_index keys at ≡ byte → byte < 256
bound low [] names same rises at within here = absurd (omega (arith, within))
bound low (k ∷ keys) [] same rises at within here = absurd (omega arith)
bound low (k ∷ keys) (n ∷ names) same rises zero within here = rw (← here) rises.1
bound low (k ∷ keys) (n ∷ names) same rises (suc at) within here = bound (k + 1) keys names (omega arith) rises.2 at (omega (arith, within)) here

counted : (room : ℕ) (header : Header) (keys : List ℕ) (names : List Name) (node : InnerNode) (children : List (ℕ × Name)) → IsSideBySide room header keys names
    → zip keys names ≡ children → header ≡ record node.header { num_children = header.num_children } → Becomes room header keys names node children
counted room header keys names node children side same rest =
    let long = length-zip_same keys names side.same_length in
    let count : header.num_children ≡ length children = side.counts ∙ sym long ∙ ap (λ (cs : List (ℕ × Name)). length cs) same in
    record { side = side; view = cc }

-- the first place of a byte is the place of its name, and past the names where the byte doesn't stand
first_place : (keys : List ℕ) (names : List Name) (byte : ℕ) → length keys ≡ length names → slice_get names (position_or_len (λ key. key == byte) keys) ≡ child_at (zip keys names) byte
first_place [] [] byte same = refl
first_place [] (n ∷ names) byte same = absurd (omega (arith, same))
first_place (k ∷ keys) [] byte same = absurd (omega (arith, same))
first_place (k ∷ keys) (n ∷ names) byte same = elim (eqb_tells k byte) [
  | inl yes_it ↦ rw yes_it.0 refl
  | inr no_it ↦
      let places = position_or_len (λ key. key == byte) keys in
      let next : 1 + places ≡ suc places = omega arith in
      rw no_it.0 (ap (λ at. slice_get (n ∷ names) at) next ∙ first_place keys names byte (omega (arith, same)))
]

pub found-at : (keys : List ℕ) (names : List Name) (byte at : ℕ) → length keys ≡ length names → position (λ key. key == byte) keys ≡ Some at → slice_get names at ≡ child_at (zip keys names) byte
found-at keys names byte at same is = elim (leb_tells (suc (position_or_len (λ key. key == byte) keys)) (length keys)) [
  | inl yes_it ↦
      let here : Some (position_or_len (λ key. key == byte) keys) ≡ Some at = rw yes_it.0 at is in
      let place : position_or_len (λ key. key == byte) keys ≡ at = cc in
      rw (← place) (first_place keys names byte same)
  | inr no_it ↦ absurd (let e = rw no_it.0 at is in cc)
]

pub found-nowhere : (keys : List ℕ) (names : List Name) (byte : ℕ) → length keys ≡ length names → position (λ key. key == byte) keys ≡ None → child_at (zip keys names) byte ≡ None
found-nowhere keys names byte same is = elim (leb_tells (suc (position_or_len (λ key. key == byte) keys)) (length keys)) [
  | inl yes_it ↦ absurd (let e = rw yes_it.0 at is in cc)
  | inr no_it ↦ sym (first_place keys names byte same) ∙ slice_get_past names _ (omega (arith, no_it.1, same))
]

module _ (room : ℕ) (header : Header) (keys : List ℕ) (names : List Name) (byte at : ℕ) (side : IsSideBySide room header keys names) where
  here : StandsAt keys byte at → StandsAmong keys names byte
  here stands = held 0 keys names byte side.same_length side.ascending (rw stands.is_place at stands.within) (rw stands.is_place at stands.here)

  away : BelongsAt keys byte at → Absent keys names byte
  away belongs = absent 0 keys names byte side.same_length side.ascending (rw belongs.is_place at belongs.apart)

  -- a look-up of a byte that is to be written or removed
  pub found_here : StandsAt keys byte at → slice_get names at ≡ child_at (zip keys names) byte
  found_here stands = rw stands.is_place (sym ((here stands).found))

  pub found_nowhere : BelongsAt keys byte at → None ≡ child_at (zip keys names) byte
  found_nowhere belongs = sym ((away belongs).found)

  pub unchanged : BelongsAt keys byte at → sorted_node header keys names ≡ with_children (sorted_node header keys names) (without_child (zip keys names) byte)
  unchanged belongs = rw (away belongs).removed ((counted room header keys names (sorted_node header keys names) (zip keys names) side refl refl).view)

  -- a child in place of another
  pub replaced : (name : Name) → StandsAt keys byte at → Becomes room header keys (slice_set names at name) (sorted_node header keys names) (with_child (zip keys names) byte name)
  replaced name stands =
      let zips : zip keys (slice_set names at name) ≡ with_child (zip keys names) byte name = rw stands.is_place (sym ((here stands).written name)) in
      let fits : byte < 256 = bound 0 keys names side.same_length side.ascending at stands.within stands.here in
      let new : IsSideBySide room header keys (slice_set names at name) = record {
        same_length = side.same_length ∙ sym (length-set names at name);
        counts = side.counts;
        ascending = rw zips (IsAscendingFrom-with_child 0 (zip keys names) byte name zero-le fits side.ascending);
        fits = side.fits;
      } in
      counted room header keys (slice_set names at name) (sorted_node header keys names) (with_child (zip keys names) byte name) new zips refl

  -- a new child
  pub added : (name : Name) → BelongsAt keys byte at → at ≤ length keys → byte < 256 → length keys < room → Becomes room (record header { num_children = header.num_children + 1 }) (insert keys at byte) (insert names at name) (sorted_node header keys names) (with_child (zip keys names) byte name)
  added name belongs within fits less =
      let zips : zip (insert keys at byte) (insert names at name) ≡ with_child (zip keys names) byte name = rw belongs.is_place (sym ((away belongs).written name)) in
      let within_names : at ≤ length names = omega (arith, side.same_length) in
      let new : IsSideBySide room (record header { num_children = header.num_children + 1 }) (insert keys at byte) (insert names at name) = record {
        same_length = length-insert keys at byte within ∙ ap (λ n. n + 1) side.same_length ∙ sym (length-insert names at name within_names);
        counts = ap (λ n. n + 1) side.counts ∙ sym (length-insert keys at byte within);
        ascending = rw zips (IsAscendingFrom-with_child 0 (zip keys names) byte name zero-le fits side.ascending);
        fits = rw (length-insert keys at byte within) (omega arith);
      } in
      counted room (record header { num_children = header.num_children + 1 }) (insert keys at byte) (insert names at name) (sorted_node header keys names) (with_child (zip keys names) byte name) new zips refl

  -- a child less
  pub removed : StandsAt keys byte at → Becomes room (record header { num_children = header.num_children - 1 }) (remove keys at) (remove names at) (sorted_node header keys names) (without_child (zip keys names) byte)
  removed stands =
      let zips : zip (remove keys at) (remove names at) ≡ without_child (zip keys names) byte = rw stands.is_place (sym ((here stands).removed)) in
      let within_names : at < length names = omega (arith, stands.within, side.same_length) in
      let fewer = length-remove keys at stands.within in
      let fewer_names = length-remove names at within_names in
      let new : IsSideBySide room (record header { num_children = header.num_children - 1 }) (remove keys at) (remove names at) = record {
        same_length = omega (arith, fewer, fewer_names, side.same_length);
        counts = omega (arith, fewer, side.counts);
        ascending = rw zips (IsAscendingFrom-without_child 0 (zip keys names) byte side.ascending);
        fits = omega (arith, fewer, side.fits);
      } in
      counted room (record header { num_children = header.num_children - 1 }) (remove keys at) (remove names at) (sorted_node header keys names) (without_child (zip keys names) byte) new zips refl

  -- where a child may be written and none stands, there is room for one more
  pub room_there : BelongsAt keys byte at → ((length (zip keys names) < room) ⊎ IsSome (child_at (zip keys names) byte)) → length keys < room
  room_there belongs (inl less) = rw (← length-zip_same keys names side.same_length) less
  room_there belongs (inr there) = absurd (let e = rw (away belongs).found at there in cc)

  -- the place of a byte that doesn't stand there is within the bytes
  pub place_there : BelongsAt keys byte at → at ≤ length keys
  place_there belongs = rw belongs.is_place (place-within keys byte)

  -- and the count can go up
  pub counts_up : Name → BelongsAt keys byte at → at ≤ length keys → byte < 256 → length keys < room → header.num_children < 256
  counts_up name belongs within fits less =
      let new = added name belongs within fits less in
      let long = length-ascending 0 (zip (insert keys at byte) (insert names at name)) (omega arith) new.side.ascending in
      let same = length-zip_same (insert keys at byte) (insert names at name) new.side.same_length in
      omega (arith, long, same, length-insert keys at byte within, side.counts)

-- bytes and names after an edit of the node that holds them
pub record BecomesRows (room : ℕ) (header : Header) (keys : List ℕ) (names : List Name) (node : InnerNode) (children : List (ℕ × Name)) : Type 0 where
  pub held : InUse room header keys names
  pub view : sorted_node header (in_use header keys) names ≡ with_children node children

-- bytes of which those in use, with the names, are those of an edited node
pub rows_of : (room : ℕ) (header : Header) (keys : List ℕ) (names : List Name) (node : InnerNode) (children : List (ℕ × Name)) {front : List ℕ}
    → in_use header keys ≡ front → length keys ≡ room → Becomes room header front names node children → BecomesRows room header keys names node children
rows_of room header keys names node children e keys_fill new =
    record {
      held = record { keys_fill = keys_fill; within = omega (arith, new.side.counts, new.side.fits); side = rw e new.side };
      view = rw e new.view;
    }
