-- What a look-up, a listing or a drop reads lies between its bounds.
use Rattle.std.proofs.Common.{◌≡◌, ℕ, ◌+◌, ◌*◌, ◌≤◌, min, Bool, true, false, cond, List, [], ◌∷◌, length, refl, sym, subst, arith, bytes_eq, Some}
use Rattle.std.specs.Prelude.{int_lt, is_some, max, Option}
use Rattle.std.specs.Ordering.{int_eq}
use Rattle.std.specs.List.{AllByRecursion}
use Rattle.std.specs.declared.ops.Bound.{Bound}
use Rattle.std.specs.declared.ops.Bound.TheVariants.{Included, Excluded}
use Rattle.std.proofs.lemmas.Nat.{mul-le}
use Rattle.art_bytes.proofs.Common.{is_below, pair_key}
use Rattle.art_arena.proofs.Common.{AscendsByKey, Tree, all_weaker, tree_of_ascending}
use Rattle.art_arena.proofs.Terms.{leaf, inner, tree_below}
use Rattle.art_operations.proofs.FewReads.{counts-few}
use Rattle.art_operations.specs.Openings.{SpanReads, part_reads, range_reads}
use Rattle.art_walks.specs.MapReads.{of_tree}
use Rattle.art_lines.proofs.Common.{Command, of_tenant, get, find, nget, list, span, nspan, drop, full_key}
use Rattle.art_engine.proofs.Terms.{AreRecords, NumberRecord, Records, VisitsAreBounded, own, value_at, exactly, full_key_of, listed_after, listing, longest, number_key_of, part_opening, range_opening, visit_bounds, visits_of}
use Rattle.art_engine.proofs.Counting.{look_up_within}
use Rattle.art_engine.proofs.CountLaws.{all_numbers_ascend, all_read, found_front, got, got_number, keys_ascend, keys_fit, numbers_fit}
use Rattle.art_engine.proofs.KeyKinds.{under_keys, under_numbers}
use Rattle.art_engine.proofs.NumberKeys.{bytes_of_number}
use Rattle.art_engine.specs.FewVisits.{looking_up}
use Rattle.art_engine.specs.Replies.{front_at}
use Rattle.art_engine.proofs.Filters.{All-each}

module _ {X : Type 0} (key : X → List ℕ) where
  -- none is longer than the longest
  within_longest : (xs : List X) → AllByRecursion (λ x. length (key x) ≤ longest key xs) xs
  within_longest [] = tt
  within_longest (x ∷ xs) =
      (omega arith, all_weaker (λ y. length (key y) ≤ longest key xs) (λ y. length (key y) ≤ max (length (key x)) (longest key xs)) (λ y h. omega arith) xs (within_longest xs))

  module _ (P : ℕ) where
    -- the root is read, if there is one
    part_some : (t : Tree X) (front : List ℕ) → 1 ≤ part_reads key P t front
    part_some (leaf x) front = omega arith
    part_some (inner prefix children) front = omega arith

    root_read : (xs : List X) (front : List ℕ) → min 1 (length xs) ≤ part_opening key P xs front
    root_read [] front = omega arith
    root_read (x ∷ xs) front = let some = part_some (tree_below key (length (x ∷ xs)) 0 (x ∷ xs)) front in omega (arith, some)

    -- both ends are few nodes away
    module _ (L : ℕ) where
      abbrev AreShort : List X → Type 0
      AreShort xs = AllByRecursion (λ x. length (key x) ≤ L) xs

      part_few : (xs : List X) → AscendsByKey key xs → AreShort xs → (front : List ℕ) → part_opening key P xs front ≤ 6 * (L + 2)
      part_few [] order short front = omega arith
      part_few (x ∷ xs) order short front =
          let u = tree_of_ascending key x xs order in
          let few : SpanReads L 0 (part_reads key P u.0 front) = (counts-few X key u.0 u.2 L (subst AreShort (sym u.3) short) P).3 front in
          subst (λ o. of_tree (λ t. part_reads key P t front) o ≤ 6 * (L + 2)) (sym u.1) (omega (arith, few))

      range_few : (xs : List X) → AscendsByKey key xs → AreShort xs → (low high : Bound (List ℕ)) → range_opening key P xs low high ≤ 6 * (L + 2)
      range_few [] order short low high = omega arith
      range_few (x ∷ xs) order short low high =
          let u = tree_of_ascending key x xs order in
          let few : SpanReads L 0 (range_reads key P u.0 low high) = (counts-few X key u.0 u.2 L (subst AreShort (sym u.3) short) P).2 low high in
          subst (λ o. of_tree (λ t. range_reads key P t low high) o ≤ 6 * (L + 2)) (sym u.1) (omega (arith, few))

-- a look-up of one record
looked_up : (found : Bool) (path reads : ℕ) → reads ≤ path → (found ≡ true → reads ≡ path) → ((looking_up found path).least ≤ (exactly reads).least) × ((exactly reads).most ≤ (looking_up found path).most)
looked_up true path reads few all = let is = all refl in (omega (arith, is), few)
looked_up false path reads few all = (omega arith, few)

-- a listing whose ends are so near
listed : (opening m bound L : ℕ) → opening ≤ 6 * (L + 2) → ((listing m bound L).least ≤ listed_after opening m) × (listed_after opening m ≤ (listing m bound L).most)
listed opening m bound L few =
    let cost : 6 * (L + 2) ≤ 2 * (bound + 6) * (L + 2) = mul-le 6 (L + 2) (2 * (bound + 6)) (L + 2) (omega arith) (omega arith) in
    (omega arith, omega arith)

-- and nothing is read where the bounds are out of order
in_order : (apart : Bool) (opening m bound L : ℕ) → opening ≤ 6 * (L + 2)
    → ((cond apart (exactly 0) (listing m bound L)).least ≤ (cond apart (exactly 0) (exactly (listed_after opening m))).least)
    × ((cond apart (exactly 0) (exactly (listed_after opening m))).most ≤ (cond apart (exactly 0) (listing m bound L)).most)
in_order true opening m bound L few = (omega arith, omega arith)
in_order false opening m bound L few = listed opening m bound L few

module _ (P : ℕ) (records : Records) (are : AreRecords records) where
  twelve : AllByRecursion (λ (r : NumberRecord). length (number_key_of r) ≤ 12) records.numbers
  twelve = All-each (λ (r : NumberRecord). length (number_key_of r) ≤ 12) (λ r. let long : length (number_key_of r) ≡ 12 = refl in omega (arith, long)) records.numbers

  pub bounded : (command : Option Command) → ((visit_bounds P command records).least ≤ (visits_of P command records).least) × ((visits_of P command records).most ≤ (visit_bounds P command records).most)
  bounded (Some (of_tenant t (get k))) =
      looked_up (is_some (value_at bytes_eq k (own t records).keys)) _ _ (look_up_within full_key_of P records.keys (full_key t k))
      (λ some. all_read under_keys t records.keys (keys_fit records are) are.keys_in_order P k (got t records are k some))
  bounded (Some (of_tenant t (find k))) =
      looked_up (is_some (front_at k (own t records).keys)) _ _ (look_up_within full_key_of P records.keys (full_key t k))
      (λ some. all_read under_keys t records.keys (keys_fit records are) are.keys_in_order P k (found_front t records are k some))
  bounded (Some (of_tenant t (nget m))) =
      looked_up (is_some (value_at int_eq m (own t records).numbers)) _ _ (look_up_within number_key_of P records.numbers (pair_key (t, m)))
      (λ some. all_read under_numbers t records.numbers (numbers_fit records are) are.numbers_in_order P (bytes_of_number m) (got_number t records are m some))
  bounded (Some (of_tenant t (list front))) =
      listed _ _ (length front) (longest full_key_of records.keys) (part_few full_key_of P (longest full_key_of records.keys) records.keys (keys_ascend records are) (within_longest full_key_of records.keys) (full_key t front))
  bounded (Some (of_tenant t (span low high))) =
      let L = longest full_key_of records.keys in
      in_order (is_below high low) _ _ (max (length low) (length high)) L
      (range_few full_key_of P L records.keys (keys_ascend records are) (within_longest full_key_of records.keys) (Included (full_key t low)) (Excluded (full_key t high)))
  bounded (Some (of_tenant t (nspan low high))) =
      in_order (int_lt high low) _ _ 8 12 (range_few number_key_of P 12 records.numbers (all_numbers_ascend records are) twelve (Included (pair_key (t, low))) (Included (pair_key (t, high))))
  bounded (Some (of_tenant t drop)) =
      let front = full_key t [] in
      let a = root_read full_key_of P records.keys front in
      let b = root_read number_key_of P records.numbers front in
      let c = part_few full_key_of P (longest full_key_of records.keys) records.keys (keys_ascend records are) (within_longest full_key_of records.keys) front in
      let d = part_few number_key_of P (longest number_key_of records.numbers) records.numbers (all_numbers_ascend records are) (within_longest number_key_of records.numbers) front in
      (omega (arith, a, b), omega (arith, c, d))
  bounded command = (omega arith, omega arith)

pub visits_are_bounded : VisitsAreBounded
visits_are_bounded P command records are = bounded P records are command
