-- All that a tenant has is dropped: how that is answered, what it leaves, and when it may find no memory.
use Rattle.std.proofs.Common.{◌≡◌, ◌≢◌, ℕ, ◌+◌, ◌-◌, ◌<◌, ◌^◌, min, List, [], ◌∷◌, length, map, refl, ap, ap₂, sym, ◌∙◌, subst, Bool, true, not, arith, inl, inr}
use Rattle.std.specs.Prelude.{◌==◌, filter, codes}
use Rattle.std.specs.Global.{Vec}
use Rattle.std.specs.List.{AllByRecursion}
use Rattle.art_bytes.proofs.Common.{BeginsWith, common_prefix}
use Rattle.art_arena.proofs.Common.{AscendsByKey, IsLimit, begins_with, with_front, without_front, in_map, in_unmap}
use Rattle.art_map.proofs.Common.{ascends-filter, cut_visits}
use Rattle.art_map.specs.PrefixBlocks.{cut_reads}
use Rattle.art_operations.proofs.Common.{node_count, ShrinksWithout, width_of-map, without-shrinks}
use Rattle.art_operations.proofs.NodeCounts.{counted-map}
use Rattle.art_engine.specs.declared.drop_tenant.Dropped.{Dropped}
use Rattle.art_engine.specs.declared.drop_tenant.Dropped.TheVariants as dropped
use Rattle.art_lines.proofs.Common.{name, natural, full_key}
use Rattle.art_engine.proofs.Terms.{drop_nodes, exactly, part_opening, IsWithin, full_key_of, number_key_of, KeyFits, KeyRecord, NumberFits, NumberRecord, Record, Records}
use Rattle.art_engine.proofs.Terms.{own, own_part, with_own, with_part, Pair, NumberPair, record_of, number_record_of, all_records_of, IsNumberPair, ArePairs, AreNumberPairs}
use Rattle.art_engine.specs.Dropped.{IsDropDone}
use Rattle.art_engine.proofs.Changing.{itself, keys_are}
use Rattle.art_engine.proofs.Conflicts.{bytes_of}
use Rattle.art_engine.proofs.Filters.{All-left_out}
use Rattle.art_walks.proofs.Common.{all-filter}
use Rattle.std.proofs.lemmas.List.{length-map, nil_from_length}
use Rattle.art_engine.proofs.MappedReads.{part_by_keys}
use Rattle.art_engine.proofs.KeyKinds.{are_full, keys_ascend, keys_stand, numbers_stand, under_keys, under_numbers}
use Rattle.art_engine.proofs.NumberPlaces.{number_bytes, number_keys_are}
use Rattle.art_engine.proofs.OwnPrefixes.{front_tests, own_front}
use Rattle.art_engine.proofs.OwnLaws.{mine, part_of, records_from_lists}
use Rattle.art_engine.proofs.TenantKeys.{HeldPair, Kind, StandsUnder, key_in, keys_are as pairs_keys, record_in, whole_of, without}

-- where all pass, none is left
none_left : {X : Type 0} (xs : List X) → filter (λ (x : X). not true) xs ≡ []
none_left [] = refl
none_left (x ∷ xs) = none_left xs

-- the loss of what begins with a front shrinks as much, whether items or what they are mapped to have the keys
without-unmapped : {X Y : Type 0} (f : X → Y) (key : Y → List ℕ) (xs : List X) (front : List ℕ) → ShrinksWithout key (map f xs) front → ShrinksWithout (λ x. key (f x)) xs front
without-unmapped f key xs front (m, ((z, i, apart, meets), longest), limit) =
    let back = in_unmap f z xs i in (
      m,
      (
        (back.0, back.1, subst (λ w. BeginsWith front (key w) → ⊥) (sym back.2) apart, ap (λ w. common_prefix front (key w)) back.2 ∙ meets),
        λ w j other. longest (f w) (in_map f w xs j) other,
      ),
      subst IsLimit (width_of-map f key m xs) limit,
    )

-- so that goes by the keys alone
without_by_keys : {X Y : Type 0} (key : X → List ℕ) (other : Y → List ℕ) (xs : List X) (ys : List Y) (front : List ℕ) → map key xs ≡ map other ys → ShrinksWithout key xs front → ShrinksWithout other ys front
without_by_keys key other xs ys front same h =
    without-unmapped other itself ys front (subst (λ ks. ShrinksWithout itself ks front) same (without-shrinks key itself xs front h))

-- pairs that an index may hold, in another way
pub same_pairs : (ps qs : List Pair) → ps ≡ qs → ArePairs qs → ArePairs ps
same_pairs ps qs same are = subst ArePairs (sym same) are

pub same_number_pairs : (ns ms : List NumberPair) → ns ≡ ms → AreNumberPairs ms → AreNumberPairs ns
same_number_pairs ns ms same are = subst AreNumberPairs (sym same) are

-- what is answered in another way
pub drop_same : (P : ℕ) (d e : Dropped) (t : ℕ) (old new : Records) → d ≡ e → IsDropDone P e t old new → IsDropDone P d t old new
drop_same P d e t old new same h = subst (λ x. IsDropDone P x t old new) (sym same) h

-- the same of another prefix and other pairs, where they are these
pub visits_same : {K V : Type 0} (bytes : K → List ℕ) (visits reads : ℕ) (f g : List ℕ) (qs ps : List (K × V)) → f ≡ g → qs ≡ ps → visits ≡ cut_visits bytes f qs reads → visits ≡ cut_visits bytes g ps reads
visits_same bytes visits reads f g qs ps same are is = is ∙ ap₂ (λ h xs. cut_visits bytes h xs reads) same are

-- what begins with a tenant's four bytes is its own
module _ {K M : Type 0} {bytes : M → List ℕ} {rest : K → List ℕ} {back : List ℕ → K} {Fits : K → Type 0} {lt same : K → K → Bool} {Before : Record K → Record K → Type 0}
    (kind : Kind bytes rest back Fits lt same Before) (t : ℕ) (small : t < 2 ^ 32) (ps : List (HeldPair kind)) (stand : AllByRecursion (StandsUnder kind) ps) where
  abbrev own_pairs : List (HeldPair kind)
  own_pairs = with_front (key_in kind) (full_key t []) ps

  counted : length (own_part t (map (record_in kind) ps)) ≡ length own_pairs
  counted = ap (λ l. length (map part_of l)) (sym (own_front kind t small ps stand)) ∙ length-map (map (record_in kind) own_pairs) part_of ∙ length-map own_pairs (record_in kind)

  -- so the nodes below it are given by the tenant's records
  freed : node_count (key_in kind) own_pairs ≡ node_count (whole_of kind) (mine t (map (record_in kind) ps))
  freed =
      counted-map (key_in kind) own_pairs
      ∙ ap (node_count itself) (pairs_keys kind own_pairs (all-filter (StandsUnder kind) (λ p. begins_with (full_key t []) (key_in kind p)) ps stand) ∙ ap (map (whole_of kind)) (own_front kind t small ps stand))
      ∙ sym (counted-map (whole_of kind) (mine t (map (record_in kind) ps)))

  -- and the others are of the records where the tenant has nothing
  left : AscendsByKey (key_in kind) ps → map (record_in kind) (without_front (key_in kind) (full_key t []) ps) ≡ with_part t [] (map (record_in kind) ps)
  left up =
      without kind t (begins_with (full_key t [])) (λ k. true) (front_tests kind t small) ps stand up
      ∙ ap (λ l. with_part t l (map (record_in kind) ps)) (none_left (own_part t (map (record_in kind) ps)))

module _ (t : ℕ) (small : t < 2 ^ 32) (ps : List Pair) (ns : List NumberPair) (are : ArePairs ps) (nums : AreNumberPairs ns) where
  -- what the tenant's full keys begin with, and the pairs of others
  abbrev pub front : List ℕ
  front = full_key t []

  abbrev pub keys_left : List Pair
  keys_left = without_front bytes_of front ps

  abbrev pub numbers_left : List NumberPair
  numbers_left = without_front number_bytes front ns

  abbrev old : Records
  old = all_records_of ps ns

  key_stand : AllByRecursion (StandsUnder under_keys) ps
  key_stand = keys_stand ps are.stand.full are.stand.tenants

  stand : AllByRecursion (StandsUnder under_numbers) ns
  stand = numbers_stand ns nums.stand nums.fit

  abbrev apart : List ℕ → Bool
  apart k = not (begins_with front k)

  -- they are as an index holds them
  pub keys_kept : ArePairs keys_left
  keys_kept = record {
    stand = are_full keys_left (all-filter (StandsUnder under_keys) (λ p. apart (bytes_of p)) ps key_stand) (ascends-filter bytes_of (λ p. apart (bytes_of p)) ps (keys_ascend ps are.stand));
    fit = All-left_out KeyFits record_of (λ p. apart (bytes_of p)) ps are.fit;
  }

  pub numbers_kept : AreNumberPairs numbers_left
  numbers_kept = record {
    stand = all-filter IsNumberPair (λ p. apart p.0) ns nums.stand;
    ascend = ascends-filter number_bytes (λ p. apart p.0) ns nums.ascend;
    fit = All-left_out NumberFits number_record_of (λ p. apart p.0) ns nums.fit;
  }

  -- and their records are those where the tenant has nothing
  records_left : all_records_of keys_left numbers_left ≡ with_own t (record { keys = []; numbers = [] }) old
  records_left = records_from_lists _ _ _ _ (left under_keys t small ps key_stand (keys_ascend ps are.stand)) (left under_numbers t small ns stand nums.ascend)

  -- the tenant has as many as begin so
  keys_counted : length (own t old).keys ≡ length (with_front bytes_of front ps)
  keys_counted = counted under_keys t small ps key_stand

  numbers_counted : length (own t old).numbers ≡ length (with_front number_bytes front ns)
  numbers_counted = counted under_numbers t small ns stand

  module _ (new_ps : List Pair) (new_ns : List NumberPair) where
    pub drop_done : (P k n v : ℕ) → new_ps ≡ keys_left → new_ns ≡ numbers_left → k ≡ length (with_front bytes_of front ps) → n ≡ length (with_front number_bytes front ns)
        → IsWithin (exactly (drop_nodes P t old)) v → IsDropDone P (dropped.Gone k n v) t old (all_records_of new_ps new_ns)
    drop_done P k n v is_left are_left keys numbers within = record {
      output = ap (λ c. (name (codes "dropped") ∷ natural c ∷ []) ∷ []) (ap₂ (λ a b. a + b) (keys ∙ sym keys_counted) (numbers ∙ sym numbers_counted));
      left = ap₂ all_records_of is_left are_left ∙ records_left;
      counted = within;
    }

    -- where it finds no memory, the loss of what begins so makes a node smaller
    pub keys_refused : (P : ℕ) → new_ps ≡ ps → new_ns ≡ ns → (with_front bytes_of front ps ≢ []) × ShrinksWithout bytes_of ps front → IsDropDone P dropped.Memory t old (all_records_of new_ps new_ns)
    keys_refused P same same_numbers h = (
      ap₂ all_records_of same same_numbers,
      inl ((λ none. h.0 (nil_from_length _ (sym keys_counted ∙ ap length none))), without_by_keys bytes_of full_key_of ps (map record_of ps) front (keys_are ps are.stand.full) h.1),
    )

    pub numbers_refused : (P : ℕ) → new_ps ≡ ps → new_ns ≡ ns → (with_front number_bytes front ns ≢ []) × ShrinksWithout number_bytes ns front → IsDropDone P dropped.Memory t old (all_records_of new_ps new_ns)
    numbers_refused P same same_numbers h = (
      ap₂ all_records_of same same_numbers,
      inr ((λ none. h.0 (nil_from_length _ (sym numbers_counted ∙ ap length none))), without_by_keys number_bytes number_key_of ns (map number_record_of ns) front (number_keys_are ns nums.stand) h.1),
    )

  -- the nodes below the prefix are given by the tenant's records
  keys_freed : node_count bytes_of (with_front bytes_of front ps) ≡ node_count full_key_of (filter (λ (r : KeyRecord). r.tenant == t) (map record_of ps))
  keys_freed = freed under_keys t small ps key_stand

  numbers_freed : node_count number_bytes (with_front number_bytes front ns) ≡ node_count number_key_of (filter (λ (r : NumberRecord). r.tenant == t) (map number_record_of ns))
  numbers_freed = freed under_numbers t small ns stand

  -- so many nodes are read to find what begins so, r in the one tree and s in the other, and those after are freed
  pub drop_counts : (P x y r s v : ℕ) → x ≡ min (r + node_count bytes_of (with_front bytes_of front ps)) (2 ^ 64 - 1) → y ≡ min (s + node_count number_bytes (with_front number_bytes front ns)) (2 ^ 64 - 1)
      → r ≡ cut_reads (λ (k : Vec ℕ). k.items) P front ps → s ≡ cut_reads (λ (k : List ℕ). k) P front ns → v ≡ min (x + y) (2 ^ 64 - 1) → IsWithin (exactly (drop_nodes P t old)) v
  drop_counts P x y r s v keys numbers found others is =
      let first : r ≡ min (part_opening full_key_of P old.keys front) (2 ^ 64 - 1) =
      found ∙ ap (λ n. min n (2 ^ 64 - 1)) (part_by_keys bytes_of full_key_of ps (map record_of ps) (keys_are ps are.stand.full) P front) in
      let second : s ≡ min (part_opening number_key_of P old.numbers front) (2 ^ 64 - 1) =
      others ∙ ap (λ n. min n (2 ^ 64 - 1)) (part_by_keys number_bytes number_key_of ns (map number_record_of ns) (number_keys_are ns nums.stand) P front) in
      let a = keys_freed in
      let b = numbers_freed in
      (omega (arith, a, b, keys, numbers, first, second, is), omega (arith, a, b, keys, numbers, first, second, is))
