-- What is read of the records under keys, and under numbers, told by the definitions.
use Rattle.std.proofs.Common.{◌≡◌, ℕ, ◌+◌, ◌-◌, ◌<◌, ◌≤◌, ◌^◌, min, List, length, map, drop, filter, refl, ap, ap₂, sym, ◌∙◌, subst, arith, Bool, false, not, bytes_eq}
use Rattle.std.specs.Prelude.{◌&&◌, int_lt, ℤ, option_map}
use Rattle.std.specs.Map.{lookup, lookup_entry}
use Rattle.std.specs.Global.{Vec}
use Rattle.std.specs.List.{AllByRecursion}
use Rattle.std.proofs.lemmas.List.{length-map}
use Rattle.std.proofs.lemmas.List.Filters.{length-filter_both}
use Rattle.std.specs.declared.ops.Bound.{Bound}
use Rattle.std.specs.declared.ops.Bound.TheVariants.{Included, Excluded}
use Rattle.std.specs.BTreeMap.Range.{range_contains}
use Rattle.art_bytes.proofs.Common.{is_below, bytes_cmp, pair_key}
use Rattle.art_arena.proofs.Common.{begins_with, key_of}
use Rattle.art_operations.specs.Openings.{part_reads, range_reads}
use Rattle.art_walks.specs.MapReads.{ReadsTree, look_up_reads}
use Rattle.art_lines.proofs.Common.{full_key}
use Rattle.art_engine.proofs.Changing.{option_map-map}
use Rattle.art_engine.proofs.Counting.{look_up_is_short}
use Rattle.art_engine.proofs.Filters.{All-each, lookup-entry, map-alike}
use Rattle.art_engine.proofs.FullTests.{begins_full, between_full}
use Rattle.art_engine.proofs.KeyKinds.{number_pairs_stand, under_keys, under_numbers}
use Rattle.art_engine.proofs.Listings.{listing_grew, listing_most, path_grew}
use Rattle.art_engine.proofs.MappedReads.{look_ups_by_keys, part_by_keys, range_by_keys}
use Rattle.art_engine.proofs.NumberKeys.{HaveBytes, between_numbers}
use Rattle.art_engine.proofs.OwnLaws.{part_of}
use Rattle.art_engine.proofs.TenantKeys.{HeldPair, IsTest, Kind, StandsUnder, found, key_in, keys_are, passing, record_in, whole_of}
use Rattle.art_engine.proofs.Terms.{exactly, listed_after, look_up_nodes, part_opening, range_opening, GrewBy, GrewUpTo, Grew, AreNumberPairs, NumberPair, number_key_of, number_record_of, own_part, value_at, Record}

module _ {K M : Type 0} {bytes : M → List ℕ} {rest : K → List ℕ} {back : List ℕ → K} {Fits : K → Type 0} {lt same : K → K → Bool} {Before : Record K → Record K → Type 0}
    (kind : Kind bytes rest back Fits lt same Before) where
  -- pairs without their tenant
  abbrev pub own_in : HeldPair kind → K × List ℕ
  own_in p = (back (drop 4 (bytes p.0)), p.1.items)

  pub own_pairs : (ps : List (HeldPair kind)) → map part_of (map (record_in kind) ps) ≡ map own_in ps
  own_pairs ps = map-alike part_of (record_in kind) own_in ps (All-each (λ p. part_of (record_in kind p) ≡ own_in p) (λ p. refl) ps)

  module _ (ps : List (HeldPair kind)) (stand : AllByRecursion (StandsUnder kind) ps) (old new : ℕ) where
    -- a look-up in the map is one in the tree of the records
    pub record_look_up : (P : ℕ) (full : List ℕ) → length full ≤ 2049 → ReadsTree bytes (look_up_reads P full) ps old new → Grew (exactly (look_up_nodes (whole_of kind) P (map (record_in kind) ps) full)) old new
    record_look_up P full short reads =
        let same = look_ups_by_keys (key_in kind) (whole_of kind) ps (map (record_in kind) ps) (keys_are kind ps stand) P full in
        let few = look_up_is_short (whole_of kind) P (map (record_in kind) ps) full in
        path_grew _ old new (omega arith) (reads ∙ ap (λ n. min (old + n) (2 ^ 64 - 1)) same)

    -- and so are the nodes that are read to find the ends of a part, or of a range
    pub list_opens : (P : ℕ) (q full : List ℕ) → q ≡ full → ReadsTree bytes (λ t. part_reads (key_of bytes) P t q) ps old new
        → new ≡ min (old + part_opening (whole_of kind) P (map (record_in kind) ps) full) (2 ^ 64 - 1)
    list_opens P q full same reads =
        reads ∙ ap (λ n. min (old + n) (2 ^ 64 - 1))
        (part_by_keys (key_in kind) (whole_of kind) ps (map (record_in kind) ps) (keys_are kind ps stand) P q ∙ ap (part_opening (whole_of kind) P (map (record_in kind) ps)) same)

    pub span_opens : (P : ℕ) (ends : List ℕ → Bound (List ℕ)) (q r low high : List ℕ) → q ≡ low → r ≡ high → ReadsTree bytes (λ t. range_reads (key_of bytes) P t (Included q) (ends r)) ps old new
        → new ≡ min (old + range_opening (whole_of kind) P (map (record_in kind) ps) (Included low) (ends high)) (2 ^ 64 - 1)
    span_opens P ends q r low high first second reads =
        reads ∙ ap (λ n. min (old + n) (2 ^ 64 - 1))
        (range_by_keys (key_in kind) (whole_of kind) ps (map (record_in kind) ps) (keys_are kind ps stand) P (Included q) (ends r)
        ∙ ap₂ (λ a b. range_opening (whole_of kind) P (map (record_in kind) ps) (Included a) (ends b)) first second)

  -- what passes a test of a tenant's keys
  module _ (t : ℕ) (T : List ℕ → Bool) (G : K → Bool) (tests : IsTest kind t (λ u. false) T G) (ps : List (HeldPair kind)) (stand : AllByRecursion (StandsUnder kind) ps) where
    abbrev left : List (HeldPair kind)
    left = filter (λ p. T (key_in kind p)) ps

    abbrev own_listed : List (K × List ℕ)
    own_listed = filter (λ p. G p.0) (own_part t (map (record_in kind) ps))

    -- is the tenant's that passes
    pub own_left : map own_in left ≡ own_listed
    own_left = sym (own_pairs left) ∙ passing kind t T G tests ps stand

    as_many : length left ≡ length own_listed
    as_many = sym (length-map left own_in) ∙ ap length own_left

    pub left_few : length ps < 2 ^ 64 → length left < 2 ^ 64
    left_few few = let parted = length-filter_both (λ (p : HeldPair kind). T (key_in kind p)) (λ p. not (T (key_in kind p))) (λ p. refl) ps in omega arith

    -- it is listed by so many reads, and however far it was listed, by no more
    module _ (opening old mid new : ℕ) (few : length ps < 2 ^ 64) (opens : mid ≡ min (old + opening) (2 ^ 64 - 1)) where
      pub left_grew : GrewBy (length left) mid new → Grew (exactly (listed_after opening (length own_listed))) old new
      left_grew is = subst (λ n. Grew (exactly (listed_after opening n)) old new) as_many (listing_grew opening (length left) old mid new opens (left_few few) is)

      pub left_most : GrewUpTo (length left) mid new → new ≤ old + listed_after opening (length own_listed)
      left_most is = subst (λ n. new ≤ old + listed_after opening n) as_many (listing_most opening (length left) old mid new opens (left_few few) is)

  -- the value at the tenant's key is that under the full key
  pub value_found : (t : ℕ) (k : K) (q : List ℕ) → t < 2 ^ 32 → Fits k → q ≡ full_key t (rest k) → (ps : List (HeldPair kind)) → AllByRecursion (StandsUnder kind) ps
      → option_map (λ p. p.1.items) (lookup_entry (λ m. bytes_eq (bytes m) q) ps) ≡ value_at same k (own_part t (map (record_in kind) ps))
  value_found t k q small fits is ps stand =
      sym (option_map-map (λ (v : Vec ℕ). v.items) (λ (p : HeldPair kind). p.1) (lookup_entry (λ m. bytes_eq (bytes m) q) ps))
      ∙ ap (option_map (λ (v : Vec ℕ). v.items)) (sym (lookup-entry (λ m. bytes_eq (bytes m) q) ps) ∙ ap (λ f. lookup (λ m. bytes_eq (bytes m) f) ps) is)
      ∙ found kind t k small fits ps stand

-- the tests of the listings
pub list_tests : (t : ℕ) (k : List ℕ) → t < 2 ^ 32 → IsTest under_keys t (λ u. false) (λ j. begins_with (full_key t k) j) (λ j. begins_with k j)
list_tests t k small u j s f = begins_full t u k j small s

pub span_tests : (t : ℕ) (low high : List ℕ) → t < 2 ^ 32
    → IsTest under_keys t (λ u. false) (range_contains bytes_cmp (Included (full_key t low)) (Excluded (full_key t high))) (λ j. not (is_below j low) && is_below j high)
span_tests t low high small u j s f = between_full t u low high j small s

pub number_tests : (t : ℕ) (low high : ℤ) → HaveBytes t low → HaveBytes t high
    → IsTest under_numbers t (λ u. false) (range_contains bytes_cmp (Included (pair_key (t, low))) (Included (pair_key (t, high)))) (λ m. not (int_lt m low) && not (int_lt high m))
number_tests t low high fits_low fits_high u m s f = between_numbers t u low high m fits_low fits_high (s, f)

-- a look-up of a tenant's number
pub number_look_up : (P t : ℕ) (n : ℤ) (ns : List NumberPair) → AreNumberPairs ns → (old new : ℕ) → ReadsTree (λ (k : List ℕ). k) (look_up_reads P (pair_key (t, n))) ns old new
    → Grew (exactly (look_up_nodes number_key_of P (map number_record_of ns) (pair_key (t, n)))) old new
number_look_up P t n ns are old new reads = let long : length (pair_key (t, n)) ≡ 12 = refl in record_look_up under_numbers ns (number_pairs_stand ns are) old new P (pair_key (t, n)) (omega arith) reads
