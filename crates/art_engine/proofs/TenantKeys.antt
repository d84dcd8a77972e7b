-- Values under full keys of one kind: what a look-up, a put and a deletion at a tenant's key find and leave.
use Rattle.std.proofs.Common.{◌≡◌, ℕ, ◌<◌, ◌≤◌, ◌^◌, ◌⊎◌, List, [], ◌∷◌, ◌++◌, map, take, drop, refl, ap, ap₂, sym, ◌∙◌, subst, Bool, true, false, not, arith, Option, Some, None, bytes_eq, inl, inr}
use Rattle.std.specs.Prelude.{◌==◌, ◌||◌, ◌&&◌, nat_lt, filter, option_map, IsSome}
use Rattle.std.specs.Global.{Vec}
use Rattle.std.specs.Int.{from_be_bytes, w32}
use Rattle.std.specs.List.{AllByRecursion, find}
use Rattle.std.specs.Map.{lookup, lookup_entry}
use Rattle.std.specs.declared.cmp.Ordering.{Ordering}
use Rattle.std.specs.declared.cmp.Ordering.TheVariants.{Less, Equal, Greater}
use Rattle.std.specs.Ordering.{is_lt}
use Rattle.std.proofs.lemmas.Bool.{cond_both, false_from_ne_true}
use Rattle.std.proofs.lemmas.List.{map-append}
use Rattle.std.proofs.lemmas.Nat.{from_be_bytes-to_be_bytes_4}
use Rattle.art_bytes.proofs.Common.{IsBefore, bytes_cmp, is_below, before_cmp, before_not_self, before_trans, cmp_before, conflict_turned}
use Rattle.art_arena.proofs.Common.{is_before, put_in_order, AscendsByKey, Shrinks, before_true, true_before, same_key, other_key, all_append, all_weaker}
use Rattle.art_arena.proofs.tree.Filters.{filter_all, filter_none}
use Rattle.art_arena.proofs.tree.Paths.{all_map}
use Rattle.art_operations.proofs.Common.{HasKey, IsBlocked, shrinks-map, shrinks-unmap, without_key}
use Rattle.art_walks.proofs.Common.{all-filter}
use Rattle.art_lines.proofs.Common.{full_key}
use Rattle.art_engine.proofs.Filters.{All-both, All-made, entry-first, filter-both, filter-mapped, filter-same, find-first, first, first-map, lookup-entry, map-alike, map-filter}
use Rattle.art_engine.proofs.FullKeys.{full_from_parts, eq_turned, parts_from_full, full_keys_keep_order}
use Rattle.art_engine.proofs.FullTests.{same_full}
use Rattle.art_engine.proofs.KeyOrder.{cmp_equal, cmp_greater, cmp_less, not_below_itself, not_both_below}
use Rattle.art_engine.proofs.OwnLaws.{Ascends, made, mine, part_of}
use Rattle.art_engine.proofs.OwnParts.{IsPartTest, left_in_place, put_in_place}
use Rattle.art_engine.proofs.Terms.{InOrder, Record, own_part, value_at, with_pair, with_part, without_at}

-- an item is put between those whose keys are below its key and those whose keys are above
module _ {X : Type 0} (key : X → List ℕ) (e : X) where
  abbrev around : List ℕ → List X → List X
  around k xs = filter (λ x. is_below (key x) k) xs ++ e ∷ filter (λ x. is_below k (key x)) xs

  put_between : (xs : List X) → AscendsByKey key xs → (IsBlocked key (key e) xs → ⊥) → AscendsByKey key (around (key e) xs) × (put_in_order key e (without_key key (key e) xs) ≡ around (key e) xs)
  put_between [] up free = ((tt, tt), refl)
  put_between (x ∷ xs) up free = go (bytes_cmp (key x) (key e)) refl (put_between xs up.1 (λ b. free (b.0, inr b.1, b.2)))
    where
      go : (o : Ordering) → bytes_cmp (key x) (key e) ≡ o → AscendsByKey key (around (key e) xs) × (put_in_order key e (without_key key (key e) xs) ≡ around (key e) xs)
          → AscendsByKey key (around (key e) (x ∷ xs)) × (put_in_order key e (without_key key (key e) (x ∷ xs)) ≡ around (key e) (x ∷ xs))
      go Less is ih =
          let less : IsBefore (key x) (key e) = cmp_before (key x) (key e) is (λ c. free (x, inl refl, conflict_turned (key x) (key e) c)) in
          let not_above : is_below (key e) (key x) ≡ false = not_both_below (key x) (key e) (ap is_lt is) in
          let other : bytes_eq (key x) (key e) ≡ false = other_key (key x) (key e) (λ same. before_not_self (key e) (subst (λ k. IsBefore k (key e)) same less)) in
          let not_first : is_before (key e) (key x) ≡ false = false_from_ne_true _ (λ b. before_not_self (key x) (before_trans (key x) (key e) (key x) less (true_before (key e) (key x) b))) in
          let P : X → Type 0 = λ y. IsBefore (key x) (key y) in
          rw (is, not_above, other, not_first)
          ((all_append P _ (e ∷ filter (λ y. is_below (key e) (key y)) xs) (all-filter P (λ y. is_below (key y) (key e)) xs up.0) (less, all-filter P (λ y. is_below (key e) (key y)) xs up.0), ih.0), ap (λ l. x ∷ l) ih.1)
      go Equal is ih =
          let same = cmp_equal (key x) (key e) is in
          let not_above : is_below (key e) (key x) ≡ false = rw same (not_below_itself (key e)) in
          rw (is, not_above, same_key (key x) (key e) same) ih
      go Greater is ih =
          let above = cmp_greater (key x) (key e) is in
          let less : IsBefore (key e) (key x) = cmp_before (key e) (key x) (cmp_less (key e) (key x) above) (λ c. free (x, inl refl, c)) in
          let P : X → Type 0 = λ y. IsBefore (key e) (key y) in
          let later : AllByRecursion P xs = all_weaker (λ y. IsBefore (key x) (key y)) P (λ y b. before_trans (key e) (key x) (key y) less b) xs up.0 in
          let differs = λ (y : X) (b : P y). other_key (key y) (key e) (λ same. before_not_self (key e) (subst (IsBefore (key e)) same b)) in
          let none = filter_none (λ y. is_below (key y) (key e)) xs (all_weaker P (λ y. is_below (key y) (key e) ≡ false) (λ y b. not_both_below (key e) (key y) (ap is_lt (before_cmp (key e) (key y) b))) xs later) in
          let all = filter_all (λ y. is_below (key e) (key y)) xs (all_weaker P (λ y. is_below (key e) (key y) ≡ true) (λ y b. ap is_lt (before_cmp (key e) (key y) b)) xs later) in
          let others = filter_all (λ y. not (bytes_eq (key y) (key e))) xs (all_weaker P (λ y. not (bytes_eq (key y) (key e)) ≡ true) (λ y b. ap not (differs y b)) xs later) in
          rw (is, above, differs x less, none, all, others, before_true (key e) (key x) less) (((less, later), up), refl)

-- a key that some pair has is found
has_found : {M V : Type 0} (bytes : M → List ℕ) (k : List ℕ) (ps : List (M × V)) → HasKey (λ (p : M × V). bytes p.0) k ps → IsSome (lookup (λ m. bytes_eq (bytes m) k) ps)
has_found bytes k [] (x, i, same) = absurd i
has_found {M} {V} bytes k (p ∷ ps) (x, inl e, same) = rw (same_key (bytes p.0) k (ap (λ (q : M × V). bytes q.0) e ∙ same)) refl
has_found bytes k (p ∷ ps) (x, inr i, same) = cond_both (bytes_eq (bytes p.0) k) (Some p.1) (lookup (λ m. bytes_eq (bytes m) k) ps) IsSome (λ e. refl) (λ e. has_found bytes k ps (x, i, same))

some_mapped : {X Y : Type 0} (f : X → Y) (o : Option X) → IsSome o → IsSome (option_map f o)
some_mapped f (Some x) h = refl
some_mapped f None h = h

abbrev pub itself : List ℕ → List ℕ
itself k = k

-- What is to be known of a kind of key: a key is read back from its bytes, and keys stand to each other as these do.
pub record Kind {K M : Type 0} (bytes : M → List ℕ) (rest : K → List ℕ) (back : List ℕ → K) (Fits : K → Type 0) (lt same : K → K → Bool) (Before : Record K → Record K → Type 0) : Type 0 where
  pub back_is : (k : K) → Fits k → back (rest k) ≡ k
  pub below_is : (j k : K) → Fits j → Fits k → is_below (rest j) (rest k) ≡ lt j k
  pub same_is : (j k : K) → Fits j → Fits k → bytes_eq (rest j) (rest k) ≡ same j k
  pub before_is : (r s : Record K) → Fits r.key → Fits s.key → Before r s → (r.tenant < s.tenant) ⊎ ((r.tenant ≡ s.tenant) × IsBefore (rest r.key) (rest s.key))
  pub comes : (r s : Record K) → Fits r.key → Fits s.key → (r.tenant < s.tenant) ⊎ ((r.tenant ≡ s.tenant) × IsBefore (rest r.key) (rest s.key)) → Before r s

module _ {K M : Type 0} {bytes : M → List ℕ} {rest : K → List ℕ} {back : List ℕ → K} {Fits : K → Type 0} {lt same : K → K → Bool} {Before : Record K → Record K → Type 0}
    (kind : Kind bytes rest back Fits lt same Before) where
  -- a value under a full key, this key, and the record that it stands for
  abbrev pub HeldPair : Type 0
  HeldPair = M × Vec ℕ

  abbrev pub key_in : HeldPair → List ℕ
  key_in p = bytes p.0

  abbrev pub record_in : HeldPair → Record K
  record_in p = record { tenant = from_be_bytes w32 (take 4 (bytes p.0)); key = back (drop 4 (bytes p.0)); value = p.1.items }

  -- the full key of a record, whose tenant and key have bytes of their own
  abbrev pub whole_of : Record K → List ℕ
  whole_of r = full_key r.tenant (rest r.key)

  abbrev pub RecordFits : Record K → Type 0
  RecordFits r = (r.tenant < 2 ^ 32) × Fits r.key

  -- a value stands under the full key of its record
  pub record StandsUnder (p : HeldPair) : Type 0 where
    pub key : key_in p ≡ whole_of (record_in p)
    pub fits : RecordFits (record_in p)

  pub record_made : (t : ℕ) (k : K) (p : HeldPair) → t < 2 ^ 32 → Fits k → key_in p ≡ full_key t (rest k) → record_in p ≡ made t (k, p.1.items)
  record_made t k p small fits full =
      let tenant : from_be_bytes w32 (take 4 (bytes p.0)) ≡ t = ap (λ b. from_be_bytes w32 (take 4 b)) full ∙ from_be_bytes-to_be_bytes_4 t small in
      let key : back (drop 4 (bytes p.0)) ≡ k = ap (λ b. back (drop 4 b)) full ∙ kind.back_is k fits in
      rw (tenant, key) refl

  pub made_stands : (t : ℕ) (k : K) (p : HeldPair) → t < 2 ^ 32 → Fits k → key_in p ≡ full_key t (rest k) → StandsUnder p
  made_stands t k p small fits full = let is = record_made t k p small fits full in record { key = full ∙ sym (ap whole_of is); fits = subst RecordFits (sym is) (small, fits) }

  -- what is told by the keys alone is told by the records
  pub keys_are : (ps : List HeldPair) → AllByRecursion StandsUnder ps → map key_in ps ≡ map whole_of (map record_in ps)
  keys_are ps stand = sym (map-alike whole_of record_in key_in ps (all_weaker StandsUnder (λ p. whole_of (record_in p) ≡ key_in p) (λ p s. sym s.key) ps stand))

  -- full keys are in order where their records are
  pub ascend : (rs : List (Record K)) → AllByRecursion RecordFits rs → InOrder Before rs → AscendsByKey whole_of rs
  ascend [] fits order = tt
  ascend (r ∷ rs) fits order = (All-both RecordFits (Before r) (λ s. IsBefore (whole_of r) (whole_of s)) before rs fits.1 order.0, ascend rs fits.1 order.1)
    where
      before : (s : Record K) → RecordFits s → Before r s → IsBefore (whole_of r) (whole_of s)
      before s small b = full_from_parts r.tenant s.tenant (rest r.key) (rest s.key) fits.0.0 small.0 (kind.before_is r s fits.0.1 small.1 b)

  pub pairs_ascend : (ps : List HeldPair) → AllByRecursion StandsUnder ps → InOrder Before (map record_in ps) → AscendsByKey key_in ps
  pairs_ascend [] stand order = tt
  pairs_ascend (p ∷ ps) stand order =
      (All-both StandsUnder (λ q. Before (record_in p) (record_in q)) (λ q. IsBefore (key_in p) (key_in q)) before ps stand.1 (All-made (Before (record_in p)) record_in ps order.0), pairs_ascend ps stand.1 order.1)
    where
      before : (q : HeldPair) → StandsUnder q → Before (record_in p) (record_in q) → IsBefore (key_in p) (key_in q)
      before q s b =
          let r = record_in p in let o = record_in q in
          subst (λ k. IsBefore k (key_in q)) (sym stand.0.key) (subst (IsBefore (whole_of r)) (sym s.key)
          (full_from_parts r.tenant o.tenant (rest r.key) (rest o.key) stand.0.fits.0 s.fits.0 (kind.before_is r o stand.0.fits.1 s.fits.1 b)))

  -- and the other way
  turned : (B : Record K → Record K → Type 0) → ((r s : Record K) → RecordFits r → RecordFits s → (r.tenant < s.tenant) ⊎ ((r.tenant ≡ s.tenant) × IsBefore (rest r.key) (rest s.key)) → B r s)
      → (ps : List HeldPair) → AllByRecursion StandsUnder ps → AscendsByKey key_in ps → InOrder B (map record_in ps)
  turned B means [] stand up = tt
  turned B means (p ∷ ps) stand up =
      (all_map record_in (B (record_in p)) ps (All-both StandsUnder (λ q. IsBefore (key_in p) (key_in q)) (λ q. B (record_in p) (record_in q)) comes ps stand.1 up.0), turned B means ps stand.1 up.1)
    where
      comes : (q : HeldPair) → StandsUnder q → IsBefore (key_in p) (key_in q) → B (record_in p) (record_in q)
      comes q s b =
          let r = record_in p in let o = record_in q in
          means r o stand.0.fits s.fits (parts_from_full r.tenant o.tenant (rest r.key) (rest o.key) stand.0.fits.0 s.fits.0 (subst (λ k. IsBefore k (whole_of o)) stand.0.key (subst (IsBefore (key_in p)) s.key b)))

  pub in_order : (ps : List HeldPair) → AllByRecursion StandsUnder ps → AscendsByKey key_in ps → InOrder Before (map record_in ps)
  in_order = turned Before (λ r s fr fs. kind.comes r s fr.1 fs.1)

  tenants_ascend : (ps : List HeldPair) → AllByRecursion StandsUnder ps → AscendsByKey key_in ps → Ascends (map record_in ps)
  tenants_ascend = turned (λ r s. r.tenant ≤ s.tenant) (λ r s fr fs b. elim b [ inl lower ↦ omega arith | inr equal ↦ let e = equal.0 in omega arith ])

  -- a test of full keys passes all keys of tenants that pass, and of one tenant's the keys that pass
  abbrev pub IsTest : ℕ → (ℕ → Bool) → (List ℕ → Bool) → (K → Bool) → Type 0
  IsTest t S T G = (u : ℕ) (m : K) → u < 2 ^ 32 → Fits m → T (full_key u (rest m)) ≡ (S u || ((u == t) && G m))

  records_filter : (T : List ℕ → Bool) (ps : List HeldPair) → AllByRecursion StandsUnder ps → map record_in (filter (λ p. T (key_in p)) ps) ≡ filter (λ r. T (whole_of r)) (map record_in ps)
  records_filter T ps stand = filter-mapped record_in (λ p. T (key_in p)) (λ r. T (whole_of r)) ps (all_weaker StandsUnder (λ p. T (key_in p) ≡ T (whole_of (record_in p))) (λ p s. ap T s.key) ps stand)

  records_cut : (t : ℕ) (S : ℕ → Bool) (T : List ℕ → Bool) (G : K → Bool) → IsTest t S T G → (ps : List HeldPair) → AllByRecursion StandsUnder ps → AllByRecursion (IsPartTest t S (λ r. T (whole_of r)) G) (map record_in ps)
  records_cut t S T G tests ps stand =
      let passes : Record K → Type 0 = IsPartTest t S (λ r. T (whole_of r)) G in
      all_map record_in passes ps (all_weaker StandsUnder (λ p. passes (record_in p)) (λ p s. tests (record_in p).tenant (record_in p).key s.fits.0 s.fits.1) ps stand)

  -- a test of one tenant's keys
  module _ (t : ℕ) (T : List ℕ → Bool) (G : K → Bool) (tests : IsTest t (λ u. false) T G) (ps : List HeldPair) (stand : AllByRecursion StandsUnder ps) where
    -- what passes is the tenant's whose keys pass
    pub passing : map part_of (map record_in (filter (λ p. T (key_in p)) ps)) ≡ filter (λ p. G p.0) (own_part t (map record_in ps))
    passing =
        ap (map part_of)
        (records_filter T ps stand ∙ filter-same (λ r. T (whole_of r)) (λ r. (r.tenant == t) && G r.key) (map record_in ps) (records_cut t (λ u. false) T G tests ps stand)
        ∙ filter-both (λ r. r.tenant == t) (λ r. G r.key) (map record_in ps))
        ∙ map-filter part_of (λ p. G p.0) (mine t (map record_in ps))

    pub first_passing : option_map part_of (option_map record_in (lookup_entry (λ m. T (bytes m)) ps)) ≡ find (λ p. G p.0) (own_part t (map record_in ps))
    first_passing =
        let left : List HeldPair = filter (λ p. T (key_in p)) ps in
        ap (λ o. option_map part_of (option_map record_in o)) (entry-first (λ m. T (bytes m)) ps)
        ∙ ap (option_map part_of) (sym (first-map record_in left)) ∙ sym (first-map part_of (map record_in left)) ∙ ap first passing
        ∙ sym (find-first (λ p. G p.0) (own_part t (map record_in ps)))

    pub value_passing : option_map (λ v. v.items) (lookup (λ m. T (bytes m)) ps) ≡ option_map (λ p. p.1) (find (λ p. G p.0) (own_part t (map record_in ps)))
    value_passing = ap (option_map (λ v. v.items)) (lookup-entry (λ m. T (bytes m)) ps) ∙ go (lookup_entry (λ m. T (bytes m)) ps) ∙ ap (option_map (λ p. p.1)) first_passing
      where
        go : (o : Option HeldPair) → option_map (λ (v : Vec ℕ). v.items) (option_map (λ p. p.1) o) ≡ option_map (λ (p : K × List ℕ). p.1) (option_map part_of (option_map record_in o))
        go None = refl
        go (Some p) = refl

    -- the others are what is left with the tenant's others in place
    pub without : AscendsByKey key_in ps → map record_in (filter (λ p. not (T (key_in p))) ps) ≡ with_part t (filter (λ p. not (G p.0)) (own_part t (map record_in ps))) (map record_in ps)
    without up = records_filter (λ k. not (T k)) ps stand ∙ left_in_place t (λ r. T (whole_of r)) G (map record_in ps) (records_cut t (λ u. false) T G tests ps stand) (tenants_ascend ps stand up)

  module _ (t : ℕ) (k : K) (small : t < 2 ^ 32) (fits : Fits k) (ps : List HeldPair) (stand : AllByRecursion StandsUnder ps) where
    abbrev here : List ℕ
    here = full_key t (rest k)

    same_tests : IsTest t (λ u. false) (λ b. bytes_eq b here) (λ m. same m k)
    same_tests u m s f = same_full t u (rest k) (rest m) small s ∙ ap (λ b. (u == t) && b) (kind.same_is m k f fits)

    -- what is at the key
    pub found : option_map (λ v. v.items) (lookup (λ m. bytes_eq (bytes m) here) ps) ≡ value_at same k (own_part t (map record_in ps))
    found = value_passing t (λ b. bytes_eq b here) (λ m. same m k) same_tests ps stand

    pub removed : AscendsByKey key_in ps → map record_in (without_key key_in here ps) ≡ with_part t (without_at same k (own_part t (map record_in ps))) (map record_in ps)
    removed = without t (λ b. bytes_eq b here) (λ m. same m k) same_tests ps stand

    -- its deletion may find no memory where the loss of the full key makes a node smaller
    pub refused : HasKey key_in here ps × Shrinks key_in ps here → IsSome (value_at same k (own_part t (map record_in ps))) × Shrinks whole_of (map record_in ps) here
    refused h = (
      subst IsSome found (some_mapped (λ (v : Vec ℕ). v.items) (lookup (λ m. bytes_eq (bytes m) here) ps) (has_found bytes here ps h.0)),
      shrinks-unmap whole_of itself (map record_in ps) here (subst (λ ks. Shrinks itself ks here) (keys_are ps stand) (shrinks-map key_in itself ps here h.1)),
    )

    -- a value that is put at it
    module _ (up : AscendsByKey key_in ps) (e : HeldPair) (full : key_in e ≡ here) (free : IsBlocked key_in here ps → ⊥) (new : List HeldPair) (is : new ≡ put_in_order key_in e (without_key key_in (key_in e) ps)) where
      put : AscendsByKey key_in (around key_in e here ps) × (new ≡ around key_in e here ps)
      put =
          let all = put_between key_in e ps up (subst (λ j. IsBlocked key_in j ps → ⊥) (sym full) free) in
          subst (λ j. AscendsByKey key_in (around key_in e j ps) × (new ≡ around key_in e j ps)) full (all.0, is ∙ all.1)

      pub put_ascends : AscendsByKey key_in new
      put_ascends = subst (AscendsByKey key_in) (sym put.1) put.0

      pub put_stands : AllByRecursion StandsUnder new
      put_stands = subst (AllByRecursion StandsUnder) (sym put.1)
          (all_append StandsUnder (filter (λ p. is_below (key_in p) here) ps) (e ∷ filter (λ p. is_below here (key_in p)) ps) (all-filter StandsUnder (λ p. is_below (key_in p) here) ps stand)
          (made_stands t k e small fits full, all-filter StandsUnder (λ p. is_below here (key_in p)) ps stand))

      pub put_records : map record_in new ≡ with_part t (with_pair lt k e.1.items (own_part t (map record_in ps))) (map record_in ps)
      put_records =
          let rs : List (Record K) = map record_in ps in
          let T : List ℕ → Bool = λ b. is_below b here in let U : List ℕ → Bool = λ b. is_below here b in
          let lower = records_cut t (λ u. nat_lt u t) T (λ m. lt m k) (λ u m s f. full_keys_keep_order u t (rest m) (rest k) s small ∙ ap (λ b. nat_lt u t || ((u == t) && b)) (kind.below_is m k f fits)) ps stand in
          let higher = records_cut t (λ u. nat_lt t u) U (λ m. lt k m) (λ u m s f. full_keys_keep_order t u (rest k) (rest m) small s ∙ ap₂ (λ a b. nat_lt t u || (a && b)) (eq_turned t u) (kind.below_is k m fits f)) ps stand in
          let whole : map record_in new ≡ filter (λ r. T (whole_of r)) rs ++ made t (k, e.1.items) ∷ filter (λ r. U (whole_of r)) rs =
          ap (map record_in) put.1 ∙ map-append record_in (filter (λ p. T (key_in p)) ps) (e ∷ filter (λ p. U (key_in p)) ps)
          ∙ ap₂ (λ a b. a ++ record_in e ∷ b) (records_filter T ps stand) (records_filter U ps stand)
          ∙ ap (λ r. filter (λ r. T (whole_of r)) rs ++ r ∷ filter (λ r. U (whole_of r)) rs) (record_made t k e small fits full) in
          whole ∙ put_in_place t (λ r. T (whole_of r)) (λ r. U (whole_of r)) (λ m. lt m k) (λ m. lt k m) rs lower higher (k, e.1.items) (subst Ascends whole (tenants_ascend new put_stands put_ascends))
