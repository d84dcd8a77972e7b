-- What a look-up reads, told by what is known of its count: it is short, and the tenant's own path where it finds a record.
use Rattle.std.proofs.Common.{◌≡◌, ℕ, ℤ, ◌+◌, ◌<◌, ◌≤◌, ◌^◌, List, [], length, refl, sym, ap, ◌∙◌, subst, Bool, true, arith, bytes_eq, append_assoc, append-nil, Option, Some, None}
use Rattle.std.specs.Prelude.{IsSome, option_map}
use Rattle.std.specs.Ordering.{int_eq}
use Rattle.std.proofs.lemmas.Bool.Decides.{Decides-int_eq}
use Rattle.art_bytes.proofs.Common.{pair_key, BeginsWith}
use Rattle.std.specs.List.{AllByRecursion, find}
use Rattle.std.specs.Int.{to_be_bytes, w32}
use Rattle.std.proofs.lemmas.Slice.Eq.{bytes_eq-Decides}
use Rattle.art_arena.proofs.Common.{AscendsByKey, IsIn, begins_with, all_at, begins_true, all_weaker}
use Rattle.art_lines.proofs.Common.{get, find as find_front, nget, Command, of_tenant, full_key}
use Rattle.art_engine.proofs.Terms.{exactly, look_up_nodes, path_nodes, value_at, visits_of, IsWithin, IsShort, IsOwnPath, ReadsOwnPath, full_key_of, number_key_of, Record, Records, AreRecords, InOrder, KeyFits, NumberFits, own, own_part}
use Rattle.art_engine.proofs.Counting.{look_up_is_short, look_up_whole_path, own_path, own_way, found_record, some_own}
use Rattle.art_engine.specs.Replies.{front_at}
use Rattle.art_engine.proofs.KeyKinds.{under_keys, under_numbers}
use Rattle.art_engine.proofs.NumberKeys.{bytes_of_number}
use Rattle.art_engine.proofs.OwnLaws.{part_of}
use Rattle.art_engine.proofs.TenantKeys.{Kind, RecordFits, ascend, whole_of}

-- of a tenant's key that begins with a prefix, the full key begins with the prefix's
begins_fully : (t : ℕ) (j k : List ℕ) → BeginsWith j k → BeginsWith (full_key t j) (full_key t k)
begins_fully t j k (s, e) = (s, ap (full_key t) e ∙ sym (append_assoc (to_be_bytes w32 t) j s))

found_some : {A B : Type 0} (f : A → B) (o : Option A) → IsSome (option_map f o) → IsSome o
found_some f None some = absurd (cc)
found_some f (Some a) some = refl

-- a record of the tenant's with whose full key that of what is looked for begins
abbrev pub IsFoundBy : {K M : Type 0} {bytes : M → List ℕ} {rest : K → List ℕ} {back : List ℕ → K} {Fits : K → Type 0} {lt same : K → K → Bool} {Before : Record K → Record K → Type 0}
    → Kind bytes rest back Fits lt same Before → ℕ → List (Record K) → List ℕ → Type 0
IsFoundBy {K} kind t rs k = (x : Record K) × IsIn x rs × (x.tenant ≡ t) × BeginsWith (whole_of kind x) (full_key t k)

-- Of records of one kind a tenant has some: then the paths of its full keys are its own.
module _ {K M : Type 0} {bytes : M → List ℕ} {rest : K → List ℕ} {back : List ℕ → K} {Fits : K → Type 0} {lt same : K → K → Bool} {Before : Record K → Record K → Type 0}
    (kind : Kind bytes rest back Fits lt same Before) (t : ℕ) (rs : List (Record K)) (fits : AllByRecursion (RecordFits kind) rs) (order : InOrder Before rs) where
  abbrev IsSmall : Record K → Type 0
  IsSmall r = r.tenant < 2 ^ 32

  small : AllByRecursion IsSmall rs
  small = all_weaker (RecordFits kind) IsSmall (λ r h. h.0) rs fits

  has_bytes : (x : Record K) → IsIn x rs → x.tenant ≡ t → t < 2 ^ 32
  has_bytes x i mine = subst (λ u. u < 2 ^ 32) mine (all_at IsSmall x rs small i)

  abbrev IsOwn : List ℕ → Type 0
  IsOwn full = IsOwnPath (whole_of kind) (λ r. r.tenant) t full rs (path_nodes (whole_of kind) rs full)

  -- where a key is found that what is looked for begins with
  found_by : (T : K → Bool) (k : List ℕ) → ((j : K) → T j ≡ true → BeginsWith (rest j) k) → IsSome (find (λ p. T p.0) (own_part t rs)) → IsFoundBy kind t rs k
  found_by T k fronts some =
      let f = found_record (λ (r : Record K). r.tenant) part_of t T rs some in
      (f.0, f.1, f.2, subst (λ u. BeginsWith (full_key u (rest f.0.key)) (full_key t k)) (sym f.2) (begins_fully t (rest f.0.key) k (fronts f.0.key f.3)))

  path_of_found : (k : List ℕ) → IsFoundBy kind t rs k → IsOwn (full_key t k)
  path_of_found k f = own_path (whole_of kind) (λ r. r.tenant) (λ r. rest r.key) (λ r. refl) t (has_bytes f.0 f.1 f.2) rs (ascend kind rs fits order) small f.0 f.1 f.2 (full_key t k) f.3

  -- and a look-up reads the whole path
  pub all_read : (P : ℕ) (k : List ℕ) → IsFoundBy kind t rs k → look_up_nodes (whole_of kind) P rs (full_key t k) ≡ path_nodes (whole_of kind) rs (full_key t k)
  all_read P k f = look_up_whole_path (whole_of kind) (λ r. r.tenant) (λ r. rest r.key) (λ r. refl) t (has_bytes f.0 f.1 f.2) P rs (ascend kind rs fits order) f.0 f.1 (full_key t k) f.3

  look_up_own : (P n : ℕ) (k : List ℕ) → IsWithin (exactly (look_up_nodes (whole_of kind) P rs (full_key t k))) n → IsFoundBy kind t rs k → IsOwnPath (whole_of kind) (λ r. r.tenant) t (full_key t k) rs n
  look_up_own P n k w f =
      let low = w.0 in let high = w.1 in let same = all_read P k f in
      let is : path_nodes (whole_of kind) rs (full_key t k) ≡ n = omega arith in subst (IsOwnPath (whole_of kind) (λ r. r.tenant) t (full_key t k) rs) is (path_of_found k f)

  -- that of any full key
  way_of_any : (k : List ℕ) → (own_part t rs ≡ [] → ⊥) → IsOwn (full_key t k)
  way_of_any k some =
      let x = some_own (λ (r : Record K). r.tenant) part_of t rs some in
      own_way (whole_of kind) (λ r. r.tenant) (λ r. rest r.key) (λ r. refl) t (has_bytes x.0 x.1 x.2) rs (ascend kind rs fits order) small x.0 x.1 x.2 k

pub keys_fit : (records : Records) → AreRecords records → AllByRecursion (RecordFits under_keys) records.keys
keys_fit records are = all_weaker KeyFits (RecordFits under_keys) (λ r fits. (fits.tenant_fits, tt)) records.keys are.keys_fit

pub numbers_fit : (records : Records) → AreRecords records → AllByRecursion (RecordFits under_numbers) records.numbers
numbers_fit records are = all_weaker NumberFits (RecordFits under_numbers) (λ r fits. (fits.tenant_fits, fits.number_fits)) records.numbers are.numbers_fit

pub keys_ascend : (records : Records) → AreRecords records → AscendsByKey full_key_of records.keys
keys_ascend records are = ascend under_keys records.keys (keys_fit records are) are.keys_in_order

pub all_numbers_ascend : (records : Records) → AreRecords records → AscendsByKey number_key_of records.numbers
all_numbers_ascend records are = ascend under_numbers records.numbers (numbers_fit records are) are.numbers_in_order

pub own_way_of : (t : ℕ) (k : List ℕ) (records : Records) → AreRecords records → ((own t records).keys ≡ [] → ⊥)
    → IsOwnPath full_key_of (λ r. r.tenant) t (full_key t k) records.keys (path_nodes full_key_of records.keys (full_key t k))
own_way_of t k records are = way_of_any under_keys t records.keys (keys_fit records are) are.keys_in_order k

pub own_way_of_number : (t : ℕ) (k : List ℕ) (records : Records) → AreRecords records → ((own t records).numbers ≡ [] → ⊥)
    → IsOwnPath number_key_of (λ r. r.tenant) t (full_key t k) records.numbers (path_nodes number_key_of records.numbers (full_key t k))
own_way_of_number t k records are = way_of_any under_numbers t records.numbers (numbers_fit records are) are.numbers_in_order k

equal_front : (j k : List ℕ) → j ≡ k → BeginsWith j k
equal_front j k e = ([], sym e ∙ sym (append-nil j))

short_key : (P t : ℕ) (k : List ℕ) (records : Records) (n : ℕ) → n ≤ look_up_nodes full_key_of P records.keys (full_key t k) → n ≤ length k + 5
short_key P t k records n few = let short = look_up_is_short full_key_of P records.keys (full_key t k) in omega arith

pub short_of : (P : ℕ) (c : Option Command) (records : Records) (n : ℕ) → IsWithin (visits_of P c records) n → IsShort c n
short_of P (Some (of_tenant t (get k))) records n w = short_key P t k records n w.1
short_of P (Some (of_tenant t (find_front k))) records n w = short_key P t k records n w.1
short_of P (Some (of_tenant t (nget m))) records n w =
    let short = look_up_is_short number_key_of P records.numbers (pair_key (t, m)) in
    let long : length (pair_key (t, m)) ≡ 12 = refl in
    let few = w.1 in
    omega arith
short_of P c records n w = tt

-- the record that each look-up finds
module _ (t : ℕ) (records : Records) (are : AreRecords records) where
  pub got : (k : List ℕ) → IsSome (value_at bytes_eq k (own t records).keys) → IsFoundBy under_keys t records.keys k
  got k some =
      found_by under_keys t records.keys (keys_fit records are) are.keys_in_order (λ j. bytes_eq j k) k (λ j e. equal_front j k ((bytes_eq-Decides j k).0 e))
      (found_some (λ (p : List ℕ × List ℕ). p.1) (find (λ p. bytes_eq p.0 k) (own t records).keys) some)

  pub found_front : (k : List ℕ) → IsSome (front_at k (own t records).keys) → IsFoundBy under_keys t records.keys k
  found_front k some = found_by under_keys t records.keys (keys_fit records are) are.keys_in_order (λ j. begins_with j k) k (λ j e. begins_true j k e) some

  pub got_number : (m : ℤ) → IsSome (value_at int_eq m (own t records).numbers) → IsFoundBy under_numbers t records.numbers (bytes_of_number m)
  got_number m some =
      found_by under_numbers t records.numbers (numbers_fit records are) are.numbers_in_order (λ l. int_eq l m) (bytes_of_number m) (λ l e. equal_front _ _ (ap bytes_of_number ((Decides-int_eq l m).0 e)))
      (found_some (λ (p : ℤ × List ℕ). p.1) (find (λ p. int_eq p.0 m) (own t records).numbers) some)

pub own_path_of : (P : ℕ) (c : Option Command) (records : Records) (n : ℕ) → AreRecords records → IsWithin (visits_of P c records) n → ReadsOwnPath c records n
own_path_of P (Some (of_tenant t (get k))) records n are w = λ some. look_up_own under_keys t records.keys (keys_fit records are) are.keys_in_order P n k w (got t records are k some)
own_path_of P (Some (of_tenant t (find_front k))) records n are w = λ some. look_up_own under_keys t records.keys (keys_fit records are) are.keys_in_order P n k w (found_front t records are k some)
own_path_of P (Some (of_tenant t (nget m))) records n are w = λ some. look_up_own under_numbers t records.numbers (numbers_fit records are) are.numbers_in_order P n (bytes_of_number m) w (got_number t records are m some)
own_path_of P c records n are w = tt
