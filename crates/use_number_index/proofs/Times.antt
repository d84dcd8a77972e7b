-- The order of the keys is that of the times; what is added to an index and what is its first.
use Rattle.std.proofs.Common.{◌≡◌, ◌≢◌, ℕ, ◌<◌, ◌≤◌, ◌^◌, ◌⊎◌, Bool, true, false, cond, not, List, [], ◌∷◌, bytes_eq}
use Rattle.std.proofs.Common.{lit<, refl, sym, ap, ◌∙◌, subst, inl, inr, arith, rules, le-ltb, ne_eqb}
use Rattle.std.specs.Prelude.{option_map}
use Rattle.std.specs.List.{AllByRecursion}
use Rattle.std.specs.Map.{values_of}
use Rattle.std.specs.Ordering.{nat_cmp}
use Rattle.std.specs.declared.cmp.Ordering.TheVariants.{Less, Greater}
use Rattle.std.proofs.lemmas.Bool.{cond-false, cases_lt}
use Rattle.art_bytes.proofs.Common.{IsBefore, big_endian, before_cmp}
use Rattle.art_bytes.specs.Mappings.{HaveFixedBytes}
use Rattle.art_bytes.specs.lemmas.FixedLaws.{unsigned_bytes}
use Rattle.art_arena.proofs.Common.{IsIn, put_in_order, is_before, AscendsByKey, bytes_from_same}
use Rattle.art_operations.proofs.Common.{without_key}
use Rattle.art_map.proofs.Common.{first_item}
use Rattle.use_number_index.specs.declared.Entry.{Entry}
use Rattle.use_number_index.specs.Entries.{IsKeyed, AreEntries, IsEarliest, IsEntryAdded}

-- the key of a pair of the index
abbrev pub bytes_of : List ℕ × Entry → List ℕ
bytes_of p = p.0

-- each time has its own key, and the order of the keys is theirs
fixed : HaveFixedBytes 8 (λ n. n < 256 ^ 8) (big_endian 8) nat_cmp
fixed = unsigned_bytes 8 (lit< tt)

not_above : (a b : ℕ) → nat_cmp a b ≡ Less → a ≤ b
not_above a b e = elim (cases_lt b a) [
  | inl less ↦
      let above : nat_cmp a b ≡ Greater = cond-false _ _ _ (le-ltb a b (omega arith)) ∙ cond-false _ _ _ (ne_eqb a b (λ s. omega arith)) in
      let f : Greater ≡ Less = sym above ∙ e in absurd (cc)
  | inr le ↦ le
]

fits : (p : List ℕ × Entry) → IsKeyed p → p.1.time < 256 ^ 8
fits p k = search (rules, k.1)

earlier : (p q : List ℕ × Entry) → IsKeyed p → IsKeyed q → IsBefore (bytes_of p) (bytes_of q) → p.1.time ≤ q.1.time
earlier p q k l b =
    let less : IsBefore (big_endian 8 p.1.time) (big_endian 8 q.1.time) =
    subst (λ m. IsBefore m (big_endian 8 q.1.time)) k.0 (subst (IsBefore (bytes_of p)) l.0 b) in
    not_above p.1.time q.1.time
    (fixed.ordered p.1.time q.1.time (fits p k) (fits q l) ∙ before_cmp (big_endian 8 p.1.time) (big_endian 8 q.1.time) less)

all_later : (p : List ℕ × Entry) (qs : List (List ℕ × Entry)) → IsKeyed p → AreEntries qs
    → AllByRecursion (λ q. IsBefore (bytes_of p) (bytes_of q)) qs → (o : Entry) → IsIn o (values_of qs) → p.1.time ≤ o.time
all_later p [] k ks bs o i = absurd i
all_later p (q ∷ qs) k ks bs o (inl e) = subst (λ (z : Entry). p.1.time ≤ z.time) e (earlier p q k ks.0 bs.0)
all_later p (q ∷ qs) k ks bs o (inr i) = all_later p qs k ks.1 bs.1 o i

-- the first of an index is the earliest
pub first_is_earliest : (ps : List (List ℕ × Entry)) → AreEntries ps → AscendsByKey bytes_of ps
    → IsEarliest (values_of ps) (option_map (λ p. p.1) (first_item ps))
first_is_earliest [] k asc = λ o i. i
first_is_earliest (p ∷ ps) k asc = (inl refl, λ o i. by_place o i)
  where
    by_place : (o : Entry) → IsIn o (values_of (p ∷ ps)) → p.1.time ≤ o.time
    by_place o (inl e) = subst (λ (z : Entry). p.1.time ≤ z.time) e (omega arith)
    by_place o (inr i) = all_later p ps k.0 k.1 asc.0 o i

-- putting in

put_self : (p : List ℕ × Entry) (ps : List (List ℕ × Entry)) → IsIn p.1 (values_of (put_in_order bytes_of p ps))
put_self p [] = inl refl
put_self p (x ∷ xs) = by_place (is_before (bytes_of p) (bytes_of x)) (put_self p xs)
  where
    by_place : (b : Bool) → IsIn p.1 (values_of (put_in_order bytes_of p xs)) → IsIn p.1 (values_of (cond b (p ∷ x ∷ xs) (x ∷ put_in_order bytes_of p xs)))
    by_place true h = inl refl
    by_place false h = inr h

put_keeps : (p : List ℕ × Entry) (ps : List (List ℕ × Entry)) (o : Entry) → IsIn o (values_of ps) → IsIn o (values_of (put_in_order bytes_of p ps))
put_keeps p [] o i = absurd i
put_keeps p (x ∷ xs) o i = by_place (is_before (bytes_of p) (bytes_of x)) i (put_keeps p xs o)
  where
    by_place : (b : Bool) → IsIn o (values_of (x ∷ xs)) → (IsIn o (values_of xs) → IsIn o (values_of (put_in_order bytes_of p xs)))
        → IsIn o (values_of (cond b (p ∷ x ∷ xs) (x ∷ put_in_order bytes_of p xs)))
    by_place true i later = inr i
    by_place false (inl e) later = inl e
    by_place false (inr j) later = inr (later j)

put_adds : (p : List ℕ × Entry) (ps : List (List ℕ × Entry)) (o : Entry) → IsIn o (values_of (put_in_order bytes_of p ps)) → (o ≡ p.1) ⊎ IsIn o (values_of ps)
put_adds p [] o (inl e) = inl (sym e)
put_adds p [] o (inr i) = absurd i
put_adds p (x ∷ xs) o i = by_place (is_before (bytes_of p) (bytes_of x)) i (put_adds p xs o)
  where
    by_place : (b : Bool) → IsIn o (values_of (cond b (p ∷ x ∷ xs) (x ∷ put_in_order bytes_of p xs)))
        → (IsIn o (values_of (put_in_order bytes_of p xs)) → (o ≡ p.1) ⊎ IsIn o (values_of xs)) → (o ≡ p.1) ⊎ IsIn o (values_of (x ∷ xs))
    by_place true (inl e) later = inl (sym e)
    by_place true (inr i) later = inr i
    by_place false (inl e) later = inr (inl e)
    by_place false (inr i) later = elim (later i) [
      | inl e ↦ inl e
      | inr j ↦ inr (inr j)
    ]

put_keyed : (p : List ℕ × Entry) (ps : List (List ℕ × Entry)) → IsKeyed p → AreEntries ps → AreEntries (put_in_order bytes_of p ps)
put_keyed p [] k ks = (k, tt)
put_keyed p (x ∷ xs) k ks = by_place (is_before (bytes_of p) (bytes_of x)) (put_keyed p xs k ks.1)
  where
    by_place : (b : Bool) → AreEntries (put_in_order bytes_of p xs) → AreEntries (cond b (p ∷ x ∷ xs) (x ∷ put_in_order bytes_of p xs))
    by_place true later = (k, ks)
    by_place false later = (ks.0, later)

-- what has the key of a time has that time

same_time : (p : List ℕ × Entry) (n : Entry) → IsKeyed p → n.time < 2 ^ 64 → bytes_of p ≡ big_endian 8 n.time
    → p.1.time ≡ n.time
same_time p n k time e = fixed.one_value p.1.time n.time (fits p k) (search (rules, time)) (sym k.0 ∙ e)

without_keyed : (b : List ℕ) (ps : List (List ℕ × Entry)) → AreEntries ps → AreEntries (without_key bytes_of b ps)
without_keyed b [] k = tt
without_keyed b (x ∷ xs) k = by_test (bytes_eq (bytes_of x) b) (without_keyed b xs k.1)
  where
    by_test : (c : Bool) → AreEntries (without_key bytes_of b xs)
        → AreEntries (cond (not c) (x ∷ without_key bytes_of b xs) (without_key bytes_of b xs))
    by_test true later = later
    by_test false later = (k.0, later)

without_less : (b : List ℕ) (ps : List (List ℕ × Entry)) (o : Entry) → IsIn o (values_of (without_key bytes_of b ps)) → IsIn o (values_of ps)
without_less b [] o i = i
without_less b (x ∷ xs) o i = by_test (bytes_eq (bytes_of x) b) i (without_less b xs o)
  where
    by_test : (c : Bool) → IsIn o (values_of (cond (not c) (x ∷ without_key bytes_of b xs) (without_key bytes_of b xs)))
        → (IsIn o (values_of (without_key bytes_of b xs)) → IsIn o (values_of xs)) → IsIn o (values_of (x ∷ xs))
    by_test true i later = inr (later i)
    by_test false (inl e) later = inl e
    by_test false (inr i) later = inr (later i)

without_others : (n : Entry) → n.time < 2 ^ 64 → (ps : List (List ℕ × Entry)) → AreEntries ps → (o : Entry)
    → o.time ≢ n.time → IsIn o (values_of ps) → IsIn o (values_of (without_key bytes_of (big_endian 8 n.time) ps))
without_others n time [] k o differs i = i
without_others n time (x ∷ xs) k o differs i =
    by_test (bytes_eq (bytes_of x) (big_endian 8 n.time)) refl i (without_others n time xs k.1 o differs)
  where
    by_test : (c : Bool) → bytes_eq (bytes_of x) (big_endian 8 n.time) ≡ c → IsIn o (values_of (x ∷ xs))
        → (IsIn o (values_of xs) → IsIn o (values_of (without_key bytes_of (big_endian 8 n.time) xs)))
        → IsIn o (values_of (cond (not c) (x ∷ without_key bytes_of (big_endian 8 n.time) xs)
        (without_key bytes_of (big_endian 8 n.time) xs)))
    by_test true at (inl e) later = absurd (differs
        (ap (λ (z : Entry). z.time) (sym e) ∙ same_time x n k.0 time (bytes_from_same _ _ at)))
    by_test true at (inr j) later = later j
    by_test false at (inl e) later = inl e
    by_test false at (inr j) later = inr (later j)

module _ (key : List ℕ) (n : Entry) (ps : List (List ℕ × Entry)) (k : IsKeyed (key, n)) (ks : AreEntries ps) where
  -- what is put in under its key in the place of what had that key
  abbrev with_entry : List (List ℕ × Entry)
  with_entry = put_in_order bytes_of (key, n) (without_key bytes_of key ps)

  pub added_keyed : AreEntries with_entry
  added_keyed = put_keyed (key, n) (without_key bytes_of key ps) k (without_keyed key ps ks)

  pub added : IsEntryAdded n (values_of ps) (values_of with_entry)
  added = (put_self (key, n) (without_key bytes_of key ps), (λ o differs i. kept o differs i), (λ o i. old o (put_adds (key, n) (without_key bytes_of key ps) o i)))
    where
      kept : (o : Entry) → o.time ≢ n.time → IsIn o (values_of ps) → IsIn o (values_of with_entry)
      kept o differs i = put_keeps (key, n) (without_key bytes_of key ps) o
          (subst (λ b. IsIn o (values_of (without_key bytes_of b ps))) (sym k.0) (without_others n k.1 ps ks o differs i))

      old : (o : Entry) → (o ≡ n) ⊎ IsIn o (values_of (without_key bytes_of key ps)) → (o ≡ n) ⊎ IsIn o (values_of ps)
      old o (inl e) = inl e
      old o (inr j) = inr (without_less key ps o j)
