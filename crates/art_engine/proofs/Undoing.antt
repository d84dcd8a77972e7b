-- A value that is put in where none was, and is then taken out, leaves the records as they were.
use Rattle.art_engine.proofs.Terms.{PutsAreUndone, NumberPutsAreUndone, AreRecords, Own, Record, Records, KeyRecord, NumberRecord, InOrder, KeyComesBefore, NumberComesBefore, own, own_part, with_own, puts, value_at, has_conflict, with_pair, without_at, with_changed, command_after}
use Rattle.std.proofs.Common.{◌≡◌, ℕ, ℤ, List, [], ◌∷◌, ◌++◌, Option, Some, None, refl, ap, ap₂, sym, ◌∙◌, Bool, true, false, arith, inl, inr, true≢false}
use Rattle.std.specs.Prelude.{◌==◌, int_lt, map, filter, not, option_map, codes, if◌then◌else◌}
use Rattle.std.specs.List.{AllByRecursion, find}
use Rattle.std.specs.Str.{bytes_eq}
use Rattle.std.specs.Ordering.{int_eq, int_cmp, nat_cmp, is_lt}
use Rattle.std.specs.Cmp.Lexicographic.{slice_cmp}
use Rattle.std.proofs.lemmas.Bool.Decides.{Decides-int_eq}
use Rattle.std.proofs.lemmas.Cmp.{int_cmp_total}
use Rattle.std.proofs.lemmas.Slice.Eq.{bytes_eq-Decides}
use Rattle.std.specs.declared.cmp.Ordering.{Ordering}
use Rattle.std.specs.declared.cmp.Ordering.TheVariants.{Less, Equal, Greater}
use Rattle.std.proofs.lemmas.Bool.{cond_both, eqb-true}
use Rattle.art_bytes.proofs.Common.{is_below}
use Rattle.art_lines.proofs.Common.{name, put, del, of_tenant, put_reply}
use Rattle.art_arena.proofs.tree.Filters.{filter_all, filter_none}
use Rattle.art_arena.proofs.Common.{all_weaker}
use Rattle.art_engine.proofs.OwnLaws.{mine, own_from, own_reads_back, own_is_in_place, part_of, with_own_again}
use Rattle.art_engine.proofs.KeyOrder.{cmp_equal, cmp_greater, below_trans, not_both_below}
use Rattle.art_engine.proofs.NumberKeys.{lt-int_cmp, int_lt_turned}

-- what a tenant holds is in order where all records are
module _ {K : Type 0} (Before : Record K → Record K → Type 0) (lt : K → K → Bool) (own_comes : (r s : Record K) → Before r s → r.tenant ≡ s.tenant → lt r.key s.key ≡ true) (t : ℕ) where
  all_after : (r : Record K) (rs : List (Record K)) → r.tenant ≡ t → AllByRecursion (Before r) rs → AllByRecursion (λ p. lt r.key p.0 ≡ true) (own_part t rs)
  all_after r [] is all = tt
  all_after r (s ∷ rs) is all =
      let ih = all_after r rs is all.1 in
      cond_both (s.tenant == t) (s ∷ mine t rs) (mine t rs) (λ l. AllByRecursion (λ p. lt r.key p.0 ≡ true) (map part_of l)) (λ e. (own_comes r s all.0 (is ∙ sym (eqb-true s.tenant t e)), ih)) (λ e. ih)

  own_in_order : (rs : List (Record K)) → InOrder Before rs → InOrder (λ p q. lt p.0 q.0 ≡ true) (own_part t rs)
  own_in_order [] order = tt
  own_in_order (r ∷ rs) order =
      let ih = own_in_order rs order.1 in
      cond_both (r.tenant == t) (r ∷ mine t rs) (mine t rs) (λ l. InOrder (λ p q. lt p.0 q.0 ≡ true) (map part_of l)) (λ e. (all_after r rs (eqb-true r.tenant t e) order.0, ih)) (λ e. ih)

-- what a tenant held is in place again
put_back : (t : ℕ) (r : Records) → AreRecords r → (made : Own) (left : Own → Own) → left made ≡ own t r → with_own t (left (own t (with_own t made r))) (with_own t made r) ≡ r
put_back t r are made left is =
    ap (λ o. with_own t (left o) (with_own t made r)) (own_reads_back t made r) ∙ with_own_again t made (left made) r ∙ ap (λ o. with_own t o r) is ∙ own_is_in_place t r are

-- where nothing is found nothing passes the test
pub none_passes : {X Y : Type 0} (f : X → Y) (test : X → Bool) (xs : List X) → option_map f (find test xs) ≡ None → AllByRecursion (λ x. test x ≡ false) xs
none_passes f test [] none = tt
none_passes f test (x ∷ xs) none =
    cond_both (test x) (Some x) (find test xs) (λ o. option_map f o ≡ None → AllByRecursion (λ x. test x ≡ false) (x ∷ xs))
    (λ e some. absurd (cc)) (λ e rest. (e, none_passes f test xs rest)) none

-- an ascending list, cut at a key that it hasn't
module _ {K V : Type 0} (lt same : K → K → Bool) (k : K) (itself : same k k ≡ true)
    (apart : (j : K) → same j k ≡ false → lt j k ≡ false → lt k j ≡ true) (turned : (i j : K) → lt i j ≡ true → lt j i ≡ false)
    (upward : (i j : K) → lt k i ≡ true → lt i j ≡ true → lt k j ≡ true) where
  abbrev Ascend : List (K × V) → Type 0
  Ascend ps = InOrder (λ p q. lt p.0 q.0 ≡ true) ps

  abbrev AreOthers : List (K × V) → Type 0
  AreOthers ps = AllByRecursion (λ p. same p.0 k ≡ false) ps

  -- a value that is put there and taken out leaves it as it was
  undone : (v : V) (ps : List (K × V)) → Ascend ps → AreOthers ps → filter (λ p. not (same p.0 k)) (filter (λ p. lt p.0 k) ps ++ (k, v) ∷ filter (λ p. lt k p.0) ps) ≡ ps
  undone v [] order others = rw itself refl
  undone v (p ∷ ps) order others = go (lt p.0 k) refl (undone v ps order.1 others.1)
    where
      go : (b : Bool) → lt p.0 k ≡ b → filter (λ p. not (same p.0 k)) (filter (λ p. lt p.0 k) ps ++ (k, v) ∷ filter (λ p. lt k p.0) ps) ≡ ps
          → filter (λ p. not (same p.0 k)) (filter (λ p. lt p.0 k) (p ∷ ps) ++ (k, v) ∷ filter (λ p. lt k p.0) (p ∷ ps)) ≡ p ∷ ps
      go true e ih = rw (e, turned p.0 k e, others.0) (ap (λ l. p ∷ l) ih)
      go false e ih =
          let up = apart p.0 others.0 e in
          let high = all_weaker (λ (q : K × V). lt p.0 q.0 ≡ true) (λ q. lt k q.0 ≡ true) (λ q h. upward p.0 q.0 up h) ps order.0 in
          let none = filter_none (λ (q : K × V). lt q.0 k) ps (all_weaker (λ (q : K × V). lt k q.0 ≡ true) (λ q. lt q.0 k ≡ false) (λ q h. turned k q.0 h) ps high) in
          let all = filter_all (λ (q : K × V). not (same q.0 k)) ps (all_weaker (λ (q : K × V). same q.0 k ≡ false) (λ q. not (same q.0 k) ≡ true) (λ q h. ap not h) ps others.1) in
          rw (e, up, none, filter_all (λ (q : K × V). lt k q.0) ps high, itself, others.0) (ap (λ l. p ∷ l) all)

-- keys

key_apart : (k j : List ℕ) → bytes_eq j k ≡ false → is_below j k ≡ false → is_below k j ≡ true
key_apart k j other low = go (slice_cmp nat_cmp j k) refl
  where
    go : (o : Ordering) → slice_cmp nat_cmp j k ≡ o → is_below k j ≡ true
    go Less e = absurd (true≢false (sym (ap is_lt e) ∙ low))
    go Equal e = absurd (true≢false (sym ((bytes_eq-Decides j k).1 (cmp_equal j k e)) ∙ other))
    go Greater e = cmp_greater j k e

key_comes : (r s : KeyRecord) → KeyComesBefore r s → r.tenant ≡ s.tenant → is_below r.key s.key ≡ true
key_comes r s (inl lt) same = absurd (omega (arith, lt, same))
key_comes r s (inr up) same = up.1

new_means : (old : Option (List ℕ)) (conflict : Bool) → put_reply old conflict ∷ [] ≡ (name (codes "new") ∷ []) ∷ [] → (old ≡ None) × (conflict ≡ false)
new_means None false is = (refl, refl)
new_means old conflict is = absurd (cc)

pub puts_are_undone : PutsAreUndone
puts_are_undone t k v r are new =
    let mine : Own = own t r in
    let made : Own = record { keys = with_pair is_below k v mine.keys; numbers = mine.numbers } in
    let is = new_means (value_at bytes_eq k mine.keys) (has_conflict k mine.keys) new in
    let put_is : command_after (Some (of_tenant t (put k v))) r ≡ with_own t made r =
    ap₂ (λ old conflict. with_changed t (if puts old conflict then Some made else None) r) is.0 is.1 in
    let order = own_in_order KeyComesBefore is_below key_comes t r.keys are.keys_in_order in
    let others = none_passes (λ (p : List ℕ × List ℕ). p.1) (λ p. bytes_eq p.0 k) mine.keys is.0 in
    ap (command_after (Some (of_tenant t (del k)))) put_is
    ∙ put_back t r are made (λ o. record { keys = without_at bytes_eq k o.keys; numbers = o.numbers })
    (own_from _ _ _ _ (undone is_below bytes_eq k ((bytes_eq-Decides k k).1 refl) (key_apart k) not_both_below (below_trans k) v mine.keys order others) refl)

-- numbers

number_apart : (k j : ℤ) → int_eq j k ≡ false → int_lt j k ≡ false → int_lt k j ≡ true
number_apart k j other low = go (int_lt k j) refl
  where
    go : (b : Bool) → int_lt k j ≡ b → int_lt k j ≡ true
    go true e = e
    go false e = let equal : int_eq j k ≡ true = rw (low, e) refl in absurd (true≢false (sym equal ∙ other))

number_upward : (k i j : ℤ) → int_lt k i ≡ true → int_lt i j ≡ true → int_lt k j ≡ true
number_upward k i j h l =
    let low : int_cmp k i ≡ Less = rw h refl in
    let high : int_cmp i j ≡ Less = rw l refl in
    sym (lt-int_cmp k j) ∙ ap is_lt (int_cmp_total.trans k i j low high)

number_comes : (r s : NumberRecord) → NumberComesBefore r s → r.tenant ≡ s.tenant → int_lt r.key s.key ≡ true
number_comes r s (inl lt) same = absurd (omega (arith, lt, same))
number_comes r s (inr up) same = up.1

pub number_puts_are_undone : NumberPutsAreUndone
number_puts_are_undone t n v r are new =
    let mine : Own = own t r in
    let made : Own = record { keys = mine.keys; numbers = with_pair int_lt n v mine.numbers } in
    let is = new_means (value_at int_eq n mine.numbers) false new in
    let order = own_in_order NumberComesBefore int_lt number_comes t r.numbers are.numbers_in_order in
    let others = none_passes (λ (p : ℤ × List ℕ). p.1) (λ p. int_eq p.0 n) mine.numbers is.0 in
    put_back t r are made (λ o. record { keys = o.keys; numbers = without_at int_eq n o.numbers })
    (own_from _ _ _ _ refl (undone int_lt int_eq n ((Decides-int_eq n n).1 refl) (number_apart n) int_lt_turned (number_upward n) v mine.numbers order others))
