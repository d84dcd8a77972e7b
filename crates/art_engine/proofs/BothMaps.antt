-- What is asked of records under keys leaves those under numbers, and the other way.
use Rattle.std.proofs.Common.{◌≡◌, ℕ, ℤ, List, [], map, refl, ap, sym, Bool, true, false, cond}
use Rattle.std.specs.Prelude.{Some, None, int_lt}
use Rattle.art_engine.specs.declared.change.Changed.{Changed}
use Rattle.art_engine.specs.declared.change.Changed.TheVariants as changed
use Rattle.art_lines.proofs.Common.{put, over, del, nput, ndel, of_tenant}
use Rattle.art_engine.proofs.Terms.{InOrder, KeyComesBefore, NumberComesBefore, own, value_at, has_conflict, with_pair, with_value_over, without_at, puts, with_changed, Pair, NumberPair, record_of, number_record_of, records_of, number_records_of}
use Rattle.art_engine.proofs.Terms.{all_records_of, IsChangeDone}
use Rattle.art_engine.proofs.OwnLaws.{key_ascends, number_ascends, in_place, records_from_lists}
use Rattle.std.specs.Str.{bytes_eq}
use Rattle.std.specs.Ordering.{int_eq}
use Rattle.art_bytes.proofs.Common.{is_below}

module _ (ps new : List Pair) (ns : List NumberPair) (order : InOrder NumberComesBefore (map number_record_of ns)) where
  -- what a tenant holds under keys is changed, or nothing is
  keys_changed : (b : Bool) (t : ℕ) (ks : List (List ℕ × List ℕ)) → records_of new ≡ with_changed t (cond b (Some (record { keys = ks; numbers = (own t (records_of ps)).numbers })) None) (records_of ps)
      → all_records_of new ns ≡ with_changed t (cond b (Some (record { keys = ks; numbers = (own t (all_records_of ps ns)).numbers })) None) (all_records_of ps ns)
  keys_changed true t ks h = records_from_lists _ _ _ _ (ap (λ r. r.keys) h) (sym (in_place t (map number_record_of ns) (number_ascends (map number_record_of ns) order)))
  keys_changed false t ks h = records_from_lists _ _ _ _ (ap (λ r. r.keys) h) refl

  pub put_in_both : (p : Changed) (t : ℕ) (k v : List ℕ) → IsChangeDone p (of_tenant t (put k v)) (records_of ps) (records_of new)
      → IsChangeDone p (of_tenant t (put k v)) (all_records_of ps ns) (all_records_of new ns)
  put_in_both changed.Memory t k v h = (keys_changed false t [] h.0, tt)
  put_in_both p t k v h = (h.0, keys_changed (puts (value_at bytes_eq k (own t (records_of ps)).keys) (has_conflict k (own t (records_of ps)).keys)) t (with_pair is_below k v (own t (records_of ps)).keys) h.1)

  pub over_in_both : (p : Changed) (t : ℕ) (k v : List ℕ) → IsChangeDone p (of_tenant t (over k v)) (records_of ps) (records_of new)
      → IsChangeDone p (of_tenant t (over k v)) (all_records_of ps ns) (all_records_of new ns)
  over_in_both changed.Memory t k v h = (keys_changed false t [] h.0, tt)
  over_in_both p t k v h = (h.0, keys_changed true t (with_value_over k v (own t (records_of ps)).keys) h.1)

  pub del_in_both : (p : Changed) (t : ℕ) (k : List ℕ) → IsChangeDone p (of_tenant t (del k)) (records_of ps) (records_of new)
      → IsChangeDone p (of_tenant t (del k)) (all_records_of ps ns) (all_records_of new ns)
  del_in_both changed.Memory t k h = (keys_changed false t [] h.0, h.1)
  del_in_both p t k h = (h.0, keys_changed true t (without_at bytes_eq k (own t (records_of ps)).keys) h.1)

module _ (ps : List Pair) (ns new : List NumberPair) (order : InOrder KeyComesBefore (map record_of ps)) where
  -- what a tenant holds under numbers is changed, or nothing is
  numbers_changed : (b : Bool) (t : ℕ) (ms : List (ℤ × List ℕ)) → number_records_of new ≡ with_changed t (cond b (Some (record { keys = (own t (number_records_of ns)).keys; numbers = ms })) None) (number_records_of ns)
      → all_records_of ps new ≡ with_changed t (cond b (Some (record { keys = (own t (all_records_of ps ns)).keys; numbers = ms })) None) (all_records_of ps ns)
  numbers_changed true t ms h = records_from_lists _ _ _ _ (sym (in_place t (map record_of ps) (key_ascends (map record_of ps) order))) (ap (λ r. r.numbers) h)
  numbers_changed false t ms h = records_from_lists _ _ _ _ refl (ap (λ r. r.numbers) h)

  pub nput_in_both : (p : Changed) (t : ℕ) (n : ℤ) (v : List ℕ) → IsChangeDone p (of_tenant t (nput n v)) (number_records_of ns) (number_records_of new)
      → IsChangeDone p (of_tenant t (nput n v)) (all_records_of ps ns) (all_records_of ps new)
  nput_in_both changed.Memory t n v h = (numbers_changed false t [] h.0, tt)
  nput_in_both p t n v h = (h.0, numbers_changed true t (with_pair int_lt n v (own t (number_records_of ns)).numbers) h.1)

  pub ndel_in_both : (p : Changed) (t : ℕ) (n : ℤ) → IsChangeDone p (of_tenant t (ndel n)) (number_records_of ns) (number_records_of new)
      → IsChangeDone p (of_tenant t (ndel n)) (all_records_of ps ns) (all_records_of ps new)
  ndel_in_both changed.Memory t n h = (numbers_changed false t [] h.0, h.1)
  ndel_in_both p t n h = (h.0, numbers_changed true t (without_at int_eq n (own t (number_records_of ns)).numbers) h.1)
