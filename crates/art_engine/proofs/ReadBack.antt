-- The lines of a dump, carried out from no records: what they are answered, and what they leave.
use Rattle.std.proofs.Common.{◌≡◌, ℕ, ℤ, ◌+◌, ◌<◌, ◌⊎◌, List, [], ◌∷◌, ◌++◌, length, map, refl, ap, ap₂, sym, ◌∙◌, subst, Bool, true, false, arith, append-nil, append_assoc, inl, inr, Option, Some, None}
use Rattle.std.specs.Prelude.{◌==◌, ◌||◌, ◌&&◌, nat_lt, int_lt, filter, flat_map, replicate, codes, option_map}
use Rattle.std.specs.List.{AllByRecursion, fold}
use Rattle.std.specs.Ordering.{int_eq}
use Rattle.std.proofs.Math.Bool.{or_comm}
use Rattle.std.proofs.lemmas.Bool.{both_ways, eq-eqb, ne_eqb, eqb-true, lt-ltb, le-ltb}
use Rattle.std.proofs.lemmas.Grind.{flat_map-append}
use Rattle.std.proofs.lemmas.List.{map-append, replicate-append-replicate}
use Rattle.art_bytes.proofs.Common.{conflicts, is_below, is_proper_front}
use Rattle.art_lines.proofs.Common.{lines_of, name, text_of, line_of, put, nput, Command, of_tenant, put_reply, end_words}
use Rattle.art_lines.specs.Words.{Word}
use Rattle.art_lines.specs.Reading.{command_of}
use Rattle.art_engine.proofs.Terms.{KeyRecord, NumberRecord, Record, Records, no_records, own, own_part, with_part, InOrder, KeyComesBefore, NumberComesBefore, KeyFits, NumberFits, AreRecords, value_at, has_conflict, with_pair, command_reply, command_after, key_lines, number_lines}
use Rattle.art_engine.proofs.Terms.{dump_of, answers, reply_to, records_after, dump_text, DumpsTellRecords, DumpsAreReadBack}
use Rattle.art_engine.proofs.Conflicts.{any-some, some}
use Rattle.art_engine.proofs.Dumping.{words_put, words_nput}
use Rattle.art_engine.proofs.DumpTexts.{put_spelled, nput_spelled, end_spelled, put_lines, nput_lines, end_line, OneLine, lines_are}
use Rattle.art_engine.proofs.Filters.{All-each, InOrder-before, InOrder-left, find-first, first}
use Rattle.art_arena.proofs.tree.Filters.{filter_all, filter_none}
use Rattle.art_arena.proofs.Common.{all_weaker, all_append, other_key}
use Rattle.art_engine.proofs.OwnLaws.{Ascends, key_ascends, in_place, records_from_lists, tenants_ascend}
use Rattle.art_engine.proofs.NumberKeys.{int_lt_turned}
use Rattle.art_engine.proofs.OwnParts.{own_cut, put_in_place}
use Rattle.art_engine.proofs.Placing.{new_done}
use Rattle.art_engine.proofs.KeyOrder.{not_below_itself, not_both_below}
use Rattle.std.specs.Str.{bytes_eq}

-- what lines are answered, and what they leave, where each finds memory
abbrev pub replies : Records → List (List ℕ) → List ℕ
replies r [] = []
replies r (l ∷ ls) = reply_to r l ++ replies (records_after r l) ls

abbrev pub after : Records → List (List ℕ) → Records
after r ls = fold records_after r ls

answers_are : (r : Records) (ls : List (List ℕ)) → answers r (map (λ l. (l, false)) ls) ≡ replies r ls
answers_are r [] = refl
answers_are r (l ∷ ls) = ap (λ t. reply_to r l ++ t) (answers_are (records_after r l) ls)

replies-append : (r : Records) (ls ms : List (List ℕ)) → replies r (ls ++ ms) ≡ replies r ls ++ replies (after r ls) ms
replies-append r [] ms = refl
replies-append r (l ∷ ls) ms = ap (λ t. reply_to r l ++ t) (replies-append (records_after r l) ls ms) ∙ sym (append_assoc (reply_to r l) (replies (records_after r l) ls) (replies (after (records_after r l) ls) ms))

after-append : (r : Records) (ls ms : List (List ℕ)) → after r (ls ++ ms) ≡ after (after r ls) ms
after-append r [] ms = refl
after-append r (l ∷ ls) ms = after-append (records_after r l) ls ms

-- a line by the command that it spells
reply_by : (r : Records) (line : List ℕ) (o : Option Command) → command_of line ≡ o → reply_to r line ≡ flat_map line_of (command_reply o r)
reply_by r line o e = ap (λ x. flat_map line_of (command_reply x r)) e

after_by : (r : Records) (line : List ℕ) (o : Option Command) → command_of line ≡ o → records_after r line ≡ command_after o r
after_by r line o e = ap (λ x. command_after x r) e

abbrev new_line : List ℕ
new_line = line_of (name (codes "new") ∷ [])

-- a put after all others finds nothing at its key, and leaves the new record last
module _ {K : Type 0} (lt same : K → K → Bool) (Before : Record K → Record K → Type 0)
    (steps : (r s : Record K) → Before r s → (r.tenant < s.tenant) ⊎ ((r.tenant ≡ s.tenant) × (lt r.key s.key ≡ true)))
    (turned : (j k : K) → lt j k ≡ true → lt k j ≡ false) (differ : (j k : K) → lt j k ≡ true → same j k ≡ false)
    (fs : List (Record K)) (x : Record K) (order : InOrder Before (fs ++ x ∷ [])) where
  abbrev is_lower : Record K → Bool
  is_lower r = nat_lt r.tenant x.tenant || ((r.tenant == x.tenant) && lt r.key x.key)

  abbrev is_higher : Record K → Bool
  is_higher r = nat_lt x.tenant r.tenant || ((r.tenant == x.tenant) && lt x.key r.key)

  stands : (r : Record K) → Before r x → (is_lower r ≡ true) × (is_higher r ≡ false)
  stands r b = elim (steps r x b) [
    | inl low ↦ rw (lt-ltb r.tenant x.tenant low, le-ltb x.tenant r.tenant (omega arith), ne_eqb r.tenant x.tenant (λ e. omega arith)) (refl, refl)
    | inr up ↦ let e = up.0 in rw (le-ltb r.tenant x.tenant (omega arith), le-ltb x.tenant r.tenant (omega arith), eq-eqb r.tenant x.tenant e) (up.1, turned r.key x.key up.1)
  ]

  befores : AllByRecursion (λ r. Before r x) fs
  befores = InOrder-before Before fs [] x order

  nothing_passes : (G : K → Bool) → ((r : Record K) → Before r x → r.tenant ≡ x.tenant → G r.key ≡ false) → filter (λ p. G p.0) (own_part x.tenant fs) ≡ []
  nothing_passes G fails =
      sym (own_cut x.tenant (λ u. false) (λ r. (r.tenant == x.tenant) && G r.key) G refl fs (All-each _ (λ r. refl) fs))
      ∙ ap (own_part x.tenant) (filter_none (λ r. (r.tenant == x.tenant) && G r.key) fs (all_weaker (λ r. Before r x) (λ r. ((r.tenant == x.tenant) && G r.key) ≡ false) (λ r b. none r b (r.tenant == x.tenant) refl) fs befores))
    where
      none : (r : Record K) → Before r x → (b : Bool) → (r.tenant == x.tenant) ≡ b → (b && G r.key) ≡ false
      none r before true e = fails r before (eqb-true r.tenant x.tenant e)
      none r before false e = refl

  nothing_there : value_at same x.key (own_part x.tenant fs) ≡ None
  nothing_there =
      ap (option_map (λ p. p.1))
      (find-first (λ p. same p.0 x.key) (own_part x.tenant fs)
      ∙ ap first (nothing_passes (λ k. same k x.key) (λ r b e. elim (steps r x b) [ inl low ↦ absurd (omega arith) | inr up ↦ differ r.key x.key up.1 ])))

  put_last : with_part x.tenant (with_pair lt x.key x.value (own_part x.tenant fs)) fs ≡ fs ++ x ∷ []
  put_last =
      let all : filter is_lower fs ++ x ∷ filter is_higher fs ≡ fs ++ x ∷ [] =
      ap₂ (λ a b. a ++ x ∷ b) (filter_all is_lower fs (all_weaker (λ r. Before r x) (λ r. is_lower r ≡ true) (λ r b. (stands r b).0) fs befores))
      (filter_none is_higher fs (all_weaker (λ r. Before r x) (λ r. is_higher r ≡ false) (λ r b. (stands r b).1) fs befores)) in
      let up = tenants_ascend Before (λ r s b. elim (steps r s b) [ inl low ↦ omega arith | inr up ↦ let e = up.0 in omega arith ]) (fs ++ x ∷ []) order in
      sym (put_in_place x.tenant is_lower is_higher (λ k. lt k x.key) (λ k. lt x.key k) fs (All-each _ (λ r. refl) fs) (All-each _ (λ r. refl) fs) (x.key, x.value) (subst Ascends (sym all) up)) ∙ all

-- a put of a key after all others
key_steps : (r s : KeyRecord) → KeyComesBefore r s → (r.tenant < s.tenant) ⊎ ((r.tenant ≡ s.tenant) × (is_below r.key s.key ≡ true))
key_steps r s (inl low) = inl low
key_steps r s (inr up) = inr (up.0, up.1)

keys_differ : (j k : List ℕ) → is_below j k ≡ true → bytes_eq j k ≡ false
keys_differ j k h = other_key j k (λ e. both_ways _ (not_below_itself k) (subst (λ l. is_below l k ≡ true) e h))

module _ (fs : List KeyRecord) (x : KeyRecord) (order : InOrder KeyComesBefore (fs ++ x ∷ [])) where
  absent : value_at bytes_eq x.key (own_part x.tenant fs) ≡ None
  absent = nothing_there is_below bytes_eq KeyComesBefore key_steps not_both_below keys_differ fs x order

  free : has_conflict x.key (own_part x.tenant fs) ≡ false
  free =
      any-some (λ p. conflicts x.key p.0) (own_part x.tenant fs)
      ∙ ap some (nothing_passes is_below bytes_eq KeyComesBefore key_steps not_both_below keys_differ fs x order (conflicts x.key) apart)
    where
      apart : (r : KeyRecord) → KeyComesBefore r x → r.tenant ≡ x.tenant → conflicts x.key r.key ≡ false
      apart r (inl low) e = absurd (omega arith)
      apart r (inr up) e = or_comm (is_proper_front x.key r.key) (is_proper_front r.key x.key) ∙ up.2

  key_new : KeyFits x → reply_to (record { keys = fs; numbers = [] }) (text_of (words_put x)) ≡ new_line
  key_new fits =
      reply_by (record { keys = fs; numbers = [] }) (text_of (words_put x)) (Some (of_tenant x.tenant (put x.key x.value))) (put_spelled x fits)
      ∙ ap₂ (λ o c. line_of (put_reply o c) ++ []) absent free ∙ append-nil new_line

  key_put : KeyFits x → records_after (record { keys = fs; numbers = [] }) (text_of (words_put x)) ≡ (let r : Records = record { keys = fs ++ x ∷ []; numbers = [] } in r)
  key_put fits =
      let old : Records = record { keys = fs; numbers = [] } in
      after_by old (text_of (words_put x)) (Some (of_tenant x.tenant (put x.key x.value))) (put_spelled x fits)
      ∙ sym (new_done x.tenant (record { keys = with_pair is_below x.key x.value (own x.tenant old).keys; numbers = (own x.tenant old).numbers }) old _ _ _ absent free
      (sym (records_from_lists _ _ _ _ (put_last is_below bytes_eq KeyComesBefore key_steps not_both_below keys_differ fs x order) refl))).1

-- so of all, where the lines of the records after some are each answered `new` and put one more in
module _ {X : Type 0} (words : X → List Word) (held : List X → Records) (Before : X → X → Type 0) (Fits : X → Type 0)
    (new : (fs : List X) (x : X) → InOrder Before (fs ++ x ∷ []) → Fits x → reply_to (held fs) (text_of (words x)) ≡ new_line)
    (put_in : (fs : List X) (x : X) → InOrder Before (fs ++ x ∷ []) → Fits x → records_after (held fs) (text_of (words x)) ≡ held (fs ++ x ∷ [])) where
  all_back : (fs rs : List X) → InOrder Before (fs ++ rs) → AllByRecursion Fits rs
      → (replies (held fs) (map text_of (map words rs)) ≡ flat_map line_of (replicate (length rs) (name (codes "new") ∷ []))) × (after (held fs) (map text_of (map words rs)) ≡ held (fs ++ rs))
  all_back fs [] order fits = (refl, ap held (sym (append-nil fs)))
  all_back fs (x ∷ rs) order fits =
      let whole : fs ++ x ∷ rs ≡ (fs ++ x ∷ []) ++ rs = sym (append_assoc fs (x ∷ []) rs) in
      let all = subst (InOrder Before) whole order in
      let first = InOrder-left Before (fs ++ x ∷ []) rs all in
      let rest = all_back (fs ++ x ∷ []) rs all fits.1 in
      let put_is = put_in fs x first fits.0 in (
        ap₂ (λ a b. a ++ b) (new fs x first fits.0) (ap (λ r. replies r (map text_of (map words rs))) put_is ∙ rest.0),
        ap (λ r. after r (map text_of (map words rs))) put_is ∙ rest.1 ∙ ap held (sym whole),
      )

-- a put at a number after all others
numbers_differ : (m n : ℤ) → int_lt m n ≡ true → int_eq m n ≡ false
numbers_differ m n h = rw h refl

module _ (ks : List KeyRecord) (keys_order : InOrder KeyComesBefore ks) (fs : List NumberRecord) (x : NumberRecord) (order : InOrder NumberComesBefore (fs ++ x ∷ [])) where
  number_new : NumberFits x → reply_to (record { keys = ks; numbers = fs }) (text_of (words_nput x)) ≡ new_line
  number_new fits =
      reply_by (record { keys = ks; numbers = fs }) (text_of (words_nput x)) (Some (of_tenant x.tenant (nput x.key x.value))) (nput_spelled x fits)
      ∙ ap (λ o. line_of (put_reply o false) ++ []) (nothing_there int_lt int_eq NumberComesBefore (λ r s b. b) int_lt_turned numbers_differ fs x order) ∙ append-nil new_line

  number_put : NumberFits x → records_after (record { keys = ks; numbers = fs }) (text_of (words_nput x)) ≡ (let r : Records = record { keys = ks; numbers = fs ++ x ∷ [] } in r)
  number_put fits =
      after_by (record { keys = ks; numbers = fs }) (text_of (words_nput x)) (Some (of_tenant x.tenant (nput x.key x.value))) (nput_spelled x fits)
      ∙ records_from_lists _ _ _ _ (in_place x.tenant ks (key_ascends ks keys_order)) (put_last int_lt int_eq NumberComesBefore (λ r s b. b) int_lt_turned numbers_differ fs x order)

-- the end is bad
end_reply : (r : Records) (n : ℕ) → reply_to r (text_of (end_words n)) ≡ line_of (name (codes "bad") ∷ []) ++ []
end_reply r n = reply_by r (text_of (end_words n)) None (end_spelled n)

end_after : (r : Records) (n : ℕ) → records_after r (text_of (end_words n)) ≡ r
end_after r n = after_by r (text_of (end_words n)) None (end_spelled n)

module _ (r : Records) (are : AreRecords r) where
  dump_lines : lines_of (dump_text r) ≡ map text_of (map words_put r.keys) ++ (map text_of (map words_nput r.numbers) ++ text_of (end_words (length r.keys + length r.numbers)) ∷ [])
  dump_lines =
      let e : List Word = end_words (length r.keys + length r.numbers) in
      lines_are (dump_of r) (all_append OneLine (key_lines r ++ number_lines r) (e ∷ []) (all_append OneLine (key_lines r) (number_lines r) (put_lines r.keys are.keys_fit) (nput_lines r.numbers are.numbers_fit)) (end_line (length r.keys + length r.numbers), tt))
      ∙ map-append text_of (key_lines r ++ number_lines r) (e ∷ []) ∙ ap (λ l. l ++ text_of e ∷ []) (map-append text_of (key_lines r) (number_lines r))
      ∙ append_assoc (map text_of (key_lines r)) (map text_of (number_lines r)) (text_of e ∷ [])

  pub read_back : (answers no_records (map (λ l. (l, false)) (lines_of (dump_text r)))
      ≡ flat_map line_of (replicate (length r.keys + length r.numbers) (name (codes "new") ∷ []) ++ (name (codes "bad") ∷ []) ∷ []))
      × (after no_records (lines_of (dump_text r)) ≡ r)
  read_back =
      let K : List (List ℕ) = map text_of (map words_put r.keys) in
      let N : List (List ℕ) = map text_of (map words_nput r.numbers) in
      let E : List ℕ = text_of (end_words (length r.keys + length r.numbers)) in
      let middle : Records = record { keys = r.keys; numbers = [] } in
      let keys = all_back words_put (λ fs. record { keys = fs; numbers = [] }) KeyComesBefore KeyFits key_new key_put [] r.keys are.keys_in_order are.keys_fit in
      let numbers = all_back words_nput (λ fs. record { keys = r.keys; numbers = fs }) NumberComesBefore NumberFits
      (number_new r.keys are.keys_in_order) (number_put r.keys are.keys_in_order) [] r.numbers are.numbers_in_order are.numbers_fit in
      let news : ℕ → List (List Word) = λ n. replicate n (name (codes "new") ∷ []) in
      let bad : List (List Word) = (name (codes "bad") ∷ []) ∷ [] in (
        ap (λ ls. answers no_records (map (λ l. (l, false)) ls)) dump_lines ∙ answers_are no_records (K ++ (N ++ E ∷ [])) ∙ replies-append no_records K (N ++ E ∷ [])
            ∙ ap₂ (λ a r. a ++ replies r (N ++ E ∷ [])) keys.0 keys.1
            ∙ ap (λ t. flat_map line_of (news (length r.keys)) ++ t)
            (replies-append middle N (E ∷ []) ∙ ap₂ (λ a r. a ++ replies r (E ∷ [])) numbers.0 numbers.1 ∙ ap (λ t. flat_map line_of (news (length r.numbers)) ++ t) (ap (λ t. t ++ []) (end_reply r (length r.keys + length r.numbers)) ∙ append-nil _))
            ∙ sym (append_assoc (flat_map line_of (news (length r.keys))) (flat_map line_of (news (length r.numbers))) (flat_map line_of bad))
            ∙ ap (λ t. t ++ flat_map line_of bad) (sym (flat_map-append line_of (news (length r.keys)) (news (length r.numbers))) ∙ ap (flat_map line_of) (replicate-append-replicate (length r.keys) (length r.numbers) (name (codes "new") ∷ [])))
            ∙ sym (flat_map-append line_of (news (length r.keys + length r.numbers)) bad),
        ap (after no_records) dump_lines ∙ after-append no_records K (N ++ E ∷ [])
            ∙ ap (λ r. after r (N ++ E ∷ [])) keys.1 ∙ after-append middle N (E ∷ []) ∙ ap (λ r. after r (E ∷ [])) numbers.1 ∙ end_after r (length r.keys + length r.numbers),
      )

pub dumps_are_read_back : DumpsAreReadBack
dumps_are_read_back r are = read_back r are

pub dumps_tell_records : DumpsTellRecords
dumps_tell_records r s are_r are_s = (
  λ e. sym (read_back r are_r).1 ∙ ap (λ t. after no_records (lines_of t)) e ∙ (read_back s are_s).1,
  λ e. ap dump_text e,
)
