-- What a tenant holds, in the flat lists of all records.
use Rattle.art_engine.proofs.Terms.{OwnReadsBack, OthersAreUntouched, OwnIsInPlace, Own, Record, KeyRecord, NumberRecord, Records, own_part, with_own, with_part, InOrder, KeyComesBefore, NumberComesBefore}
use Rattle.std.proofs.Common.{◌≡◌, ◌≢◌, ℕ, ℤ, ◌≤◌, List, [], ◌∷◌, ◌++◌, refl, ap, ap₂, sym, ◌∙◌, Bool, true, false, arith, append-nil, inl, inr}
use Rattle.std.specs.Prelude.{◌==◌, nat_lt, map, filter}
use Rattle.std.proofs.lemmas.Bool.{both_ways, cond_both, false_from_ne_true, eq-eqb, ne_eqb, eqb-true, ltb-true, lt-ltb, le-ltb, cases_lt, cases_order}
use Rattle.std.proofs.lemmas.List.Elements.{filter-append}
use Rattle.art_engine.proofs.Filters.{filter-apart, filter-within}
use Rattle.art_arena.proofs.tree.Filters.{filter_none}
use Rattle.art_arena.proofs.Common.{all_weaker}

-- how two tenants stand, as tests
pub lower_other : (t u : ℕ) → nat_lt u t ≡ true → (u == t) ≡ false
lower_other t u h = let lt = ltb-true u t h in ne_eqb u t (λ e. omega arith)

pub higher_other : (t u : ℕ) → nat_lt t u ≡ true → (u == t) ≡ false
higher_other t u h = let lt = ltb-true t u h in ne_eqb u t (λ e. omega arith)

pub not_both : (t u : ℕ) → nat_lt t u ≡ true → nat_lt u t ≡ false
not_both t u h = let lt = ltb-true t u h in le-ltb u t (omega arith)

pub not_lower : (t : ℕ) → nat_lt t t ≡ false
not_lower t = le-ltb t t (omega arith)

module _ {K : Type 0} where
  -- a record without its tenant, and back
  abbrev pub part_of : Record K → K × List ℕ
  part_of r = (r.key, r.value)

  abbrev pub made : ℕ → K × List ℕ → Record K
  made t p = record { tenant = t; key = p.0; value = p.1 }

  -- a tenant's records, and those of lower and of higher tenants
  abbrev pub mine : ℕ → List (Record K) → List (Record K)
  mine t rs = filter (λ r. r.tenant == t) rs

  abbrev pub lower : ℕ → List (Record K) → List (Record K)
  lower t rs = filter (λ r. nat_lt r.tenant t) rs

  abbrev pub higher : ℕ → List (Record K) → List (Record K)
  higher t rs = filter (λ r. nat_lt t r.tenant) rs

  -- what passes a test of tenants, where a tenant's own is put in place
  module _ (q : ℕ → Bool) (t : ℕ) where
    abbrev passes : List (Record K) → List (Record K)
    passes rs = filter (λ r. q r.tenant) rs

    all_made : q t ≡ true → (ps : List (K × List ℕ)) → passes (map (made t) ps) ≡ map (made t) ps
    all_made e [] = refl
    all_made e (p ∷ ps) = rw e (ap (λ l. made t p ∷ l) (all_made e ps))

    none_made : q t ≡ false → (ps : List (K × List ℕ)) → passes (map (made t) ps) ≡ []
    none_made e [] = refl
    none_made e (p ∷ ps) = rw e (none_made e ps)

    three_passes : (ps : List (K × List ℕ)) (rs : List (Record K)) → passes (with_part t ps rs) ≡ passes (lower t rs) ++ passes (map (made t) ps) ++ passes (higher t rs)
    three_passes ps rs =
        filter-append (λ r. q r.tenant) (lower t rs ++ map (made t) ps) (higher t rs)
        ∙ ap (λ l. l ++ passes (higher t rs)) (filter-append (λ r. q r.tenant) (lower t rs) (map (made t) ps))

  parts_made : (t : ℕ) (ps : List (K × List ℕ)) → map part_of (map (made t) ps) ≡ ps
  parts_made t [] = refl
  parts_made t (p ∷ ps) = ap (λ l. p ∷ l) (parts_made t ps)

  pub reads_back : (t : ℕ) (ps : List (K × List ℕ)) (rs : List (Record K)) → own_part t (with_part t ps rs) ≡ ps
  reads_back t ps rs =
      let low : mine t (lower t rs) ≡ [] = filter-apart (λ r. r.tenant == t) (λ r. nat_lt r.tenant t) (λ r. lower_other t r.tenant) rs in
      let high : mine t (higher t rs) ≡ [] = filter-apart (λ r. r.tenant == t) (λ r. nat_lt t r.tenant) (λ r. higher_other t r.tenant) rs in
      ap (map part_of) (three_passes (λ u. u == t) t ps rs ∙ rw (low, high, all_made (λ u. u == t) t (eq-eqb t t refl) ps) (append-nil (map (made t) ps))) ∙ parts_made t ps

  -- of other tenants all that passes stays, if they are all lower, or all higher
  module _ (q : ℕ → Bool) (t : ℕ) (ps : List (K × List ℕ)) (rs : List (Record K)) where
    lower_stay : ((u : ℕ) → q u ≡ true → nat_lt u t ≡ true) → passes q t (with_part t ps rs) ≡ passes q t rs
    lower_stay low =
        let kept = filter-within (λ r. q r.tenant) (λ r. nat_lt r.tenant t) (λ r e. low r.tenant e) rs in
        let none = filter-apart (λ r. q r.tenant) (λ r. nat_lt t r.tenant) (λ r h. false_from_ne_true _ (λ e. both_ways _ (not_both t r.tenant h) (low r.tenant e))) rs in
        three_passes q t ps rs
        ∙ rw (kept, none, none_made q t (false_from_ne_true _ (λ e. both_ways _ (not_lower t) (low t e))) ps) (append-nil (passes q t rs ++ []) ∙ append-nil (passes q t rs))

    higher_stay : ((u : ℕ) → q u ≡ true → nat_lt t u ≡ true) → passes q t (with_part t ps rs) ≡ passes q t rs
    higher_stay high =
        let kept = filter-within (λ r. q r.tenant) (λ r. nat_lt t r.tenant) (λ r e. high r.tenant e) rs in
        let none = filter-apart (λ r. q r.tenant) (λ r. nat_lt r.tenant t) (λ r h. false_from_ne_true _ (λ e. both_ways _ (not_both r.tenant t h) (high r.tenant e))) rs in
        three_passes q t ps rs ∙ rw (none, kept, none_made q t (false_from_ne_true _ (λ e. both_ways _ (not_lower t) (high t e))) ps) refl

  pub untouched : (s t : ℕ) (ps : List (K × List ℕ)) (rs : List (Record K)) → s ≢ t → own_part s (with_part t ps rs) ≡ own_part s rs
  untouched s t ps rs apart = ap (map part_of) (elim (cases_lt s t) [
    | inl low ↦ lower_stay (λ u. u == s) t ps rs (λ u e. let same = eqb-true u s e in lt-ltb u t (omega arith))
    | inr high ↦ higher_stay (λ u. u == s) t ps rs (λ u e. let same = eqb-true u s e in lt-ltb t u (omega (arith, apart)))
  ])

  pub put_back_again : (t : ℕ) (ps qs : List (K × List ℕ)) (rs : List (Record K)) → with_part t qs (with_part t ps rs) ≡ with_part t qs rs
  put_back_again t ps qs rs = ap₂ (λ low high. low ++ map (made t) qs ++ high) (lower_stay (λ u. nat_lt u t) t ps rs (λ u e. e)) (higher_stay (λ u. nat_lt t u) t ps rs (λ u e. e))

  pub made_from_mine : (t : ℕ) (rs : List (Record K)) → map (made t) (own_part t rs) ≡ mine t rs
  made_from_mine t [] = refl
  made_from_mine t (r ∷ rs) =
      let ih = made_from_mine t rs in
      cond_both (r.tenant == t) (r ∷ mine t rs) (mine t rs) (λ l. map (made t) (map part_of l) ≡ l) (λ e. ap₂ (λ s l. s ∷ l) (ap (λ u. made u (part_of r)) (sym (eqb-true r.tenant t e))) ih) (λ e. ih)

  -- tenants ascend
  abbrev pub Ascends : List (Record K) → Type 0
  Ascends rs = InOrder (λ r s. r.tenant ≤ s.tenant) rs

  pub tenants_ascend : (Before : Record K → Record K → Type 0) → ((r s : Record K) → Before r s → r.tenant ≤ s.tenant) → (rs : List (Record K)) → InOrder Before rs → Ascends rs
  tenants_ascend Before step [] h = tt
  tenants_ascend Before step (r ∷ rs) h = (all_weaker (Before r) (λ s. r.tenant ≤ s.tenant) (step r) rs h.0, tenants_ascend Before step rs h.1)

  three_parts : (t : ℕ) (rs : List (Record K)) → Ascends rs → lower t rs ++ mine t rs ++ higher t rs ≡ rs
  three_parts t [] h = refl
  three_parts t (r ∷ rs) h = elim (cases_order r.tenant t) [
    | inl same ↦ rw (le-ltb r.tenant t (omega arith), eq-eqb r.tenant t same, le-ltb t r.tenant (omega arith), none_lower (omega arith)) (ap (λ l. r ∷ l) (rw (none_lower (omega arith)) at (three_parts t rs h.1)))
    | inr (inl low) ↦ rw (lt-ltb r.tenant t low, ne_eqb r.tenant t (λ e. omega arith), le-ltb t r.tenant (omega arith)) (ap (λ l. r ∷ l) (three_parts t rs h.1))
    | inr (inr high) ↦
        let none : lower t rs ≡ [] = none_lower (omega arith) in
        let no_mine : mine t rs ≡ [] = filter_none (λ s. s.tenant == t) rs (all_weaker (λ s. r.tenant ≤ s.tenant) (λ s. (s.tenant == t) ≡ false) (λ s le. ne_eqb s.tenant t (λ k. omega arith)) rs h.0) in
        rw (le-ltb r.tenant t (omega arith), ne_eqb r.tenant t (λ e. omega arith), lt-ltb t r.tenant high, none, no_mine) (ap (λ l. r ∷ l) (rw (none, no_mine) at (three_parts t rs h.1)))
  ]
    where
      none_lower : t ≤ r.tenant → lower t rs ≡ []
      none_lower ge = filter_none (λ s. nat_lt s.tenant t) rs (all_weaker (λ s. r.tenant ≤ s.tenant) (λ s. nat_lt s.tenant t ≡ false) (λ s le. le-ltb s.tenant t (omega arith)) rs h.0)

  pub in_place : (t : ℕ) (rs : List (Record K)) → Ascends rs → with_part t (own_part t rs) rs ≡ rs
  in_place t rs h = rw (made_from_mine t rs) (three_parts t rs h)

abbrev pub key_part : KeyRecord → List ℕ × List ℕ
key_part r = (r.key, r.value)

abbrev pub number_part : NumberRecord → ℤ × List ℕ
number_part r = (r.key, r.value)

pub key_ascends : (rs : List KeyRecord) → InOrder KeyComesBefore rs → Ascends rs
key_ascends = tenants_ascend KeyComesBefore (λ r s b. elim b [ inl lt ↦ omega arith | inr same ↦ let e = same.0 in omega arith ])

pub number_ascends : (rs : List NumberRecord) → InOrder NumberComesBefore rs → Ascends rs
number_ascends = tenants_ascend NumberComesBefore (λ r s b. elim b [ inl lt ↦ omega arith | inr same ↦ let e = same.0 in omega arith ])

pub own_from : (k k' : List (List ℕ × List ℕ)) (n n' : List (ℤ × List ℕ)) → k ≡ k' → n ≡ n'
    → (let o : Own = record { keys = k; numbers = n } in o) ≡ (let o : Own = record { keys = k'; numbers = n' } in o)
own_from k k' n n' e f = rw (e, f) refl

pub records_from_lists : (k k' : List KeyRecord) (n n' : List NumberRecord) → k ≡ k' → n ≡ n'
    → (let o : Records = record { keys = k; numbers = n } in o) ≡ (let o : Records = record { keys = k'; numbers = n' } in o)
records_from_lists k k' n n' e f = rw (e, f) refl

pub own_reads_back : OwnReadsBack
own_reads_back t mine r = own_from _ _ _ _ (reads_back t mine.keys r.keys) (reads_back t mine.numbers r.numbers)

-- what is put in place later counts
pub with_own_again : (t : ℕ) (first later : Own) (r : Records) → with_own t later (with_own t first r) ≡ with_own t later r
with_own_again t first later r = records_from_lists _ _ _ _ (put_back_again t first.keys later.keys r.keys) (put_back_again t first.numbers later.numbers r.numbers)

pub others_are_untouched : OthersAreUntouched
others_are_untouched s t mine r apart = own_from _ _ _ _ (untouched s t mine.keys r.keys apart) (untouched s t mine.numbers r.numbers apart)

pub own_is_in_place : OwnIsInPlace
own_is_in_place t r are = records_from_lists _ _ _ _
    (in_place t r.keys (key_ascends r.keys are.keys_in_order)) (in_place t r.numbers (number_ascends r.numbers are.numbers_in_order))
