-- How a look-up, a put and a deletion at a tenant's number are answered, and what they leave, from what the map says of its pairs.
use Rattle.std.proofs.Common.{◌≡◌, ℕ, ℤ, List, [], ◌∷◌, length, map, refl, ap, sym, ◌∙◌, subst, Bool, false, not, Option, Some, None, bytes_eq}
use Rattle.std.specs.Prelude.{◌==◌, ◌&&◌, int_lt, filter, option_map}
use Rattle.std.specs.Global.{Vec}
use Rattle.std.specs.List.{AllByRecursion}
use Rattle.std.specs.Map.{lookup}
use Rattle.std.specs.Ordering.{int_eq}
use Rattle.art_bytes.proofs.Common.{pair_key}
use Rattle.art_arena.proofs.Common.{put_in_order, Shrinks, all_at, all_weaker}
use Rattle.art_map.proofs.Common.{ascends-filter}
use Rattle.art_operations.proofs.Common.{HasKey, IsBlocked, without_key}
use Rattle.art_walks.proofs.Common.{all-filter}
use Rattle.art_engine.specs.declared.change.Changed.TheVariants as changed
use Rattle.art_lines.proofs.Common.{of_tenant, nput, ndel, put_reply}
use Rattle.art_engine.proofs.Changing.{gone_words, absent_words}
use Rattle.art_engine.proofs.Filters.{All-left_out, All-put, map-alike}
use Rattle.art_engine.proofs.KeyKinds.{are_number_pairs, numbers_stand, number_bytes, under_numbers}
use Rattle.art_engine.proofs.NumberKeys.{HaveBytes, as_long}
use Rattle.art_engine.proofs.OwnLaws.{made, number_part, records_from_lists}
use Rattle.art_engine.proofs.TenantKeys.{StandsUnder, found, in_order, passing, put_ascends, put_records, put_stands, record_made, refused, removed}
use Rattle.art_engine.proofs.Terms.{number_key_of, number_pair, NumberFits, own, with_part, InOrder, NumberComesBefore, value_at, with_pair, NumberPair, number_record_of, number_records_of, IsNumberPair, AreNumberPairs, IsChangeDone, changed_words}
pub use Rattle.art_engine.proofs.KeyKinds.{number_bytes}

pub stand_all : (ns : List NumberPair) → AllByRecursion IsNumberPair ns → AllByRecursion NumberFits (map number_record_of ns) → AllByRecursion (StandsUnder under_numbers) ns
stand_all = numbers_stand

-- the bytes of records are those that their pairs stand under
pub number_keys_are : (ns : List NumberPair) → AllByRecursion IsNumberPair ns → map number_bytes ns ≡ map number_key_of (map number_record_of ns)
number_keys_are ns full = sym (map-alike number_key_of number_record_of number_bytes ns (all_weaker IsNumberPair (λ p. number_key_of (number_record_of p) ≡ number_bytes p) (λ p e. sym e) ns full))

-- pairs are their records, each value under the bytes of its tenant and its number
pub number_pairs_are : (ns : List NumberPair) → AllByRecursion IsNumberPair ns → map (λ p. (p.0, p.1.items)) ns ≡ map number_pair (map number_record_of ns)
number_pairs_are ns full =
    sym (map-alike number_pair number_record_of (λ p. (p.0, p.1.items)) ns (all_weaker IsNumberPair (λ p. number_pair (number_record_of p) ≡ (p.0, p.1.items)) (λ p e. ap (λ k. (k, p.1.items)) (sym e)) ns full))

pub are_in_order : (ns : List NumberPair) → AreNumberPairs ns → InOrder NumberComesBefore (map number_record_of ns)
are_in_order ns are = in_order under_numbers ns (numbers_stand ns are.stand are.fit) are.ascend

-- what passes a test of the bytes of a tenant's numbers is what of the tenant's numbers passes
pub numbers_passing : (t : ℕ) (T : List ℕ → Bool) (G : ℤ → Bool) → ((u : ℕ) (m : ℤ) → HaveBytes u m → T (pair_key (u, m)) ≡ ((u == t) && G m)) → (ns : List NumberPair) → AllByRecursion (StandsUnder under_numbers) ns
    → map number_part (map number_record_of (filter (λ p. T p.0) ns)) ≡ filter (λ p. G p.0) (own t (number_records_of ns)).numbers
numbers_passing t T G tests ns stand = passing under_numbers t T G (λ u m s f. tests u m (s, f)) ns stand

module _ (t : ℕ) (n : ℤ) (fits : HaveBytes t n) where
  abbrev pub is_number_key : List ℕ → Bool
  is_number_key k = bytes_eq k (pair_key (t, n))

  -- the value under the bytes of a tenant's number is the one at it
  pub number_found : (ns : List NumberPair) → AllByRecursion (StandsUnder under_numbers) ns → option_map (λ v. v.items) (lookup is_number_key ns) ≡ value_at int_eq n (own t (number_records_of ns)).numbers
  number_found = found under_numbers t n fits.0 fits.1

  -- a pair that is put at it
  module _ (v : List ℕ) (e : NumberPair) (full : e.0 ≡ pair_key (t, n)) (value : e.1.items ≡ v) (ns new : List NumberPair) (are : AreNumberPairs ns)
      (is : new ≡ put_in_order number_bytes e (without_key number_bytes (number_bytes e) ns)) where
    stand : AllByRecursion (StandsUnder under_numbers) ns
    stand = numbers_stand ns are.stand are.fit

    -- none is in conflict with it, since all are as long
    free : IsBlocked number_bytes (pair_key (t, n)) ns → ⊥
    free (p, i, c) = as_long (pair_key (t, n)) p.0 12 refl (ap length (all_at (StandsUnder under_numbers) p ns stand i).key) c

    pub nput_keeps : NumberFits (made t (n, v)) → AreNumberPairs new
    nput_keeps fit =
        are_number_pairs new (put_stands under_numbers t n fits.0 fits.1 ns stand are.ascend e full free new is) (put_ascends under_numbers t n fits.0 fits.1 ns stand are.ascend e full free new is)
        (subst (λ l. AllByRecursion NumberFits (map number_record_of l)) (sym is)
        (All-put NumberFits number_record_of number_bytes (λ p. not (bytes_eq (number_bytes p) (number_bytes e))) e ns are.fit
        (subst NumberFits (sym (record_made under_numbers t n e fits.0 fits.1 full ∙ ap (λ w. made t (n, w)) value)) fit)))

    nput_records : map number_record_of new ≡ with_part t (with_pair int_lt n v (own t (number_records_of ns)).numbers) (map number_record_of ns)
    nput_records =
        put_records under_numbers t n fits.0 fits.1 ns stand are.ascend e full free new is
        ∙ ap (λ w. with_part t (with_pair int_lt n w (own t (number_records_of ns)).numbers) (map number_record_of ns)) value

    old_words : (w : Vec ℕ) (o : Option (List ℕ)) → o ≡ Some w.items → changed_words (changed.Old w) ∷ [] ≡ put_reply o false ∷ []
    old_words w o e = rw e refl

    new_words : (o : Option (List ℕ)) → o ≡ None → changed_words changed.New ∷ [] ≡ put_reply o false ∷ []
    new_words o e = rw e refl

    pub nput_old : (old : Vec ℕ) → Some old ≡ lookup is_number_key ns → IsChangeDone (changed.Old old) (of_tenant t (nput n v)) (number_records_of ns) (number_records_of new)
    nput_old old some = (
      old_words old (value_at int_eq n (own t (number_records_of ns)).numbers) (sym (ap (option_map (λ (w : Vec ℕ). w.items)) some ∙ number_found ns stand)),
      records_from_lists _ _ _ _ refl nput_records,
    )

    pub nput_new : None ≡ lookup is_number_key ns → IsChangeDone changed.New (of_tenant t (nput n v)) (number_records_of ns) (number_records_of new)
    nput_new none = (
      new_words (value_at int_eq n (own t (number_records_of ns)).numbers) (sym (ap (option_map (λ (w : Vec ℕ). w.items)) none ∙ number_found ns stand)),
      records_from_lists _ _ _ _ refl nput_records,
    )

  -- the pairs without the one at it
  module _ (ns new : List NumberPair) (are : AreNumberPairs ns) where
    all_stand : AllByRecursion (StandsUnder under_numbers) ns
    all_stand = numbers_stand ns are.stand are.fit

    abbrev other : NumberPair → Bool
    other p = not (is_number_key p.0)

    pub ndel_keeps : new ≡ without_key number_bytes (pair_key (t, n)) ns → AreNumberPairs new
    ndel_keeps is = subst AreNumberPairs (sym is) (record {
      stand = all-filter IsNumberPair other ns are.stand;
      ascend = ascends-filter number_bytes other ns are.ascend;
      fit = All-left_out NumberFits number_record_of other ns are.fit;
    })

    pub ndel_gone : (v : Vec ℕ) → Some v ≡ lookup is_number_key ns → new ≡ without_key number_bytes (pair_key (t, n)) ns
        → IsChangeDone (changed.Gone v) (of_tenant t (ndel n)) (number_records_of ns) (number_records_of new)
    ndel_gone v some is = (
      gone_words v (value_at int_eq n (own t (number_records_of ns)).numbers) (sym (ap (option_map (λ (w : Vec ℕ). w.items)) some ∙ number_found ns all_stand)),
      records_from_lists _ _ _ _ refl (ap (map number_record_of) is ∙ removed under_numbers t n fits.0 fits.1 ns all_stand are.ascend),
    )

    pub ndel_absent : None ≡ lookup is_number_key ns → new ≡ without_key number_bytes (pair_key (t, n)) ns
        → IsChangeDone changed.Absent (of_tenant t (ndel n)) (number_records_of ns) (number_records_of new)
    ndel_absent none is = (
      absent_words (value_at int_eq n (own t (number_records_of ns)).numbers) (sym (ap (option_map (λ (w : Vec ℕ). w.items)) none ∙ number_found ns all_stand)),
      records_from_lists _ _ _ _ refl (ap (map number_record_of) is ∙ removed under_numbers t n fits.0 fits.1 ns all_stand are.ascend),
    )

    pub ndel_refused : new ≡ ns → HasKey number_bytes (pair_key (t, n)) ns × Shrinks number_bytes ns (pair_key (t, n))
        → IsChangeDone changed.Memory (of_tenant t (ndel n)) (number_records_of ns) (number_records_of new)
    ndel_refused same h = (ap number_records_of same, refused under_numbers t n fits.0 fits.1 ns all_stand h)
