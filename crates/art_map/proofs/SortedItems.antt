-- Items that are put in one after another. What comes of them doesn't depend on their order, if those with the same key
-- keep theirs.
use Rattle.std.proofs.Common.{◌≡◌, ◌⊎◌, inl, inr, ℕ, Bool, true, false, cond, not, ◌&&◌, List, [], ◌∷◌, ◌++◌, Some, bytes_eq, refl, sym, ap, ap₂, subst, ◌∙◌}
use Rattle.std.specs.List.{AllByRecursion}
use Rattle.std.specs.List.Sorted.{IsStableBy, ties}
use Rattle.std.specs.Ordering.{is_eq, is_lt, ordering_reverse}
use Rattle.std.specs.Prelude.{◌↔◌, filter}
use Rattle.std.specs.declared.cmp.Ordering.{Ordering}
use Rattle.std.specs.declared.cmp.Ordering.TheVariants.{Less, Equal, Greater}
use Rattle.std.specs.Cmp.Lexicographic.{nat_list_cmp_total, texts_ties}
use Rattle.std.proofs.lemmas.List.Elements.{filter_agree}
use Rattle.art_bytes.proofs.Common.{IsBefore, before_not_self, before_trans, bytes_cmp}
use Rattle.art_arena.proofs.Common.{AscendsByKey, IsIn, all_at, before_true, bytes_from_same, is_before, other_key, put_in_order, same_key, true_before}
use Rattle.art_arena.proofs.tree.Filters.{from_kept, in_kept}
use Rattle.art_walks.proofs.Common.{all-filter}
use Rattle.art_map.proofs.ItemChanges.{all-in, in-all-put, last-in, with_item, with_items}
use Rattle.art_map.proofs.Terms.{last_item}
use Rattle.art_map.specs.PairLaws.{StandsLast}
use Rattle.art_operations.proofs.Common.{HasKey, with_key, without_key}

module _ {X : Type 0} where
  some-last : (x : X) (xs : List X) → IsIn x xs → (z : X) × (last_item xs ≡ Some z)
  some-last x [] i = absurd i
  some-last x (y ∷ []) i = (y, refl)
  some-last x (y ∷ z ∷ zs) i = some-last z (z ∷ zs) (inl refl)

module _ {X : Type 0} (key : X → List ℕ) where
  -- two lists in order with the same items are one
  pub same-list : (xs ys : List X) → AscendsByKey key xs → AscendsByKey key ys → ((q : X) → IsIn q xs ↔ IsIn q ys) → xs ≡ ys
  same-list [] [] up down same = refl
  same-list [] (y ∷ ys) up down same = absurd ((same y).1 (inl refl))
  same-list (x ∷ xs) [] up down same = absurd ((same x).0 (inl refl))
  same-list (x ∷ xs) (y ∷ ys) up down same = ap₂ (λ z zs. z ∷ zs) first (same-list xs ys up.1 down.1 rest)
    where
      after : (z : X) (zs : List X) (q : X) → AscendsByKey key (z ∷ zs) → IsIn q zs → IsBefore (key z) (key q)
      after z zs q a i = all_at (λ w. IsBefore (key z) (key w)) q zs a.0 i

      meet : IsIn x (y ∷ ys) → IsIn y (x ∷ xs) → x ≡ y
      meet (inl e) j = sym e
      meet (inr i) (inl e) = e
      meet (inr i) (inr j) = absurd (before_not_self (key x) (before_trans (key x) (key y) (key x) (after x xs y up j) (after y ys x down i)))

      first : x ≡ y
      first = meet ((same x).0 (inl refl)) ((same y).1 (inl refl))

      past : (z w : X) (zs : List X) (q : X) → z ≡ w → IsBefore (key z) (key q) → IsIn q (w ∷ zs) → IsIn q zs
      past z w zs q e less (inl f) = absurd (before_not_self (key z) (subst (λ v. IsBefore (key z) (key v)) (sym f ∙ sym e) less))
      past z w zs q e less (inr i) = i

      rest : (q : X) → IsIn q xs ↔ IsIn q ys
      rest q = (
        λ i. past x y ys q first (after x xs q up i) ((same q).0 (inr i)),
        λ i. past y x xs q (sym first) (after y ys q down i) ((same q).1 (inr i)),
      )

  -- the last item with a key is the last of those with the key
  to-last : (x : X) (xs : List X) → StandsLast key x xs → last_item (with_key key (key x) xs) ≡ Some x
  to-last x [] s = absurd s
  to-last x (y ∷ ys) s = by (bytes_eq (key y) (key x)) refl s (to-last x ys)
    where
      with : List X
      with = with_key key (key x) ys

      longer : (zs : List X) → last_item zs ≡ Some x → last_item (y ∷ zs) ≡ Some x
      longer [] e = absurd (cc)
      longer (z ∷ zs) e = e

      none : (zs : List X) → ((z : X) → IsIn z zs → ⊥) → zs ≡ []
      none [] never = refl
      none (z ∷ zs) never = absurd (never z (inl refl))

      alone : (HasKey key (key x) ys → ⊥) → with ≡ []
      alone never = none with (λ z i. let (there, is) = from_kept (λ w. bytes_eq (key w) (key x)) z ys i in never (z, there, bytes_from_same (key z) (key x) is))

      by : (b : Bool) → bytes_eq (key y) (key x) ≡ b → StandsLast key x (y ∷ ys) → (StandsLast key x ys → last_item with ≡ Some x) → last_item (cond b (y ∷ with) with) ≡ Some x
      by true at (inl s) later = longer with (later s)
      by true at (inr (e, never)) later = ap (λ zs. last_item (y ∷ zs)) (alone never) ∙ ap Some e
      by false at (inl s) later = later s
      by false at (inr (e, never)) later = let no : true ≡ false = sym (same_key (key y) (key x) (ap key e)) ∙ at in absurd (cc)

  from-last : (x : X) (xs : List X) → last_item (with_key key (key x) xs) ≡ Some x → StandsLast key x xs
  from-last x [] e = absurd (cc)
  from-last x (y ∷ ys) e = by (bytes_eq (key y) (key x)) (with_key key (key x) ys) refl e (from-last x ys)
    where
      by : (b : Bool) (zs : List X) → with_key key (key x) ys ≡ zs → last_item (cond b (y ∷ zs) zs) ≡ Some x → (last_item zs ≡ Some x → StandsLast key x ys) → StandsLast key x (y ∷ ys)
      by true [] none e later =
          let same : y ≡ x = cc in
          inr (same, λ h. subst (IsIn h.0) none (in_kept (λ w. bytes_eq (key w) (key x)) h.0 ys h.1 (same_key (key h.0) (key x) h.2)))
      by true (z ∷ zs) is e later = inl (later e)
      by false zs is e later = inl (later e)

  -- so some item with a key stands last, if there is one
  has-last : (k : List ℕ) (xs : List X) → HasKey key k xs → (z : X) × StandsLast key z xs × (key z ≡ k)
  has-last k xs (x, i, e) =
      let (z, last) = some-last x (with_key key k xs) (in_kept (λ w. bytes_eq (key w) k) x xs i (same_key (key x) k e)) in
      let (there, is) = from_kept (λ w. bytes_eq (key w) k) z xs (last-in z (with_key key k xs) last) in
      let same = bytes_from_same (key z) k is in
      (z, from-last z xs (ap (λ l. last_item (with_key key l xs)) same ∙ last), same)

  -- of any two items of a list in order one comes before the other, or both have the same key
  abbrev AreInSomeOrder : List ℕ → List ℕ → Type 0
  AreInSomeOrder k l = (k ≡ l) ⊎ (IsBefore k l ⊎ IsBefore l k)

  in-some-order : (xs : List X) → AscendsByKey key xs → (x y : X) → IsIn x xs → IsIn y xs → AreInSomeOrder (key x) (key y)
  in-some-order [] up x y i j = absurd i
  in-some-order (z ∷ zs) up x y (inl e) (inl f) = inl (ap key (sym e ∙ f))
  in-some-order (z ∷ zs) up x y (inl e) (inr j) = inr (inl (subst (λ w. IsBefore (key w) (key y)) e (all_at (λ w. IsBefore (key z) (key w)) y zs up.0 j)))
  in-some-order (z ∷ zs) up x y (inr i) (inl f) = inr (inr (subst (λ w. IsBefore (key w) (key x)) f (all_at (λ w. IsBefore (key z) (key w)) x zs up.0 i)))
  in-some-order (z ∷ zs) up x y (inr i) (inr j) = in-some-order zs up.1 x y i j

  all-put : (P : X → Type 0) (p : X) (xs : List X) → P p → AllByRecursion P xs → AllByRecursion P (put_in_order key p xs)
  all-put P p [] one all = (one, tt)
  all-put P p (x ∷ xs) one all = by (is_before (key p) (key x)) (all-put P p xs one all.1)
    where
      by : (b : Bool) → AllByRecursion P (put_in_order key p xs) → AllByRecursion P (cond b (p ∷ x ∷ xs) (x ∷ put_in_order key p xs))
      by true later = (one, all)
      by false later = (all.0, later)

  all-after : (k l : List ℕ) (xs : List X) → IsBefore k l → AllByRecursion (λ x. IsBefore l (key x)) xs → AllByRecursion (λ x. IsBefore k (key x)) xs
  all-after k l [] less all = tt
  all-after k l (x ∷ xs) less all = (before_trans k l (key x) less all.0, all-after k l xs less all.1)

  -- an item that is put in keeps a list in order, if it comes before or after each
  ascends-put : (p : X) (xs : List X) → AscendsByKey key xs → AllByRecursion (λ x. IsBefore (key p) (key x) ⊎ IsBefore (key x) (key p)) xs → AscendsByKey key (put_in_order key p xs)
  ascends-put p [] up apart = (tt, tt)
  ascends-put p (x ∷ xs) up apart = by (is_before (key p) (key x)) refl apart.0 (ascends-put p xs up.1 apart.1)
    where
      by : (b : Bool) → is_before (key p) (key x) ≡ b → IsBefore (key p) (key x) ⊎ IsBefore (key x) (key p) → AscendsByKey key (put_in_order key p xs) → AscendsByKey key (cond b (p ∷ x ∷ xs) (x ∷ put_in_order key p xs))
      by true at either later = let less = true_before (key p) (key x) at in ((less, all-after (key p) (key x) xs less up.0), up)
      by false at (inl less) later = let no : true ≡ false = sym (before_true (key p) (key x) less) ∙ at in absurd (cc)
      by false at (inr less) later = (all-put (λ y. IsBefore (key x) (key y)) p xs less up.0, later)

  -- part of a list in order is in order
  pub ascends-filter : (test : X → Bool) (xs : List X) → AscendsByKey key xs → AscendsByKey key (filter test xs)
  ascends-filter test [] up = tt
  ascends-filter test (x ∷ xs) up = by (test x) (ascends-filter test xs up.1)
    where
      by : (b : Bool) → AscendsByKey key (filter test xs) → AscendsByKey key (cond b (x ∷ filter test xs) (filter test xs))
      by true later = (all-filter (λ y. IsBefore (key x) (key y)) test xs up.0, later)
      by false later = later

  module _ (P : X → Type 0) (ordered : (x y : X) → P x → P y → AreInSomeOrder (key x) (key y)) where
    apart-left : (p : X) (xs : List X) → P p → AllByRecursion P xs → AllByRecursion (λ x. IsBefore (key p) (key x) ⊎ IsBefore (key x) (key p)) (without_key key (key p) xs)
    apart-left p [] one all = tt
    apart-left p (x ∷ xs) one all = by (bytes_eq (key x) (key p)) refl (ordered p x one all.0) (apart-left p xs one all.1)
      where
        Apart : List X → Type 0
        Apart ys = AllByRecursion (λ y. IsBefore (key p) (key y) ⊎ IsBefore (key y) (key p)) ys

        by : (b : Bool) → bytes_eq (key x) (key p) ≡ b → AreInSomeOrder (key p) (key x) → Apart (without_key key (key p) xs) → Apart (cond (not b) (x ∷ without_key key (key p) xs) (without_key key (key p) xs))
        by true at either later = later
        by false at (inl e) later = let no : true ≡ false = sym (same_key (key x) (key p) (sym e)) ∙ at in absurd (cc)
        by false at (inr either) later = (either, later)

    ascends-items : (ps xs : List X) → AllByRecursion P ps → AllByRecursion P xs → AscendsByKey key xs → AscendsByKey key (with_items key ps xs)
    ascends-items [] xs new all up = up
    ascends-items (p ∷ ps) xs new all up =
        let rest = without_key key (key p) xs in
        let kept = all-filter P (λ x. not (bytes_eq (key x) (key p))) xs all in
        ascends-items ps (with_item key p xs) new.1 (all-put P p rest new.0 kept)
        (ascends-put p rest (ascends-filter (λ x. not (bytes_eq (key x) (key p))) xs up) (apart-left p xs new.0 all))

  -- items in another order, in which those with the same key keep theirs, make the same list
  module _ (xs ys : List X) (kept : (x : X) → with_key key (key x) ys ≡ with_key key (key x) xs) (up : AscendsByKey key (with_items key ys [])) where
    in-other : (x : X) → IsIn x xs → IsIn x ys
    in-other x i = (from_kept (λ w. bytes_eq (key w) (key x)) x ys (subst (IsIn x) (sym (kept x)) (in_kept (λ w. bytes_eq (key w) (key x)) x xs i (same_key (key x) (key x) refl)))).0

    abbrev IsThere : X → Type 0
    IsThere x = HasKey key (key x) (with_items key ys [])

    there : (x : X) → IsIn x xs → IsThere x
    there x i =
        let (z, last, e) = has-last (key x) ys (x, in-other x i, refl) in
        (z, (in-all-put key z ys []).1 (inl last), e)

    ordered : (x y : X) → IsThere x → IsThere y → AreInSomeOrder (key x) (key y)
    ordered x y (z, i, e) (w, j, f) = subst (λ k. AreInSomeOrder k (key y)) e (subst (AreInSomeOrder (key z)) f (in-some-order (with_items key ys []) up z w i j))

    other-up : AscendsByKey key (with_items key xs [])
    other-up = ascends-items IsThere ordered xs [] (all-in IsThere xs there) tt tt

    moved : (q : X) (us vs : List X) → with_key key (key q) us ≡ with_key key (key q) vs → IsIn q (with_items key us []) → IsIn q (with_items key vs [])
    moved q us vs same i = of ((in-all-put key q us []).0 i)
      where
        of : StandsLast key q us ⊎ (⊥ × (HasKey key (key q) us → ⊥)) → IsIn q (with_items key vs [])
        of (inl last) = (in-all-put key q vs []).1 (inl (from-last q vs (ap last_item (sym same) ∙ to-last q us last)))
        of (inr none) = absurd none.0

    pub same-made : with_items key ys [] ≡ with_items key xs []
    same-made = same-list (with_items key ys []) (with_items key xs []) up other-up (λ q. (moved q ys xs (kept q), moved q xs ys (sym (kept q))))

  -- and the first with its key in one is so in the other
  pub same-first : (xs ys : List X) → ((x : X) → with_key key (key x) ys ≡ with_key key (key x) xs) → (x : X) → (front back : List X) → ys ≡ front ++ x ∷ back → (HasKey key (key x) front → ⊥)
      → (ahead : List X) × (after : List X) × (xs ≡ ahead ++ x ∷ after) × (HasKey key (key x) ahead → ⊥)
  same-first xs ys kept x front back is none =
      found xs (with_key key (key x) back) (sym (kept x) ∙ ap (with_key key (key x)) is ∙ skipped front none)
    where
      skipped : (zs : List X) → (HasKey key (key x) zs → ⊥) → with_key key (key x) (zs ++ x ∷ back) ≡ x ∷ with_key key (key x) back
      skipped [] never = ap (λ b. cond b (x ∷ with_key key (key x) back) (with_key key (key x) back)) (same_key (key x) (key x) refl)
      skipped (z ∷ zs) never =
          ap (λ b. cond b (z ∷ with_key key (key x) (zs ++ x ∷ back)) (with_key key (key x) (zs ++ x ∷ back))) (other_key (key z) (key x) (λ e. never (z, inl refl, e)))
          ∙ skipped zs (λ h. never (h.0, inr h.1, h.2))

      found : (zs more : List X) → with_key key (key x) zs ≡ x ∷ more → (ahead : List X) × (after : List X) × (zs ≡ ahead ++ x ∷ after) × (HasKey key (key x) ahead → ⊥)
      found [] more e = absurd (cc)
      found (z ∷ zs) more e = by (bytes_eq (key z) (key x)) refl e (found zs more)
        where
          by : (b : Bool) → bytes_eq (key z) (key x) ≡ b → cond b (z ∷ with_key key (key x) zs) (with_key key (key x) zs) ≡ x ∷ more
              → (with_key key (key x) zs ≡ x ∷ more → (ahead : List X) × (after : List X) × (zs ≡ ahead ++ x ∷ after) × (HasKey key (key x) ahead → ⊥))
              → (ahead : List X) × (after : List X) × (z ∷ zs ≡ ahead ++ x ∷ after) × (HasKey key (key x) ahead → ⊥)
          by true at e later = let same : z ≡ x = cc in ([], zs, ap (λ w. w ∷ zs) same, λ h. h.1)
          by false at e later =
              let (ahead, after, is, none) = later e in
              (z ∷ ahead, after, ap (λ ws. z ∷ ws) is, λ h. still ahead at none h)
            where
              still : (ahead : List X) → bytes_eq (key z) (key x) ≡ false → (HasKey key (key x) ahead → ⊥) → HasKey key (key x) (z ∷ ahead) → ⊥
              still ahead at never (w, inl f, same) = let no : true ≡ false = sym (same_key (key z) (key x) (ap key f ∙ same)) ∙ at in absurd (cc)
              still ahead at never (w, inr j, same) = never (w, j, same)

  -- a sort by the bytes of the keys that is stable keeps the order of those with the same key
  abbrev pub by-bytes : X → X → Bool
  by-bytes x y = is_lt (bytes_cmp (key x) (key y))

  tied : (r : Ordering) → (not (is_lt (ordering_reverse r)) && not (is_lt r)) ≡ is_eq r
  tied Less = refl
  tied Equal = refl
  tied Greater = refl

  pub kept-in-order : (old new : List X) → IsStableBy by-bytes old new → (x : X) → with_key key (key x) new ≡ with_key key (key x) old
  kept-in-order old new stable x = filter_agree (λ y. bytes_eq (key y) (key x)) (ties by-bytes x) agrees new ∙ stable x ∙ sym (filter_agree (λ y. bytes_eq (key y) (key x)) (ties by-bytes x) agrees old)
    where
      agrees : (y : X) → bytes_eq (key y) (key x) ≡ ties by-bytes x y
      agrees y = texts_ties (key y) (key x) ∙ sym (tied (bytes_cmp (key y) (key x))) ∙ ap (λ r. not (is_lt r) && not (is_lt (bytes_cmp (key y) (key x)))) (sym (nat_list_cmp_total.antisymm (key x) (key y)))
