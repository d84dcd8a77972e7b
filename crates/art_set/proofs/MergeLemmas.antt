-- The first key of two ascending lists, and what a merge of them has after it.
use Rattle.std.proofs.Common.{◌≡◌, ℕ, ◌+◌, ◌-◌, ◌^◌, ◌<◌, min, Bool, true, false, not, cond, ◌&&◌, ◌||◌, bytes_eq, List, [], ◌∷◌, refl, sym, ap, ap₂, ◌∙◌, subst, arith, length, Option, Some, None}
use Rattle.std.specs.Prelude.{filter, is_some, ⊤, IfNone}
use Rattle.std.specs.Bool.{OnFalse}
use Rattle.std.specs.List.{AllByRecursion, list_all}
use Rattle.std.specs.Ordering.{is_lt}
use Rattle.std.specs.declared.cmp.Ordering.TheVariants.{Less, Equal, Greater}
use Rattle.std.proofs.lemmas.Cmp.{nat_list_cmp_total}
use Rattle.std.proofs.lemmas.Map.Text.{is_eq-slice_cmp}
use Rattle.std.specs.Ordering.{is_eq}
use Rattle.art_bytes.proofs.Common.{bytes_cmp, is_below}
use Rattle.art_set.proofs.Terms.{Beside, IsCompared, keys_left, steps_left, merge_of, merging, of_first, of_second, merged, is_member, filter-none, filter-same, GivesNext, Merge, put_below, put_among, AscendsInBytes}
use Rattle.art_set.specs.declared.merges.sides.Wanted.{Wanted}
use Rattle.std.specs.Borrow.{Bor}
use Rattle.std.specs.Iterator.{MakesProgress, at_most}
use Rattle.std.specs.Map.Iter.{TakesFirst, deref}
use Rattle.art_arena.proofs.Common.{all_weaker}
use Rattle.art_operations.proofs.Common.{turned}
use Rattle.art_walks.proofs.Common.{all-filter}

-- keys that are not equal in the order have other bytes
differs : (k l : List ℕ) → bytes_cmp k l ≡ Less → bytes_eq k l ≡ false
differs k l e = sym (is_eq-slice_cmp k l) ∙ ap is_eq e

pub differs-turned : (k l : List ℕ) → bytes_cmp k l ≡ Less → bytes_eq l k ≡ false
differs-turned k l e = sym (is_eq-slice_cmp l k) ∙ ap is_eq (turned k l Less e)

pub agrees : (k l : List ℕ) → bytes_cmp k l ≡ Equal → bytes_eq k l ≡ true
agrees k l e = sym (is_eq-slice_cmp k l) ∙ ap is_eq e

module _ {K : Type 0} (bytes : K → List ℕ) where
  -- x is below all of these
  abbrev pub AreAbove : K → List K → Type 0
  AreAbove x ys = AllByRecursion (λ y. bytes_cmp (bytes x) (bytes y) ≡ Less) ys

  -- so none has its bytes
  pub above-lack : (x : K) (ys : List K) → AreAbove x ys → is_member bytes (bytes x) ys ≡ false
  above-lack x [] h = refl
  above-lack x (y ∷ ys) h = rw (differs-turned (bytes x) (bytes y) h.0) (above-lack x ys h.1)

  -- and one that is below the first of them is below all
  pub above-below : (x y : K) (ys : List K) → bytes_cmp (bytes x) (bytes y) ≡ Less → AreAbove y ys → AreAbove x ys
  above-below x y ys e h = all_weaker _ _ (λ z f. nat_list_cmp_total.trans (bytes x) (bytes y) (bytes z) e f) ys h

  pub above-same : (x y : K) (ys : List K) → bytes_cmp (bytes x) (bytes y) ≡ Equal → AreAbove y ys → AreAbove x ys
  above-same x y ys e h = all_weaker _ _ (λ z f. nat_list_cmp_total.congr (bytes x) (bytes y) (bytes z) e ∙ f) ys h

  -- a key below all that are asked is not what they are asked for
  pub following : (x : K) (xs ys : List K) → AreAbove x ys → AllByRecursion (λ y. is_member bytes (bytes y) (x ∷ xs) ≡ is_member bytes (bytes y) xs) ys
  following x xs ys h = all_weaker _ (λ y. is_member bytes (bytes y) (x ∷ xs) ≡ is_member bytes (bytes y) xs) (λ y e. rw (differs (bytes x) (bytes y) e) refl) ys h

  put-first : (x : K) (ys : List K) → AreAbove x ys → put_below bytes x ys ≡ x ∷ ys
  put-first x [] h = refl
  put-first x (y ∷ ys) h = ap (λ o. cond (is_lt o) (x ∷ y ∷ ys) (y ∷ put_below bytes x ys)) h.0

  pub all-put : (P : K → Type 0) (x : K) (ys : List K) → P x → AllByRecursion P ys → AllByRecursion P (put_below bytes x ys)
  all-put P x [] p h = (p, tt)
  all-put P x (y ∷ ys) p h = pick (is_below (bytes x) (bytes y)) (all-put P x ys p h.1)
    where
      pick : (b : Bool) → AllByRecursion P (put_below bytes x ys) → AllByRecursion P (cond b (x ∷ y ∷ ys) (y ∷ put_below bytes x ys))
      pick true rest = (p, h)
      pick false rest = (h.0, rest)

  pub all-joined : (P : K → Type 0) (xs ys : List K) → AllByRecursion P xs → AllByRecursion P ys → AllByRecursion P (put_among bytes xs ys)
  all-joined P [] ys h k = k
  all-joined P (x ∷ xs) ys h k = all-put P x (put_among bytes xs ys) h.0 (all-joined P xs ys h.1 k)

  -- a key below all that are put in stays in front
  joined-first : (x : K) (zs ys : List K) → AreAbove x zs → put_among bytes zs (x ∷ ys) ≡ x ∷ put_among bytes zs ys
  joined-first x [] ys h = refl
  joined-first x (z ∷ zs) ys h = ap (put_below bytes z) (joined-first x zs ys h.1)
      ∙ ap (λ o. cond (is_lt o) (z ∷ x ∷ put_among bytes zs ys) (x ∷ put_below bytes z (put_among bytes zs ys))) (turned (bytes x) (bytes z) Less h.0)

  module _ (first both second : Bool) where
    -- of the first list's next key, which is below all others, none of the second is lost
    pub merged-first : (x : K) (xs ys : List K) → AreAbove x xs → AreAbove x ys → merged bytes first both second (x ∷ xs) ys ≡ cond first (x ∷ merged bytes first both second xs ys) (merged bytes first both second xs ys)
    merged-first x xs ys up beside =
        ap₂ (put_among bytes) (filter-same _ _ ys (all_weaker _ _ (λ y e. ap (λ b. cond second (not b) false) e) ys (following x xs ys beside)))
        (ap (λ b. cond (cond b both first) (x ∷ of_first bytes first both second xs ys) (of_first bytes first both second xs ys)) (above-lack x ys beside))
        ∙ pick first
      where
        pick : (b : Bool) → put_among bytes (of_second bytes first both second xs ys) (cond b (x ∷ of_first bytes first both second xs ys) (of_first bytes first both second xs ys)) ≡ cond b (x ∷ merged bytes first both second xs ys) (merged bytes first both second xs ys)
        pick true = joined-first x (of_second bytes first both second xs ys) (of_first bytes first both second xs ys) (all-filter _ _ ys beside)
        pick false = refl

    pub merged-second : (y : K) (xs ys : List K) → AreAbove y xs → AreAbove y ys → merged bytes first both second xs (y ∷ ys) ≡ cond second (y ∷ merged bytes first both second xs ys) (merged bytes first both second xs ys)
    merged-second y xs ys beside up =
        ap₂ (put_among bytes) (ap (λ b. cond (cond second (not b) false) (y ∷ of_second bytes first both second xs ys) (of_second bytes first both second xs ys)) (above-lack y xs beside))
        (filter-same _ _ xs (all_weaker _ _ (λ x e. ap (λ b. cond b both first) e) xs (following y ys xs beside)))
        ∙ pick second
      where
        pick : (b : Bool) → put_among bytes (cond (cond b true false) (y ∷ of_second bytes first both second xs ys) (of_second bytes first both second xs ys)) (of_first bytes first both second xs ys) ≡ cond b (y ∷ merged bytes first both second xs ys) (merged bytes first both second xs ys)
        pick true = put-first y (merged bytes first both second xs ys) (all-joined _ (of_second bytes first both second xs ys) (of_first bytes first both second xs ys) (all-filter _ _ ys up) (all-filter _ _ xs beside))
        pick false = refl

    pub merged-both : (x y : K) (xs ys : List K) → bytes_cmp (bytes x) (bytes y) ≡ Equal → AreAbove x xs → AreAbove y ys → merged bytes first both second (x ∷ xs) (y ∷ ys) ≡ cond both (x ∷ merged bytes first both second xs ys) (merged bytes first both second xs ys)
    merged-both x y xs ys same up beside =
        let ahead = above-same x y ys same beside in
        let back : AreAbove y xs = above-same y x xs (turned (bytes x) (bytes y) Equal same) up in
        ap₂ (put_among bytes)
        (ap (λ b. cond (cond second (not (b || is_member bytes (bytes y) xs)) false) (y ∷ of_second bytes first both second (x ∷ xs) ys) (of_second bytes first both second (x ∷ xs) ys)) (agrees (bytes x) (bytes y) same)
        ∙ pick second (of_second bytes first both second (x ∷ xs) ys) ∙ filter-same _ _ ys (all_weaker _ _ (λ z e. ap (λ b. cond second (not b) false) e) ys (following x xs ys ahead)))
        (ap₂ (λ b zs. cond (cond (b || is_member bytes (bytes x) ys) both first) (x ∷ zs) zs) (agrees (bytes y) (bytes x) (turned (bytes x) (bytes y) Equal same))
        (filter-same _ _ xs (all_weaker _ _ (λ z e. ap (λ b. cond b both first) e) xs (following y ys xs back))))
        ∙ give both
      where
        pick : (b : Bool) (zs : List K) → cond (cond b false false) (y ∷ zs) zs ≡ zs
        pick true zs = refl
        pick false zs = refl

        give : (b : Bool) → put_among bytes (of_second bytes first both second xs ys) (cond b (x ∷ of_first bytes first both second xs ys) (of_first bytes first both second xs ys)) ≡ cond b (x ∷ merged bytes first both second xs ys) (merged bytes first both second xs ys)
        give true = joined-first x (of_second bytes first both second xs ys) (of_first bytes first both second xs ys) (all-filter _ _ ys (above-same x y ys same beside))
        give false = refl

  -- where the first list has no more, and what the second has alone is not asked for, nothing more comes
  pub merged-no_first : (first both : Bool) (ys : List K) → merged bytes first both false [] ys ≡ []
  merged-no_first first both ys = ap (λ zs. put_among bytes zs []) (filter-none _ ys (λ y. refl))

  pub merged-no_second : (both second : Bool) (xs : List K) → merged bytes false both second xs [] ≡ []
  merged-no_second both second xs = filter-none _ xs (λ x. refl)

  -- two lists, of which the next key of one or of each is gone past
  pub step-first : (w : Wanted) (x : K) (xs ys on : List K) → xs ≡ x ∷ on → AscendsInBytes bytes xs → AreAbove x ys
      → merged bytes w.first w.both w.second xs ys ≡ cond w.first (x ∷ merged bytes w.first w.both w.second on ys) (merged bytes w.first w.both w.second on ys)
  step-first w x xs ys on e up beside =
      ap (λ zs. merged bytes w.first w.both w.second zs ys) e
      ∙ merged-first w.first w.both w.second x on ys (subst (AscendsInBytes bytes) e up).0 beside

  pub step-second : (w : Wanted) (y : K) (xs ys on : List K) → ys ≡ y ∷ on → AscendsInBytes bytes ys → AreAbove y xs
      → merged bytes w.first w.both w.second xs ys ≡ cond w.second (y ∷ merged bytes w.first w.both w.second xs on) (merged bytes w.first w.both w.second xs on)
  step-second w y xs ys on e up beside =
      ap (λ zs. merged bytes w.first w.both w.second xs zs) e
      ∙ merged-second w.first w.both w.second y xs on beside (subst (AscendsInBytes bytes) e up).0

  pub step-both : (w : Wanted) (x y : K) (xs ys on beyond : List K) → xs ≡ x ∷ on → ys ≡ y ∷ beyond → AscendsInBytes bytes xs → AscendsInBytes bytes ys → bytes_cmp (bytes x) (bytes y) ≡ Equal
      → merged bytes w.first w.both w.second xs ys ≡ cond w.both (x ∷ merged bytes w.first w.both w.second on beyond) (merged bytes w.first w.both w.second on beyond)
  step-both w x y xs ys on beyond e f up beside same =
      ap₂ (merged bytes w.first w.both w.second) e f
      ∙ merged-both w.first w.both w.second x y on beyond same (subst (AscendsInBytes bytes) e up).0 (subst (AscendsInBytes bytes) f beside).0

  -- a key below the next one is below all
  pub above-next : (x y : K) (ys on : List K) → ys ≡ y ∷ on → AscendsInBytes bytes ys → bytes_cmp (bytes x) (bytes y) ≡ Less → AreAbove x ys
  above-next x y ys on e up less =
      subst (AreAbove x) (sym e) (less, above-below x y on less (subst (AscendsInBytes bytes) e up).0)

  pub above-next-turned : (x y : K) (xs on : List K) → xs ≡ x ∷ on → AscendsInBytes bytes xs → bytes_cmp (bytes x) (bytes y) ≡ Greater → AreAbove y xs
  above-next-turned x y xs on e up more = above-next y x xs on e up (turned (bytes x) (bytes y) Greater more)

  pub above-none : (x : K) (ys : List K) → ys ≡ [] → AreAbove x ys
  above-none x ys e = subst (AreAbove x) (sym e) tt

-- one comparison is counted and no longer to be made, and a key was met
pub compared : {K : Type 0} (bytes : K → List ℕ) (s t : Beside K) → t.comparisons ≡ min (s.comparisons + 1) (2 ^ 64 - 1) → steps_left bytes s ≡ 1 + steps_left bytes t → keys_left t < keys_left s → IsCompared bytes s t
compared bytes s t e one less = record { fewer = omega (arith, one); counted = omega (arith, e, one); most = omega (arith, e, one); bound = omega (arith, e, less) }

-- none is, where one of the lists is at its end
pub not-compared : {K : Type 0} (bytes : K → List ℕ) (s t : Beside K) → t.comparisons ≡ s.comparisons → steps_left bytes s ≡ 0 → steps_left bytes t ≡ 0 → keys_left t < keys_left s → IsCompared bytes s t
not-compared bytes s t e none left less = record { fewer = omega (arith, none, left); counted = omega (arith, e, none, left); most = omega (arith, e, none, left); bound = omega (arith, e, less) }

-- nor where nothing is done
pub compared-none : {K : Type 0} (bytes : K → List ℕ) (s : Beside K) → IsCompared bytes s s
compared-none bytes s = record { fewer = omega arith; counted = omega arith; most = omega arith; bound = omega arith }

pub one-less : {X : Type 0} (x : X) (xs on : List X) (n : ℕ) → xs ≡ x ∷ on → length on + n < length xs + n
one-less x xs on n e = let l = ap length e in omega (arith, l)

pub one-less-after : {X : Type 0} (x : X) (xs on : List X) (n : ℕ) → xs ≡ x ∷ on → n + length on < n + length xs
one-less-after x xs on n e = let l = ap length e in omega (arith, l)

pub both-less : {X : Type 0} (x y : X) (xs ys on beyond : List X) → xs ≡ x ∷ on → ys ≡ y ∷ beyond → length on + length beyond < length xs + length ys
both-less x y xs ys on beyond e f = let l = ap length e in let m = ap length f in omega (arith, l, m)

-- once a list is at its end, and what the other has alone is not wanted, nothing more comes
pub none-of-first : {K : Type 0} (bytes : K → List ℕ) (w : Wanted) (xs ys : List K) → xs ≡ [] → OnFalse w.second (merged bytes w.first w.both w.second xs ys ≡ [])
none-of-first bytes w xs ys e = elim w.second as (λ b. OnFalse b (merged bytes w.first w.both b xs ys ≡ [])) [
  | true ↦ tt
  | false ↦ ap (λ zs. merged bytes w.first w.both false zs ys) e ∙ merged-no_first bytes w.first w.both ys
]

pub none-of-second : {K : Type 0} (bytes : K → List ℕ) (w : Wanted) (xs ys : List K) → ys ≡ [] → OnFalse w.first (merged bytes w.first w.both w.second xs ys ≡ [])
none-of-second bytes w xs ys e = elim w.first as (λ b. OnFalse b (merged bytes b w.both w.second xs ys ≡ [])) [
  | true ↦ tt
  | false ↦ ap (λ zs. merged bytes false w.both w.second xs zs) e ∙ merged-no_second bytes w.both w.second xs
]

-- what comes of two lists is what the merge gives of them
pub gives : {K : Type 0} (bytes : K → List ℕ) (w : Wanted) (of : List K → List K → List K) → ((xs ys : List K) → merged bytes w.first w.both w.second xs ys ≡ of xs ys)
    → (s t : Beside K) (r : Option (Bor K)) → TakesFirst deref (merging bytes w s) r (merging bytes w t) → IsCompared bytes s t → IfNone r (steps_left bytes t ≡ 0) → GivesNext (merge_of bytes of s) r (merge_of bytes of t)
gives bytes w of same s t r takes compared ended = record {
  first = subst (λ xs. TakesFirst deref xs r (of t.first t.second)) (same s.first s.second) (subst (λ xs. TakesFirst deref (merging bytes w s) r xs) (same t.first t.second) takes);
  fewer = compared.fewer;
  counted = compared.counted;
  most = compared.most;
  bound = compared.bound;
  ended = ended;
}

-- and one key fewer is left then
pub goes : {K : Type 0} (s t : Merge K) (r : Option (Bor K)) → GivesNext s r t → MakesProgress (λ (m : Merge K). ⊤) (λ m. at_most (length m.rest)) s r t
goes s t (Some x) gives = let less = ap length gives.first in let fits : length t.rest < length s.rest = omega (arith, less) in record { on = λ _. (tt, tt, fits); keeps = tt; rests = λ _. tt }
goes s t None gives = record { on = λ _. tt; keeps = tt; rests = λ _. tt }

-- whether a merge gives no key is whether each key of the first list passes the test that is the other way round
module _ {K : Type 0} (p q : K → Bool) (turned_test : (x : K) → q x ≡ not (p x)) where
  all-pass : (xs : List K) → filter p xs ≡ [] → list_all q xs ≡ true
  all-pass [] e = refl
  all-pass (x ∷ xs) e = rw (turned_test x) (pick (p x) e (all-pass xs))
    where
      pick : (b : Bool) → cond b (x ∷ filter p xs) (filter p xs) ≡ [] → (filter p xs ≡ [] → list_all q xs ≡ true) → (not b && list_all q xs) ≡ true
      pick true e later = absurd (cc)
      pick false e later = later e

  one-fails : (xs : List K) (y : K) (ys : List K) → filter p xs ≡ y ∷ ys → list_all q xs ≡ false
  one-fails [] y ys e = absurd (cc)
  one-fails (x ∷ xs) y ys e = rw (turned_test x) (pick (p x) e (one-fails xs y ys))
    where
      pick : (b : Bool) → cond b (x ∷ filter p xs) (filter p xs) ≡ y ∷ ys → (filter p xs ≡ y ∷ ys → list_all q xs ≡ false) → (not b && list_all q xs) ≡ false
      pick true e later = refl
      pick false e later = later e

  pub none-came : (xs rest t : List K) (r : Option (Bor K)) (b : Bool) → rest ≡ filter p xs → TakesFirst deref rest r t → is_some r ≡ not b → b ≡ list_all q xs
  none-came xs rest t None true e takes is = sym (all-pass xs (sym e ∙ takes.0))
  none-came xs rest t None false e takes is = absurd (cc)
  none-came xs rest t (Some x) true e takes is = absurd (cc)
  none-came xs rest t (Some x) false e takes is = sym (one-fails xs x.now t (sym e ∙ takes))
