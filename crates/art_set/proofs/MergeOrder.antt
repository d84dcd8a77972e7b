-- A merge of two ascending lists ascends.
use Rattle.std.proofs.Common.{subst, ◌++◌, append_assoc, ◌≡◌, ℕ, Bool, true, false, not, cond, ◌||◌, bytes_eq, List, [], ◌∷◌, refl, sym, ap, ◌∙◌, inl, inr}
use Rattle.std.specs.Prelude.{filter}
use Rattle.std.specs.List.{AllByRecursion, AllZip}
use Rattle.std.specs.Ordering.{is_eq, is_lt}
use Rattle.std.specs.declared.cmp.Ordering.{Ordering}
use Rattle.std.specs.declared.cmp.Ordering.TheVariants.{Less, Equal, Greater}
use Rattle.std.proofs.lemmas.List.{append-nil}
use Rattle.std.proofs.lemmas.List.Elements.{AllZip-push}
use Rattle.std.proofs.lemmas.Map.Text.{is_eq-slice_cmp}
use Rattle.art_arena.proofs.Common.{AscendsByKey, all_append, all_left, all_weaker}
use Rattle.art_bytes.proofs.Common.{BeginsWith, Conflict, IsBefore, bytes_cmp, before_cmp, cmp_before}
use Rattle.art_set.proofs.Terms.{is_member, with_key_put, merged, of_first, of_second, AscendsInBytes, difference_of, put_among, put_below, filter-none}
use Rattle.art_set.proofs.KeyPuts.{put-last}
use Rattle.art_operations.proofs.Common.{turned}
use Rattle.art_walks.proofs.Common.{all-filter}
use Rattle.art_set.proofs.MergeLemmas.{AreAbove, above-below, all-joined, all-put, differs-turned}

module _ {K : Type 0} (bytes : K → List ℕ) where
  -- keys in the order of a set ascend by their bytes
  pub ascends-in-bytes : (keys : List K) → AscendsByKey bytes keys → AscendsInBytes bytes keys
  ascends-in-bytes [] h = tt
  ascends-in-bytes (x ∷ xs) h = (all_weaker (λ y. IsBefore (bytes x) (bytes y)) (λ y. bytes_cmp (bytes x) (bytes y) ≡ Less) (λ y b. before_cmp (bytes x) (bytes y) b) xs h.0, ascends-in-bytes xs h.1)

  -- and where none is a front of another, the other way round
  pub ascends-by-key : (is_key : K → Type 0) → ((k l : K) → is_key k → is_key l → BeginsWith (bytes k) (bytes l) → bytes k ≡ bytes l)
      → (keys : List K) → AllByRecursion is_key keys → AscendsInBytes bytes keys → AscendsByKey bytes keys
  ascends-by-key is_key alone [] are h = tt
  ascends-by-key is_key alone (x ∷ xs) are h = (first xs are.1 h.0, ascends-by-key is_key alone xs are.1 h.1)
    where
      apart : (y : K) → is_key y → Conflict (bytes x) (bytes y) → ⊥
      apart y is (differ, inl front) = differ (alone x y are.0 is front)
      apart y is (differ, inr front) = differ (sym (alone y x is are.0 front))

      first : (ys : List K) → AllByRecursion is_key ys → AreAbove bytes x ys → AllByRecursion (λ y. IsBefore (bytes x) (bytes y)) ys
      first [] are h = tt
      first (y ∷ ys) are h = (cmp_before (bytes x) (bytes y) h.0 (apart y are.0), first ys are.1 h.1)

  -- none of these has the bytes of the key
  abbrev AreOthers : K → List K → Type 0
  AreOthers x ys = AllByRecursion (λ y. bytes_eq (bytes y) (bytes x) ≡ false) ys

  -- such a key can be put in
  ascending-put : (x : K) (ys : List K) → AreOthers x ys → AscendsInBytes bytes ys → AscendsInBytes bytes (put_below bytes x ys)
  ascending-put x [] others h = (tt, tt)
  ascending-put x (y ∷ ys) others h = pick (bytes_cmp (bytes x) (bytes y)) refl (ascending-put x ys others.1 h.1)
    where
      pick : (o : Ordering) → bytes_cmp (bytes x) (bytes y) ≡ o → AscendsInBytes bytes (put_below bytes x ys) → AscendsInBytes bytes (cond (is_lt o) (x ∷ y ∷ ys) (y ∷ put_below bytes x ys))
      pick Less e rest = ((e, above-below bytes x y ys e h.0), h)
      pick Equal e rest =
          let same : bytes_eq (bytes y) (bytes x) ≡ true = sym (is_eq-slice_cmp (bytes y) (bytes x)) ∙ ap is_eq (turned (bytes x) (bytes y) Equal e) in
          let clash : true ≡ false = sym same ∙ others.0 in absurd (cc)
      pick Greater e rest = (all-put bytes _ x ys (turned (bytes x) (bytes y) Greater e) h.0, rest)

  -- and so can ascending keys, one after another
  ascending-joined : (zs ys : List K) → AllByRecursion (λ z. AreOthers z ys) zs → AscendsInBytes bytes zs → AscendsInBytes bytes ys → AscendsInBytes bytes (put_among bytes zs ys)
  ascending-joined [] ys others up h = h
  ascending-joined (z ∷ zs) ys others up h =
      ascending-put z (put_among bytes zs ys)
      (all-joined bytes (λ y. bytes_eq (bytes y) (bytes z) ≡ false) zs ys (all_weaker _ _ (λ y e. differs-turned (bytes z) (bytes y) e) zs up.0) others.0)
      (ascending-joined zs ys others.1 up.1 h)

  -- part of an ascending list ascends
  ascending-part : (p : K → Bool) (xs : List K) → AscendsInBytes bytes xs → AscendsInBytes bytes (filter p xs)
  ascending-part p [] h = tt
  ascending-part p (x ∷ xs) h = pick (p x) (ascending-part p xs h.1)
    where
      pick : (b : Bool) → AscendsInBytes bytes (filter p xs) → AscendsInBytes bytes (cond b (x ∷ filter p xs) (filter p xs))
      pick true rest = (all-filter _ p xs h.0, rest)
      pick false rest = rest

  -- a list that lacks a key has others
  lacks-others : (x : K) (ys : List K) → is_member bytes (bytes x) ys ≡ false → AreOthers x ys
  lacks-others x [] e = tt
  lacks-others x (y ∷ ys) e = pick (bytes_eq (bytes y) (bytes x)) refl e (lacks-others x ys)
    where
      pick : (b : Bool) → bytes_eq (bytes y) (bytes x) ≡ b → (b || is_member bytes (bytes x) ys) ≡ false → (is_member bytes (bytes x) ys ≡ false → AreOthers x ys) → AreOthers x (y ∷ ys)
      pick true f e later = absurd (cc)
      pick false f e later = (f, later e)

  -- of the keys that the other list lacks it has others
  difference-others : (ys xs : List K) → AllByRecursion (λ y. AreOthers y xs) (difference_of bytes ys xs)
  difference-others [] xs = tt
  difference-others (y ∷ ys) xs = pick (is_member bytes (bytes y) xs) refl (difference-others ys xs)
    where
      pick : (b : Bool) → is_member bytes (bytes y) xs ≡ b → AllByRecursion (λ y. AreOthers y xs) (difference_of bytes ys xs)
          → AllByRecursion (λ y. AreOthers y xs) (cond (not b) (y ∷ difference_of bytes ys xs) (difference_of bytes ys xs))
      pick true e rest = rest
      pick false e rest = (lacks-others y xs e, rest)

  -- of the keys that are wanted of the second list alone the first has others
  second-others : (first both second : Bool) (xs ys : List K) → AllByRecursion (λ y. AreOthers y xs) (of_second bytes first both second xs ys)
  second-others first both true xs ys = difference-others ys xs
  second-others first both false xs ys = subst (AllByRecursion (λ y. AreOthers y xs)) (sym (filter-none _ ys (λ y. refl))) tt

  pub ascending-merged : (first both second : Bool) (xs ys : List K) → AscendsInBytes bytes xs → AscendsInBytes bytes ys → AscendsInBytes bytes (merged bytes first both second xs ys)
  ascending-merged first both second xs ys up beside = ascending-joined (of_second bytes first both second xs ys) (of_first bytes first both second xs ys)
      (all_weaker _ _ (λ z others. all-filter _ _ xs others) (of_second bytes first both second xs ys) (second-others first both second xs ys))
      (ascending-part _ ys beside) (ascending-part _ xs up)

  pub ascending-left : (xs ys : List K) → AscendsInBytes bytes (xs ++ ys) → AscendsInBytes bytes xs
  ascending-left [] ys up = tt
  ascending-left (x ∷ xs) ys up = (all_left (λ y. bytes_cmp (bytes x) (bytes y) ≡ Less) xs ys up.0, ascending-left xs ys up.1)

  -- of all these keys some came, of which the last list has clones, and the rest is still to come
  pub record HasClonesOfSome (is_key : K → Type 0) (C : K → K → Type 0) (all rest made : List K) : Type 0 where
    pub came : List K
    pub keys : AllByRecursion is_key came
    pub clones : AllZip C came made
    pub whole : came ++ rest ≡ all

  -- where none is still to come, it has clones of all
  pub all-cloned : (is_key : K → Type 0) (C : K → K → Type 0) (all rest made new : List K) → HasClonesOfSome is_key C all rest made → rest ≡ [] → new ≡ made → AllZip C all new
  all-cloned is_key C all rest made new some none is =
      let whole : some.came ≡ all = sym (append-nil some.came) ∙ ap (λ ks. some.came ++ ks) (sym none) ∙ some.whole in
      subst (λ ks. AllZip C ks new) whole (subst (AllZip C some.came) (sym is) some.clones)

  module _ (C : K → K → Type 0) (same : (k c : K) → C k c → bytes c ≡ bytes k) where
    -- clones with the bytes of their keys come in the order of these
    clones-after : (k c : K) → C k c → (ks cs : List K) → AllZip C ks cs → AllByRecursion (λ y. IsBefore (bytes k) (bytes y)) ks → AllByRecursion (λ y. IsBefore (bytes c) (bytes y)) cs
    clones-after k c is [] [] are h = tt
    clones-after k c is [] (d ∷ cs) are h = absurd are
    clones-after k c is (l ∷ ks) [] are h = absurd are
    clones-after k c is (l ∷ ks) (d ∷ cs) are h = (rw (same k c is, same l d are.0) h.0, clones-after k c is ks cs are.1 h.1)

    ascending-clones : (ks cs : List K) → AllZip C ks cs → AscendsByKey bytes ks → AscendsByKey bytes cs
    ascending-clones [] [] are h = tt
    ascending-clones [] (c ∷ cs) are h = absurd are
    ascending-clones (k ∷ ks) [] are h = absurd are
    ascending-clones (k ∷ ks) (c ∷ cs) are h = (clones-after k c are.0 ks cs are.1 h.0, ascending-clones ks cs are.1 h.1)

    -- a clone is put in after those of the keys that come before its own
    pub collected : (is_key : K → Type 0) → ((k l : K) → is_key k → is_key l → BeginsWith (bytes k) (bytes l) → bytes k ≡ bytes l)
        → (all rest on made : List K) (k c : K) (new : List K) → AscendsInBytes bytes all → HasClonesOfSome is_key C all rest made → rest ≡ k ∷ on → is_key k → C k c → new ≡ with_key_put bytes c made
        → HasClonesOfSome is_key C all on new
    collected is_key alone all rest on made k c new up some next is clone put =
        let came = some.came in
        let more = all_append is_key came (k ∷ []) some.keys (is, tt) in
        let part : (came ++ k ∷ []) ++ on ≡ all = append_assoc came (k ∷ []) on ∙ ap (λ ks. came ++ ks) (sym next) ∙ some.whole in
        let ordered = ascends-by-key is_key alone (came ++ k ∷ []) more (ascending-left (came ++ k ∷ []) on (subst (AscendsInBytes bytes) (sym part) up)) in
        let all-clones = AllZip-push C came made k c some.clones clone in
        let last = put ∙ put-last bytes made c (ascending-clones (came ++ k ∷ []) (made ++ c ∷ []) all-clones ordered) in
        record { came = came ++ k ∷ []; keys = more; clones = subst (AllZip C (came ++ k ∷ [])) (sym last) all-clones; whole = part }
