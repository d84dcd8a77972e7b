-- What is a member after a change and of a merge, how many keys there are then, and which. Callers cite these lemmas.
use Rattle.std.proofs.Common.{◌≡◌, ◌⊎◌, inl, inr, ℕ, suc, ◌+◌, Bool, true, false, cond, not, ◌||◌, List, [], ◌∷◌, length, Some, bytes_eq, refl, sym, ap, ap₂, subst, ◌∙◌, arith}
use Rattle.std.specs.Prelude.{◌&&◌, ◌↔◌, filter, find}
use Rattle.std.specs.List.{AllZip}
use Rattle.std.proofs.Math.Bool.{and_comm, or-true, or_comm}
use Rattle.std.proofs.lemmas.List.Elements.{same_from_all_zip}
use Rattle.std.proofs.lemmas.List.Filters.{length-filter_both}
use Rattle.art_bytes.proofs.Common.{IsBefore}
use Rattle.art_bytes.specs.Keys.{is_below}
use Rattle.art_arena.proofs.Common.{AscendsByKey, IsIn, begins_with, bytes_from_same, same_key, without_front}
use Rattle.art_map.proofs.Common.{first_item, has_bytes, keys_added, last_item}
use Rattle.art_map.proofs.FoundAfter.{turned}
use Rattle.art_map.proofs.ItemChanges.{first-least, found-by-key, in-all-put, in-kept, in-left, in-put-over, last-greatest, with_items}
use Rattle.art_map.proofs.ItemCounts.{AreApart, ascending-apart, has-kept, has-with, has-with-all, long-all-put, long-with, long-without}
use Rattle.art_map.specs.PairLaws.{StandsLast}
use Rattle.art_operations.proofs.Common.{HasKey, without_key}
use Rattle.art_set.proofs.Terms.{difference_of, filter-none, is_member, put_among, put_below, with_key_put, with_keys_put}
use Rattle.art_set.specs.Merges.{intersection_of, symmetric_difference_of, union_of}

-- a key that is there is a member, and a member's key is there
key-there : {K : Type 0} (bytes : K → List ℕ) (k : List ℕ) (keys : List K) → HasKey bytes k keys → is_member bytes k keys ≡ true
key-there bytes k [] (x, i, e) = absurd i
key-there bytes k (y ∷ ys) (x, inl f, e) = ap (λ b. b || is_member bytes k ys) (same_key (bytes y) k (ap bytes f ∙ e))
key-there bytes k (y ∷ ys) (x, inr j, e) = ap (λ b. bytes_eq (bytes y) k || b) (key-there bytes k ys (x, j, e)) ∙ or-true (bytes_eq (bytes y) k)

there-key : {K : Type 0} (bytes : K → List ℕ) (k : List ℕ) (keys : List K) → is_member bytes k keys ≡ true → HasKey bytes k keys
there-key bytes k [] e = absurd (cc)
there-key bytes k (y ∷ ys) e = by_test (bytes_eq (bytes y) k) refl e (there-key bytes k ys)
  where
    by_test : (b : Bool) → bytes_eq (bytes y) k ≡ b → (b || is_member bytes k ys) ≡ true → (is_member bytes k ys ≡ true → HasKey bytes k ys) → HasKey bytes k (y ∷ ys)
    by_test true at e later = (y, inl refl, bytes_from_same (bytes y) k at)
    by_test false at e later = let (x, i, same) = later e in (x, inr i, same)

module _ {K : Type 0} where
  pub in-retained-keys : (test : K → Bool) (q : K) (keys : List K) → IsIn q (filter test keys) ↔ (IsIn q keys × (test q ≡ true))
  in-retained-keys = in-kept

  pub long-retained-keys : (test : K → Bool) (keys : List K) → length (filter test keys) + length (filter (λ k. not (test k)) keys) ≡ length keys
  long-retained-keys test keys = length-filter_both test (λ k. not (test k)) (λ k. refl) keys

  -- clones that equal their keys are these keys
  pub clones-are-keys : (is_clone : K → K → Type 0) (keys clones : List K) → ((k c : K) → is_clone k c → c ≡ k) → AllZip is_clone keys clones → clones ≡ keys
  clones-are-keys is_clone keys clones same are = same_from_all_zip is_clone keys clones are same

module _ {K : Type 0} (bytes : K → List ℕ) where
  -- keys that are put in are items that are
  pub all-put : (new keys : List K) → with_keys_put bytes new keys ≡ with_items bytes new keys
  all-put [] keys = refl
  all-put (k ∷ new) keys = all-put new (with_key_put bytes k keys)

  module _ (query : List ℕ) where
    pub member-inserted : (k : K) (keys : List K) → is_member bytes query (with_key_put bytes k keys) ≡ (bytes_eq (bytes k) query || is_member bytes query keys)
    member-inserted = has-with bytes query

    pub member-inserted-all : (new keys : List K) → is_member bytes query (with_keys_put bytes new keys) ≡ (is_member bytes query new || is_member bytes query keys)
    member-inserted-all new keys = ap (is_member bytes query) (all-put new keys) ∙ has-with-all bytes query new keys

    -- so each key that was put in is there
    pub put-has : (new keys : List K) → HasKey bytes query new → HasKey bytes query (with_keys_put bytes new keys)
    put-has new keys has = there-key bytes query (with_keys_put bytes new keys) (member-inserted-all new keys ∙ ap (λ b. b || is_member bytes query keys) (key-there bytes query new has))

    pub member-retained : (keep : List ℕ → Bool) (keys : List K) → is_member bytes query (filter (λ k. keep (bytes k)) keys) ≡ (keep query && is_member bytes query keys)
    member-retained keep keys = has-kept bytes keep query keys

    pub member-removed : (key : List ℕ) (keys : List K) → is_member bytes query (without_key bytes key keys) ≡ (not (bytes_eq key query) && is_member bytes query keys)
    member-removed key keys = member-retained (λ l. not (bytes_eq l key)) keys ∙ ap (λ b. not b && is_member bytes query keys) (turned query key)

    pub member-cut : (front : List ℕ) (keys : List K) → is_member bytes query (without_front bytes front keys) ≡ (not (begins_with front query) && is_member bytes query keys)
    member-cut front keys = member-retained (λ l. not (begins_with front l)) keys

    pub member-both : (xs ys : List K) → is_member bytes query (intersection_of bytes xs ys) ≡ (is_member bytes query xs && is_member bytes query ys)
    member-both xs ys = member-retained (λ l. is_member bytes l ys) xs ∙ and_comm (is_member bytes query ys) (is_member bytes query xs)

    pub member-alone : (xs ys : List K) → is_member bytes query (difference_of bytes xs ys) ≡ (is_member bytes query xs && not (is_member bytes query ys))
    member-alone xs ys = member-retained (λ l. not (is_member bytes l ys)) xs ∙ and_comm (not (is_member bytes query ys)) (is_member bytes query xs)

    member-below : (x : K) (ys : List K) → is_member bytes query (put_below bytes x ys) ≡ (bytes_eq (bytes x) query || is_member bytes query ys)
    member-below x [] = refl
    member-below x (y ∷ ys) = by_place (is_below (bytes x) (bytes y)) (member-below x ys)
      where
        swapped : (a b c : Bool) → (b || (a || c)) ≡ (a || (b || c))
        swapped true true c = refl
        swapped true false c = refl
        swapped false b c = refl

        by_place : (b : Bool) → is_member bytes query (put_below bytes x ys) ≡ (bytes_eq (bytes x) query || is_member bytes query ys) → is_member bytes query (cond b (x ∷ y ∷ ys) (y ∷ put_below bytes x ys)) ≡ (bytes_eq (bytes x) query || (bytes_eq (bytes y) query || is_member bytes query ys))
        by_place true later = refl
        by_place false later = ap (λ h. bytes_eq (bytes y) query || h) later ∙ swapped (bytes_eq (bytes x) query) (bytes_eq (bytes y) query) (is_member bytes query ys)

    member-among : (xs ys : List K) → is_member bytes query (put_among bytes xs ys) ≡ (is_member bytes query xs || is_member bytes query ys)
    member-among [] ys = refl
    member-among (x ∷ xs) ys = member-below x (put_among bytes xs ys) ∙ ap (λ h. bytes_eq (bytes x) query || h) (member-among xs ys) ∙ grouped (bytes_eq (bytes x) query)
      where
        grouped : (a : Bool) → (a || (is_member bytes query xs || is_member bytes query ys)) ≡ ((a || is_member bytes query xs) || is_member bytes query ys)
        grouped true = refl
        grouped false = refl

    pub member-either : (xs ys : List K) → is_member bytes query (union_of bytes xs ys) ≡ (is_member bytes query xs || is_member bytes query ys)
    member-either xs ys = member-among (difference_of bytes ys xs) xs ∙ ap (λ h. h || is_member bytes query xs) (member-alone ys xs) ∙ so (is_member bytes query xs) (is_member bytes query ys)
      where
        so : (a b : Bool) → ((b && not a) || a) ≡ (a || b)
        so true true = refl
        so true false = refl
        so false true = refl
        so false false = refl

    pub member-one : (xs ys : List K) → is_member bytes query (symmetric_difference_of bytes xs ys) ≡ ((is_member bytes query xs && not (is_member bytes query ys)) || (is_member bytes query ys && not (is_member bytes query xs)))
    member-one xs ys =
        member-among (difference_of bytes ys xs) (difference_of bytes xs ys) ∙ ap₂ (λ a b. a || b) (member-alone ys xs) (member-alone xs ys)
        ∙ or_comm (is_member bytes query ys && not (is_member bytes query xs)) (is_member bytes query xs && not (is_member bytes query ys))

  -- how many there are
  pub long-key-inserted : (k : K) (keys : List K) → AscendsByKey bytes keys → length (with_key_put bytes k keys) ≡ cond (is_member bytes (bytes k) keys) (length keys) (suc (length keys))
  long-key-inserted k keys up = long-with bytes k keys (ascending-apart bytes keys up)

  pub long-key-removed : (key : List ℕ) (keys : List K) → AscendsByKey bytes keys → length (without_key bytes key keys) + cond (is_member bytes key keys) 1 0 ≡ length keys
  long-key-removed key keys up = long-without bytes key keys (ascending-apart bytes keys up)

  pub long-keys-inserted : (new keys : List K) → AscendsByKey bytes keys → length (with_keys_put bytes new keys) ≡ length keys + keys_added bytes new keys
  long-keys-inserted new keys up = ap length (all-put new keys) ∙ long-all-put bytes new keys (ascending-apart bytes keys up)

  long-below : (x : K) (ys : List K) → length (put_below bytes x ys) ≡ suc (length ys)
  long-below x [] = refl
  long-below x (y ∷ ys) = by_place (is_below (bytes x) (bytes y)) (long-below x ys)
    where
      by_place : (b : Bool) → length (put_below bytes x ys) ≡ suc (length ys) → length (cond b (x ∷ y ∷ ys) (y ∷ put_below bytes x ys)) ≡ suc (suc (length ys))
      by_place true later = refl
      by_place false later = ap suc later

  long-among : (xs ys : List K) → length (put_among bytes xs ys) ≡ length ys + length xs
  long-among [] ys = omega arith
  long-among (x ∷ xs) ys = let below = long-below x (put_among bytes xs ys) in let later = long-among xs ys in omega (arith, below, later)

  pub long-difference : (xs ys : List K) → length (intersection_of bytes xs ys) + length (difference_of bytes xs ys) ≡ length xs
  long-difference xs ys = long-retained-keys (λ x. is_member bytes (bytes x) ys) xs

  -- one if so, and none if not
  abbrev one_if : Bool → ℕ
  one_if b = cond b 1 0

  -- one key more of the second list
  one-more : (x : K) (xs ys : List K) → is_member bytes (bytes x) xs ≡ false → AreApart bytes ys
      → length (filter (λ y. bytes_eq (bytes x) (bytes y) || is_member bytes (bytes y) xs) ys) ≡ one_if (is_member bytes (bytes x) ys) + length (intersection_of bytes ys xs)
  one-more x xs [] none apart = refl
  one-more x xs (y ∷ ys) none apart = by_key (bytes_eq (bytes x) (bytes y)) refl (is_member bytes (bytes y) xs) refl (one-more x xs ys none apart.1)
    where
      with-x : List K
      with-x = filter (λ l. bytes_eq (bytes x) (bytes l) || is_member bytes (bytes l) xs) ys

      common : List K
      common = intersection_of bytes ys xs

      later : Bool
      later = is_member bytes (bytes x) ys

      here : (b : Bool) → bytes_eq (bytes x) (bytes y) ≡ b → one_if (bytes_eq (bytes y) (bytes x) || later) ≡ one_if (b || later)
      here b at = ap (λ c. one_if (c || later)) (turned (bytes y) (bytes x) ∙ at)

      counted : (m : Bool) (l c : ℕ) → length with-x ≡ l + length common → c ≡ l → length (cond m (y ∷ with-x) with-x) ≡ c + length (cond m (y ∷ common) common)
      counted true l c all is = omega (arith, all, is)
      counted false l c all is = omega (arith, all, is)

      by_key : (b : Bool) → bytes_eq (bytes x) (bytes y) ≡ b → (m : Bool) → is_member bytes (bytes y) xs ≡ m → length with-x ≡ one_if later + length common
          → length (cond (b || m) (y ∷ with-x) with-x) ≡ one_if (bytes_eq (bytes y) (bytes x) || later) + length (cond m (y ∷ common) common)
      by_key true at true m e =
          let clash : true ≡ false = sym m ∙ ap (λ k. is_member bytes k xs) (sym (bytes_from_same (bytes x) (bytes y) at)) ∙ none in absurd (cc)
      by_key true at false m e =
          let gone : one_if later ≡ 0 = ap one_if (ap (λ k. is_member bytes k ys) (bytes_from_same (bytes x) (bytes y) at) ∙ apart.0) in
          let one : one_if (bytes_eq (bytes y) (bytes x) || later) ≡ 1 = here true at in
          omega (arith, e, gone, one)
      by_key false at m is e = counted m (one_if later) (one_if (bytes_eq (bytes y) (bytes x) || later)) e (here false at)

  many-common : (xs ys : List K) → AreApart bytes xs → AreApart bytes ys → length (intersection_of bytes xs ys) ≡ length (intersection_of bytes ys xs)
  many-common [] ys one other = sym (ap length (filter-none (λ y. false) ys (λ y. refl)))
  many-common (x ∷ xs) ys one other = by_test (is_member bytes (bytes x) ys) (many-common xs ys one.1 other) (one-more x xs ys one.0 other)
    where
      by_test : (b : Bool) → length (intersection_of bytes xs ys) ≡ length (intersection_of bytes ys xs) → length (intersection_of bytes ys (x ∷ xs)) ≡ one_if b + length (intersection_of bytes ys xs)
          → length (cond b (x ∷ intersection_of bytes xs ys) (intersection_of bytes xs ys)) ≡ length (intersection_of bytes ys (x ∷ xs))
      by_test true later more = omega (arith, later, more)
      by_test false later more = omega (arith, later, more)

  pub long-intersection : (xs ys : List K) → AscendsByKey bytes xs → AscendsByKey bytes ys → length (intersection_of bytes xs ys) ≡ length (intersection_of bytes ys xs)
  long-intersection xs ys one other = many-common xs ys (ascending-apart bytes xs one) (ascending-apart bytes ys other)

  pub long-union : (xs ys : List K) → length (union_of bytes xs ys) ≡ length xs + length (difference_of bytes ys xs)
  long-union xs ys = long-among (difference_of bytes ys xs) xs

  pub long-symmetric : (xs ys : List K) → length (symmetric_difference_of bytes xs ys) ≡ length (difference_of bytes xs ys) + length (difference_of bytes ys xs)
  long-symmetric xs ys = long-among (difference_of bytes ys xs) (difference_of bytes xs ys)

  -- and which
  pub in-key-inserted : (q k : K) (keys : List K) → IsIn q (with_key_put bytes k keys) ↔ ((q ≡ k) ⊎ (IsIn q keys × (bytes_eq (bytes q) (bytes k) ≡ false)))
  in-key-inserted q k keys = in-put-over bytes (λ x. bytes_eq (bytes x) (bytes k)) k q keys

  pub in-key-removed : (q : K) (key : List ℕ) (keys : List K) → IsIn q (without_key bytes key keys) ↔ (IsIn q keys × (bytes_eq (bytes q) key ≡ false))
  in-key-removed q key = in-left (λ k. bytes_eq (bytes k) key) q

  pub in-keys-cut : (q : K) (front : List ℕ) (keys : List K) → IsIn q (without_front bytes front keys) ↔ (IsIn q keys × (begins_with front (bytes q) ≡ false))
  in-keys-cut q front = in-left (λ k. begins_with front (bytes k)) q

  pub in-keys-inserted : (q : K) (new keys : List K) → IsIn q (with_keys_put bytes new keys) ↔ (StandsLast bytes q new ⊎ (IsIn q keys × (HasKey bytes (bytes q) new → ⊥)))
  in-keys-inserted q new keys = subst (λ l. IsIn q l ↔ (StandsLast bytes q new ⊎ (IsIn q keys × (HasKey bytes (bytes q) new → ⊥)))) (sym (all-put new keys)) (in-all-put bytes q new keys)

  pub key-found : (query : List ℕ) (k : K) (keys : List K) → AscendsByKey bytes keys → (find (has_bytes bytes query) keys ≡ Some k) ↔ (IsIn k keys × (bytes_eq (bytes k) query ≡ true))
  key-found = found-by-key bytes

  pub first-key-least : (k q : K) (keys : List K) → AscendsByKey bytes keys → first_item keys ≡ Some k → IsIn q keys → (q ≡ k) ⊎ IsBefore (bytes k) (bytes q)
  first-key-least = first-least bytes

  pub last-key-greatest : (k q : K) (keys : List K) → AscendsByKey bytes keys → last_item keys ≡ Some k → IsIn q keys → (q ≡ k) ⊎ IsBefore (bytes q) (bytes k)
  last-key-greatest = last-greatest bytes

-- what the laws of a set say
pub ruleset member_laws = (
  member-inserted,
  member-removed,
  member-cut,
  member-inserted-all,
  member-retained,
  member-both,
  member-alone,
  member-either,
  member-one,
  long-key-inserted,
  long-key-removed,
  long-keys-inserted,
  long-retained-keys,
  long-difference,
  long-intersection,
  long-union,
  long-symmetric,
  first-key-least,
  last-key-greatest,
  clones-are-keys,
)
