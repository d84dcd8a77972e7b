-- How many items a list has after a change: pairs of a map or keys of a set, each by its key.
use Rattle.std.proofs.Common.{◌≡◌, ℕ, suc, ◌+◌, Bool, true, false, cond, not, ◌||◌, List, [], ◌∷◌, length, bytes_eq, refl, sym, ap, ap₂, subst, ◌∙◌, arith}
use Rattle.std.specs.List.{AllByRecursion}
use Rattle.std.specs.Prelude.{◌&&◌, filter}
use Rattle.std.proofs.lemmas.Bool.{or_parts}
use Rattle.art_bytes.proofs.Common.{IsBefore, before_not_self}
use Rattle.art_arena.proofs.Common.{AscendsByKey, bytes_from_same, is_before, other_key, put_in_order, same_key}
use Rattle.art_map.proofs.FoundAfter.{turned}
use Rattle.art_map.proofs.ItemChanges.{with_item, with_items}
use Rattle.art_map.specs.PairLaws.{has_key, keys_added}
use Rattle.art_operations.proofs.Common.{without_key}

module _ {X : Type 0} (key : X → List ℕ) where
  -- whether a key is there, of those whose keys pass a test
  pub has-kept : (keep : List ℕ → Bool) (k : List ℕ) (xs : List X) → has_key key k (filter (λ x. keep (key x)) xs) ≡ (keep k && has_key key k xs)
  has-kept keep k [] = by_test (keep k)
    where
      by_test : (b : Bool) → false ≡ (b && false)
      by_test true = refl
      by_test false = refl
  has-kept keep k (x ∷ xs) = by_test (keep (key x)) refl (bytes_eq (key x) k) refl (has-kept keep k xs)
    where
      both : (b h : Bool) → b ≡ true → true ≡ (b && true)
      both true h e = refl
      both false h e = sym e

      none : (b h : Bool) → b ≡ false → (b && h) ≡ (b && true)
      none true h e = absurd (cc)
      none false h e = refl

      passes : (c : Bool) → bytes_eq (key x) k ≡ true → keep (key x) ≡ c → keep k ≡ c
      passes c same e = ap keep (sym (bytes_from_same (key x) k same)) ∙ e

      by_test : (b : Bool) → keep (key x) ≡ b → (c : Bool) → bytes_eq (key x) k ≡ c → has_key key k (filter (λ y. keep (key y)) xs) ≡ (keep k && has_key key k xs)
          → has_key key k (cond b (x ∷ filter (λ y. keep (key y)) xs) (filter (λ y. keep (key y)) xs)) ≡ (keep k && (c || has_key key k xs))
      by_test true e true at later = ap (λ t. t || has_key key k (filter (λ y. keep (key y)) xs)) at ∙ both (keep k) true (passes true at e)
      by_test true e false at later = ap (λ t. t || has_key key k (filter (λ y. keep (key y)) xs)) at ∙ later
      by_test false e true at later = later ∙ none (keep k) (has_key key k xs) (passes false at e)
      by_test false e false at later = later

  has-put : (k : List ℕ) (p : X) (xs : List X) → has_key key k (put_in_order key p xs) ≡ (bytes_eq (key p) k || has_key key k xs)
  has-put k p [] = refl
  has-put k p (x ∷ xs) = by_place (is_before (key p) (key x)) (has-put k p xs)
    where
      swapped : (a b c : Bool) → (b || (a || c)) ≡ (a || (b || c))
      swapped true true c = refl
      swapped true false c = refl
      swapped false b c = refl

      by_place : (b : Bool) → has_key key k (put_in_order key p xs) ≡ (bytes_eq (key p) k || has_key key k xs) → has_key key k (cond b (p ∷ x ∷ xs) (x ∷ put_in_order key p xs)) ≡ (bytes_eq (key p) k || (bytes_eq (key x) k || has_key key k xs))
      by_place true later = refl
      by_place false later = ap (λ h. bytes_eq (key x) k || h) later ∙ swapped (bytes_eq (key p) k) (bytes_eq (key x) k) (has_key key k xs)

  -- after one that is put in, and after many
  pub has-with : (k : List ℕ) (p : X) (xs : List X) → has_key key k (with_item key p xs) ≡ (bytes_eq (key p) k || has_key key k xs)
  has-with k p xs =
      has-put k p (without_key key (key p) xs) ∙ ap (λ h. bytes_eq (key p) k || h) (has-kept (λ l. not (bytes_eq l (key p))) k xs ∙ ap (λ b. not b && has_key key k xs) (turned k (key p)))
      ∙ either (bytes_eq (key p) k) (has_key key k xs)
    where
      either : (a h : Bool) → (a || (not a && h)) ≡ (a || h)
      either true h = refl
      either false h = refl

  pub has-with-all : (k : List ℕ) (ps xs : List X) → has_key key k (with_items key ps xs) ≡ (has_key key k ps || has_key key k xs)
  has-with-all k [] xs = refl
  has-with-all k (p ∷ ps) xs = has-with-all k ps (with_item key p xs) ∙ ap (λ h. has_key key k ps || h) (has-with k p xs) ∙ swapped (bytes_eq (key p) k) (has_key key k ps) (has_key key k xs)
    where
      swapped : (a b c : Bool) → (b || (a || c)) ≡ ((a || b) || c)
      swapped true true c = refl
      swapped true false c = refl
      swapped false b c = refl

  -- each key is there once
  abbrev pub AreApart : List X → Type 0
  AreApart [] = Unit {0}
  AreApart (x ∷ xs) = (has_key key (key x) xs ≡ false) × AreApart xs

  none-after : (k : List ℕ) (xs : List X) → AllByRecursion (λ y. IsBefore k (key y)) xs → has_key key k xs ≡ false
  none-after k [] h = refl
  none-after k (x ∷ xs) h = ap₂ (λ a b. a || b) (other_key (key x) k (λ e. before_not_self k (subst (IsBefore k) e h.0))) (none-after k xs h.1)

  pub ascending-apart : (xs : List X) → AscendsByKey key xs → AreApart xs
  ascending-apart [] up = tt
  ascending-apart (x ∷ xs) up = (none-after (key x) xs up.0, ascending-apart xs up.1)

  apart-kept : (keep : List ℕ → Bool) (xs : List X) → AreApart xs → AreApart (filter (λ x. keep (key x)) xs)
  apart-kept keep [] h = tt
  apart-kept keep (x ∷ xs) h = by_test (keep (key x)) (apart-kept keep xs h.1)
    where
      none : (b : Bool) → (b && false) ≡ false
      none true = refl
      none false = refl

      by_test : (b : Bool) → AreApart (filter (λ y. keep (key y)) xs) → AreApart (cond b (x ∷ filter (λ y. keep (key y)) xs) (filter (λ y. keep (key y)) xs))
      by_test true later = (has-kept keep (key x) xs ∙ ap (λ b. keep (key x) && b) h.0 ∙ none (keep (key x)), later)
      by_test false later = later

  apart-put : (p : X) (xs : List X) → has_key key (key p) xs ≡ false → AreApart xs → AreApart (put_in_order key p xs)
  apart-put p [] new h = (refl, tt)
  apart-put p (x ∷ xs) new h =
      let (other, none) = or_parts (bytes_eq (key x) (key p)) (has_key key (key p) xs) new in
      by_place (is_before (key p) (key x)) (has-put (key x) p xs ∙ ap₂ (λ a b. a || b) (turned (key p) (key x) ∙ other) h.0) (apart-put p xs none h.1)
    where
      by_place : (b : Bool) → has_key key (key x) (put_in_order key p xs) ≡ false → AreApart (put_in_order key p xs) → AreApart (cond b (p ∷ x ∷ xs) (x ∷ put_in_order key p xs))
      by_place true none later = (new, h)
      by_place false none later = (none, later)

  gone : (k : List ℕ) (xs : List X) → has_key key k (without_key key k xs) ≡ false
  gone k xs = has-kept (λ l. not (bytes_eq l k)) k xs ∙ ap (λ b. not b && has_key key k xs) (same_key k k refl)

  apart-with : (p : X) (xs : List X) → AreApart xs → AreApart (with_item key p xs)
  apart-with p xs h = apart-put p (without_key key (key p) xs) (gone (key p) xs) (apart-kept (λ l. not (bytes_eq l (key p))) xs h)

  pub long-put : (p : X) (xs : List X) → length (put_in_order key p xs) ≡ suc (length xs)
  long-put p [] = refl
  long-put p (x ∷ xs) = by_place (is_before (key p) (key x)) (long-put p xs)
    where
      by_place : (b : Bool) → length (put_in_order key p xs) ≡ suc (length xs) → length (cond b (p ∷ x ∷ xs) (x ∷ put_in_order key p xs)) ≡ suc (length (x ∷ xs))
      by_place true later = refl
      by_place false later = ap suc later

  -- how many there are without a key, and with one
  pub long-without : (k : List ℕ) (xs : List X) → AreApart xs → length (without_key key k xs) + cond (has_key key k xs) 1 0 ≡ length xs
  long-without k [] h = refl
  long-without k (x ∷ xs) h = by_key (bytes_eq (key x) k) refl (long-without k xs h.1)
    where
      one-left : (b : Bool) (n m : ℕ) → b ≡ false → n + cond b 1 0 ≡ m → n + 1 ≡ suc m
      one-left true n m none e = absurd (cc)
      one-left false n m none e = omega (arith, e)

      by_key : (c : Bool) → bytes_eq (key x) k ≡ c → length (without_key key k xs) + cond (has_key key k xs) 1 0 ≡ length xs
          → length (cond (not c) (x ∷ without_key key k xs) (without_key key k xs)) + cond (c || has_key key k xs) 1 0 ≡ length (x ∷ xs)
      by_key true at later =
          one-left (has_key key k xs) (length (without_key key k xs)) (length xs) (ap (λ l. has_key key l xs) (sym (bytes_from_same (key x) k at)) ∙ h.0) later
      by_key false at later = omega (arith, later)

  pub long-with : (p : X) (xs : List X) → AreApart xs → length (with_item key p xs) ≡ cond (has_key key (key p) xs) (length xs) (suc (length xs))
  long-with p xs h = by_test (has_key key (key p) xs) (long-put p (without_key key (key p) xs)) (long-without (key p) xs h)
    where
      by_test : (b : Bool) → length (with_item key p xs) ≡ suc (length (without_key key (key p) xs)) → length (without_key key (key p) xs) + cond b 1 0 ≡ length xs → length (with_item key p xs) ≡ cond b (length xs) (suc (length xs))
      by_test true put removed = omega (arith, put, removed)
      by_test false put removed = omega (arith, put, removed)

  -- an item that is put in first is none of those that are added later
  added-with : (p : X) (ps xs : List X) → keys_added key ps (with_item key p xs) + cond (has_key key (key p) ps && not (has_key key (key p) xs)) 1 0 ≡ keys_added key ps xs
  added-with p [] xs = refl
  added-with p (y ∷ ys) xs = by_key (bytes_eq (key y) (key p)) refl (added-with p ys xs)
    where
      later : ℕ
      later = keys_added key ys (with_item key p xs)

      here : (a b : Bool) (n m : ℕ) → n + cond (a && not b) 1 0 ≡ m → (cond (a || true) 0 1 + n) + cond (not b) 1 0 ≡ cond (a || b) 0 1 + m
      here true true n m e = omega (arith, e)
      here true false n m e = omega (arith, e)
      here false true n m e = omega (arith, e)
      here false false n m e = omega (arith, e)

      by_key : (c : Bool) → bytes_eq (key y) (key p) ≡ c → later + cond (has_key key (key p) ys && not (has_key key (key p) xs)) 1 0 ≡ keys_added key ys xs
          → (cond (has_key key (key y) ys || has_key key (key y) (with_item key p xs)) 0 1 + later) + cond ((c || has_key key (key p) ys) && not (has_key key (key p) xs)) 1 0
          ≡ cond (has_key key (key y) ys || has_key key (key y) xs) 0 1 + keys_added key ys xs
      by_key true at e =
          let same = bytes_from_same (key y) (key p) at in
          let there = has-with (key y) p xs ∙ ap (λ b. b || has_key key (key y) xs) (same_key (key p) (key y) (sym same)) in
          ap (λ t. (cond (has_key key (key y) ys || t) 0 1 + later) + cond (not (has_key key (key p) xs)) 1 0) there
          ∙ subst (λ k. (cond (has_key key (key y) ys || true) 0 1 + later) + cond (not (has_key key k xs)) 1 0 ≡ cond (has_key key (key y) ys || has_key key (key y) xs) 0 1 + keys_added key ys xs) same
          (here (has_key key (key y) ys) (has_key key (key y) xs) later (keys_added key ys xs) (subst (λ k. later + cond (has_key key k ys && not (has_key key k xs)) 1 0 ≡ keys_added key ys xs) (sym same) e))
      by_key false at e =
          let there = has-with (key y) p xs ∙ ap (λ b. b || has_key key (key y) xs) (turned (key p) (key y) ∙ at) in
          ap (λ t. (cond (has_key key (key y) ys || t) 0 1 + later) + cond (has_key key (key p) ys && not (has_key key (key p) xs)) 1 0) there
          ∙ omega (arith, e)

  -- how many there are after many that are put in
  pub long-all-put : (ps xs : List X) → AreApart xs → length (with_items key ps xs) ≡ length xs + keys_added key ps xs
  long-all-put [] xs h = omega arith
  long-all-put (p ∷ ps) xs h =
      by_test (has_key key (key p) ps) (has_key key (key p) xs) (long-all-put ps (with_item key p xs) (apart-with p xs h)) (long-with p xs h) (added-with p ps xs)
    where
      by_test : (a b : Bool) → length (with_items key ps (with_item key p xs)) ≡ length (with_item key p xs) + keys_added key ps (with_item key p xs)
          → length (with_item key p xs) ≡ cond b (length xs) (suc (length xs))
          → keys_added key ps (with_item key p xs) + cond (a && not b) 1 0 ≡ keys_added key ps xs
          → length (with_items key ps (with_item key p xs)) ≡ length xs + (cond (a || b) 0 1 + keys_added key ps xs)
      by_test true true all one more = omega (arith, all, one, more)
      by_test true false all one more = omega (arith, all, one, more)
      by_test false true all one more = omega (arith, all, one, more)
      by_test false false all one more = omega (arith, all, one, more)
