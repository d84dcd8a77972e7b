-- Lemmas on bytes marked by bits: an edit of a bit is an edit of the ascending bytes.
use Rattle.std.proofs.Common.{◌≡◌, ℕ, zero, suc, ◌+◌, ◌-◌, ◌*◌, ◌/◌, ◌%◌, ◌^◌, ◌<◌, ◌≤◌, ◌≢◌, ◌==◌, ◌&&◌, nat_lt, nat_le, Bool, true, false, cond, List, [], ◌∷◌, ◌++◌, length, drop, slice_index, slice_set, bit_and, bit_or, w64, refl, sym, ap, ap₂, ◌∙◌, inl, inr, arith, length-append}
use Rattle.std.proofs.Common.{get_or-set_same, get_or-set_other}
use Rattle.std.specs.Int.{bit_at, bit_not}
use Rattle.std.specs.List.{insert, remove}
use Rattle.std.proofs.lemmas.Bool.{and_parts}
use Rattle.std.proofs.lemmas.Bool.Decides.{leb_tells, eqb_tells}
use Rattle.std.proofs.lemmas.List.{take_at, drop_at}
use lib.Seq.{get_or_at}
use Rattle.std.proofs.lemmas.Nat.Bits.{bit_at-zero, bit_at_set_same, bit_at_set_other, bit_at_clear_same, bit_at_clear_other}
use Rattle.art_nodes.proofs.Terms.{place, StandsAt, BelongsAt, IsFirstFrom, IsLastBelow, is_set, is_marked, marked}
use Rattle.art_nodes.specs.inner.Mask.{those_passing}
use Rattle.art_nodes.proofs.PassingLemmas.{passing-same, passing-none, passing-parts, passing-one, length-passing_from, stands-passes, place_of_bound, with_it, without_it}

-- how many pass up to a number, and so many more
length_up_to : (p : ℕ → Bool) (m n : ℕ) → length (those_passing p 0 (m + n)) ≡ length (those_passing p 0 m) + length (those_passing p m n)
length_up_to p m n =
    let e : 0 + m ≡ m = omega arith in
    ap (λ (ks : List ℕ). length ks) (passing-parts p 0 m n) ∙ length-append (those_passing p 0 m) (those_passing p (0 + m) n) ∙ ap (λ k. length (those_passing p 0 m) + length (those_passing p k n)) e

-- bounds between which none passes have one place
places_apart : (p : ℕ → Bool) (low high : ℕ) → high ≤ 256 → low ≤ high → ((k : ℕ) → low ≤ k → k < high → p k ≡ false) → place (those_passing p 0 256) low ≡ place (those_passing p 0 256) high
places_apart p low high fits le none =
    let e : high ≡ low + (high - low) = omega arith in
    let nothing : length (those_passing p low (high - low)) ≡ 0 = ap (λ (ks : List ℕ). length ks) (passing-none p low (high - low) (λ k from to. none k from (omega (arith, to)))) in
    let long : length (those_passing p 0 high) ≡ length (those_passing p 0 low) + length (those_passing p low (high - low)) = ap (λ n. length (those_passing p 0 n)) e ∙ length_up_to p low (high - low) in
    omega (arith, place_of_bound p low (omega arith), place_of_bound p high fits, long, nothing)

-- bytes below 256 that pass, and one of them
module _ (p : ℕ → Bool) (byte : ℕ) (fits : byte < 256) where
  abbrev all : List ℕ
  all = those_passing p 0 256

  abbrev front : List ℕ
  front = those_passing p 0 byte

  abbrev back : List ℕ
  back = those_passing p (suc byte) (255 - byte)

  -- one that passes stands at its place, and one that doesn't belongs there
  pub stands : p byte ≡ true → StandsAt all byte (place all byte)
  stands yes_it =
      let parts = with_it p byte fits yes_it in
      let at = place_of_bound p byte (omega arith) in
      let here : slice_index all (length front) ≡ byte = ap (λ ks. slice_index ks (length front)) parts ∙ get_or_at front byte back 0 (length front) refl in
      let long : length all ≡ length front + suc (length back) = ap (λ (ks : List ℕ). length ks) parts ∙ length-append front (byte ∷ back) in
      record { is_place = refl; within = omega (arith, at, long); here = ap (λ i. slice_index all i) at ∙ here }

  pub belongs : p byte ≡ false → BelongsAt all byte (place all byte)
  belongs no_it = record {
    is_place = refl;
    apart = λ within same. absurd (let e : true ≡ false = sym (stands-passes p 0 256 (place all byte) within) ∙ ap p same ∙ no_it in cc);
  }

  pub passes_where_it_stands : (at : ℕ) → StandsAt all byte at → p byte ≡ true
  passes_where_it_stands at st = ap p (sym st.here) ∙ stands-passes p 0 256 at st.within

  pub fails_where_it_belongs : (at : ℕ) → BelongsAt all byte at → p byte ≡ false
  fails_where_it_belongs at be = go (p byte) refl
    where
      go : (t : Bool) → p byte ≡ t → p byte ≡ false
      go false e = e
      go true e = let st = stands e in absurd (be.apart (omega (arith, st.within, be.is_place)) (ap (λ i. slice_index all i) be.is_place ∙ st.here))

  -- the first from a bound on, and the last below one
  pub next_from : (from : ℕ) → from ≤ byte → p byte ≡ true → ((k : ℕ) → from ≤ k → k < byte → p k ≡ false) → IsFirstFrom all from byte
  next_from from le yes_it none =
      let st = stands yes_it in
      let same : place all from ≡ place all byte = places_apart p from byte (omega arith) le none in
      let one : length (those_passing p byte 1) ≡ 1 = ap (λ (ks : List ℕ). length ks) (passing-one p byte ∙ ap (λ t. cond t (byte ∷ []) []) yes_it) in
      let more : place all (byte + 1) ≡ place all byte + 1 = place_of_bound p (byte + 1) (omega arith) ∙ length_up_to p byte 1 ∙ ap₂ (λ m n. m + n) (sym (place_of_bound p byte (omega arith))) one in
      record { stands = record { is_place = same; within = omega (arith, same, st.within); here = ap (λ i. slice_index all i) same ∙ st.here }; after = omega (arith, more, same) }

  pub last_below : (to : ℕ) → byte < to → to ≤ 256 → p byte ≡ true → ((k : ℕ) → byte < k → k < to → p k ≡ false) → IsLastBelow all to byte
  last_below to less few yes_it none =
      let one : length (those_passing p byte 1) ≡ 1 = ap (λ (ks : List ℕ). length ks) (passing-one p byte ∙ ap (λ t. cond t (byte ∷ []) []) yes_it) in
      let more : place all (byte + 1) ≡ place all byte + 1 = place_of_bound p (byte + 1) (omega arith) ∙ length_up_to p byte 1 ∙ ap₂ (λ m n. m + n) (sym (place_of_bound p byte (omega arith))) one in
      let same : place all (byte + 1) ≡ place all to = places_apart p (byte + 1) to few (omega arith) (λ k from below. none k (omega (arith, from)) below) in
      record { stands = stands yes_it; before = omega (arith, more, same) }

  -- another test, which differs at this byte alone
  module _ (q : ℕ → Bool) (same : (k : ℕ) → k < 256 → k ≢ byte → q k ≡ p k) where
    fronts : those_passing q 0 byte ≡ front
    fronts = passing-same p q 0 byte (λ k from to. same k (omega (arith, to, fits)) (λ e. absurd (omega (arith, e, to))))

    backs : those_passing q (suc byte) (255 - byte) ≡ back
    backs = passing-same p q (suc byte) (255 - byte) (λ k from to. same k (omega (arith, to, fits)) (λ e. absurd (omega (arith, e, from))))

    pub inserted : p byte ≡ false → q byte ≡ true → those_passing q 0 256 ≡ insert all (place all byte) byte
    inserted no_it yes_it =
        let parts = without_it p byte fits no_it in
        let edit : insert all (length front) byte ≡ front ++ byte ∷ back = ap (λ (ks : List ℕ). insert ks (length front) byte) parts ∙ ap₂ (λ f b. f ++ byte ∷ b) (take_at front back (length front) refl) (drop_at front back (length front) refl) in
        with_it q byte fits yes_it ∙ ap₂ (λ f b. f ++ byte ∷ b) fronts backs ∙ sym edit ∙ ap (λ i. insert all i byte) (sym (place_of_bound p byte (omega arith)))

    pub removed : p byte ≡ true → q byte ≡ false → those_passing q 0 256 ≡ remove all (place all byte)
    removed yes_it no_it =
        let parts = with_it p byte fits yes_it in
        let edit : remove all (length front) ≡ front ++ back = ap (λ (ks : List ℕ). remove ks (length front)) parts ∙ ap₂ (λ f b. f ++ b) (take_at front (byte ∷ back) (length front) refl) (following front) in
        without_it q byte fits no_it ∙ ap₂ (λ f b. f ++ b) fronts backs ∙ sym edit ∙ ap (λ i. remove all i) (sym (place_of_bound p byte (omega arith)))
      where
        following : (xs : List ℕ) → drop (suc (length xs)) (xs ++ byte ∷ back) ≡ back
        following [] = refl
        following (x ∷ xs) = following xs

-- a byte is a bit of a word
pub bit_of_word : (words : List ℕ) (k j : ℕ) → j < 64 → is_marked words (64 * k + j) ≡ is_set (slice_index words k) j
bit_of_word words k j less =
    let e : (64 * k + j) / 64 ≡ k = omega arith in
    let f : (64 * k + j) % 64 ≡ j = omega arith in
    ap₂ (λ at i. is_set (slice_index words at) i) e f

-- how many bytes of a word are marked, up to one of them
marked_in_word : (words : List ℕ) (at r : ℕ) → r ≤ 64 → length (those_passing (is_marked words) (64 * at) r) ≡ length (those_passing (is_set (slice_index words at)) 0 r)
marked_in_word words at r few =
    let e : 64 * at ≡ 64 * at + 0 = omega arith in
    let here : those_passing (λ j. is_marked words (64 * at + j)) 0 r ≡ those_passing (is_set (slice_index words at)) 0 r = passing-same _ _ 0 r (λ j from to. bit_of_word words at j (omega (arith, to, few))) in
    ap (λ first. length (those_passing (is_marked words) first r)) e ∙ length-passing_from (is_marked words) (64 * at) 0 r ∙ ap (λ (ks : List ℕ). length ks) here

-- how many are marked up to a bit of a word: those of the words before it, and its own
pub marked_up_to : (words : List ℕ) (at r : ℕ) → r ≤ 64 → length (those_passing (is_marked words) 0 (64 * at + r)) ≡ length (those_passing (is_marked words) 0 (64 * at)) + length (those_passing (is_set (slice_index words at)) 0 r)
marked_up_to words at r few = length_up_to (is_marked words) (64 * at) r ∙ ap (λ n. length (those_passing (is_marked words) 0 (64 * at)) + n) (marked_in_word words at r few)

pub one_word_more : (words : List ℕ) (at : ℕ) → length (those_passing (is_marked words) 0 (64 * (at + 1))) ≡ length (those_passing (is_marked words) 0 (64 * at)) + length (those_passing (is_set (slice_index words at)) 0 64)
one_word_more words at = let e : 64 * (at + 1) ≡ 64 * at + 64 = omega arith in ap (λ n. length (those_passing (is_marked words) 0 n)) e ∙ marked_up_to words at 64 (omega arith)

pub place_by_words : (words : List ℕ) (byte : ℕ) → byte ≤ 256 → place (marked words) byte ≡ length (those_passing (is_marked words) 0 (64 * (byte / 64))) + length (those_passing (is_set (slice_index words (byte / 64))) 0 (byte % 64))
place_by_words words byte fits =
    let e : byte ≡ 64 * (byte / 64) + byte % 64 = omega arith in
    place_of_bound (is_marked words) byte fits ∙ ap (λ n. length (those_passing (is_marked words) 0 n)) e ∙ marked_up_to words (byte / 64) (byte % 64) (omega arith)

module _ (words : List ℕ) (byte : ℕ) (within : byte / 64 < length words) where
  abbrev word : ℕ
  word = slice_index words (byte / 64)

  abbrev edited : ℕ → List ℕ
  edited w = slice_set words (byte / 64) w

  here : (w : ℕ) → slice_index (edited w) (byte / 64) ≡ w
  here w = get_or-set_same words (byte / 64) w 0 within

  -- of another byte the bit is the same, if all bits but one are
  others : (w k : ℕ) → ((i : ℕ) → i < 64 → i ≢ byte % 64 → bit_at w i ≡ bit_at word i) → k ≢ byte → is_marked (edited w) k ≡ is_marked words k
  others w k same apart = elim (eqb_tells (k / 64) (byte / 64)) [
    | inl one ↦
        let bits_differ : k % 64 ≢ byte % 64 = λ e. apart (omega (arith, e, one.1)) in
        ap (λ d. d == 1) (ap (λ at. bit_at (slice_index (edited w) at) (k % 64)) one.1 ∙ ap (λ n. bit_at n (k % 64)) (here w) ∙ same (k % 64) (omega arith) bits_differ ∙ ap (λ at. bit_at (slice_index words at) (k % 64)) (sym one.1))
    | inr two ↦ ap (λ n. bit_at n (k % 64) == 1) (get_or-set_other words (byte / 64) (k / 64) w 0 two.1)
  ]

  abbrev pub with_bit : ℕ
  with_bit = bit_or word (1 * 2 ^ (byte % 64) % 2 ^ 64)

  abbrev pub without_bit : ℕ
  without_bit = bit_and word (bit_not w64 (1 * 2 ^ (byte % 64) % 2 ^ 64))

  pub marked_now : is_marked (slice_set words (byte / 64) with_bit) byte ≡ true
  marked_now = ap (λ n. bit_at n (byte % 64) == 1) (here with_bit) ∙ ap (λ d. d == 1) (bit_at_set_same w64 word (byte % 64) (omega arith))

  pub others_now : (k : ℕ) → k < 256 → k ≢ byte → is_marked (slice_set words (byte / 64) with_bit) k ≡ is_marked words k
  others_now k less apart = others with_bit k (λ i few differ. bit_at_set_other w64 word (byte % 64) (omega arith) i differ) apart

  pub unmarked_now : is_marked (slice_set words (byte / 64) without_bit) byte ≡ false
  unmarked_now = ap (λ n. bit_at n (byte % 64) == 1) (here without_bit) ∙ ap (λ d. d == 1) (bit_at_clear_same w64 word (byte % 64) (omega arith))

  pub others_still : (k : ℕ) → k < 256 → k ≢ byte → is_marked (slice_set words (byte / 64) without_bit) k ≡ is_marked words k
  others_still k less apart = others without_bit k (λ i few differ. bit_at_clear_other w64 word (byte % 64) (omega arith) i few differ) apart

neither : (a b : Bool) → (a && b) ≡ false → b ≡ true → a ≡ false
neither true b none yes_it = sym yes_it ∙ none
neither false b none yes_it = refl

le_true : (a b : ℕ) → a ≤ b → nat_le a b ≡ true
le_true a b le = elim (leb_tells a b) [ inl yes_it ↦ yes_it.0 | inr no_it ↦ absurd (omega (arith, no_it.1, le)) ]

true_le : (a b : ℕ) → nat_le a b ≡ true → a ≤ b
true_le a b is = elim (leb_tells a b) [ inl yes_it ↦ yes_it.1 | inr no_it ↦ absurd (let e : true ≡ false = sym is ∙ no_it.0 in cc) ]

no_bit : (w i : ℕ) → w ≡ 0 → is_set w i ≡ false
no_bit w i none = ap (λ d. d == 1) (ap (λ n. bit_at n i) none ∙ bit_at-zero i)

-- a word's bits from a bound on
module _ (words : List ℕ) (at from : ℕ) (less : at < 4) (w : ℕ) (is : (j : ℕ) → j < 64 → is_set w j ≡ (is_set (slice_index words at) j && nat_le from (64 * at + j))) (none : (k : ℕ) → from ≤ k → k < 64 * at → is_marked words k ≡ false) where
  clear_from : (k : ℕ) → from ≤ k → 64 * at ≤ k → k < 64 * (at + 1) → is_set w (k - 64 * at) ≡ false → is_marked words k ≡ false
  clear_from k above here below clear =
      let i = k - 64 * at in
      let e : k ≡ 64 * at + i = omega (arith, here) in
      let small : i < 64 = omega (arith, below, here) in
      ap (is_marked words) e ∙ bit_of_word words at i small ∙ neither _ _ (sym (is i small) ∙ clear) (le_true from (64 * at + i) (omega (arith, above, e)))

  pub next_of_words : (bit : ℕ) → bit < 64 → is_set w bit ≡ true → ((i : ℕ) → i < bit → is_set w i ≡ false) → IsFirstFrom (marked words) from (64 * at + bit)
  next_of_words bit small set clear =
      let pair = and_parts _ _ (sym (is bit small) ∙ set) in
      let byte = 64 * at + bit in
      next_from (is_marked words) byte (omega (arith, small, less)) from (true_le from byte pair.1) (bit_of_word words at bit small ∙ pair.0) (λ k above below. elim (leb_tells (suc k) (64 * at)) [
        | inl before ↦ none k above before.1
        | inr here ↦ clear_from k above (omega (arith, here.1)) (omega (arith, below, small)) (clear (k - 64 * at) (omega (arith, below, here.1)))
      ])

  pub none_from : w ≡ 0 → (k : ℕ) → from ≤ k → k < 64 * (at + 1) → is_marked words k ≡ false
  none_from empty k above below = elim (leb_tells (suc k) (64 * at)) [
    | inl before ↦ none k above before.1
    | inr here ↦ clear_from k above (omega (arith, here.1)) below (no_bit w (k - 64 * at) empty)
  ]

pub no_next : (words : List ℕ) (from : ℕ) → from ≤ 256 → ((k : ℕ) → from ≤ k → k < 256 → is_marked words k ≡ false) → place (marked words) from ≡ length (marked words)
no_next words from fits none = places_apart (is_marked words) from 256 (omega arith) fits none ∙ place_of_bound (is_marked words) 256 (omega arith)

-- and below a bound
module _ (words : List ℕ) (at to : ℕ) (less : at < 4) (few : to ≤ 256) (w : ℕ) (is : (j : ℕ) → j < 64 → is_set w j ≡ (is_set (slice_index words at) j && nat_lt (64 * at + j) to)) (none : (k : ℕ) → 64 * (at + 1) ≤ k → k < to → is_marked words k ≡ false) where
  clear_below : (k : ℕ) → k < to → 64 * at ≤ k → k < 64 * (at + 1) → is_set w (k - 64 * at) ≡ false → is_marked words k ≡ false
  clear_below k under here below clear =
      let i = k - 64 * at in
      let e : k ≡ 64 * at + i = omega (arith, here) in
      let small : i < 64 = omega (arith, below, here) in
      ap (is_marked words) e ∙ bit_of_word words at i small ∙ neither _ _ (sym (is i small) ∙ clear) (le_true (suc (64 * at + i)) to (omega (arith, under, e)))

  pub last_of_words : (bit : ℕ) → bit < 64 → is_set w bit ≡ true → ((i : ℕ) → bit < i → is_set w i ≡ false) → IsLastBelow (marked words) to (64 * at + bit)
  last_of_words bit small set clear =
      let pair = and_parts _ _ (sym (is bit small) ∙ set) in
      let byte = 64 * at + bit in
      last_below (is_marked words) byte (omega (arith, small, less)) to (true_le (suc byte) to pair.1) few (bit_of_word words at bit small ∙ pair.0) (λ k above under. elim (leb_tells (64 * (at + 1)) k) [
        | inl after ↦ none k after.1 under
        | inr here ↦ clear_below k under (omega (arith, above)) here.1 (clear (k - 64 * at) (omega (arith, above)))
      ])

pub no_last : (words : List ℕ) (to : ℕ) → to ≤ 256 → ((k : ℕ) → k < to → is_marked words k ≡ false) → place (marked words) to ≡ 0
no_last words to fits none = place_of_bound (is_marked words) to fits ∙ ap (λ (ks : List ℕ). length ks) (passing-none (is_marked words) 0 to (λ k from below. none k (omega (arith, below))))

-- four words of no bit
pub no_words : (k : ℕ) → k < 256 → is_marked (0 ∷ 0 ∷ 0 ∷ 0 ∷ []) k ≡ false
no_words k less = go (k / 64) (omega arith)
  where
    go : (i : ℕ) → i < 4 → is_set (slice_index (0 ∷ 0 ∷ 0 ∷ 0 ∷ []) i) (k % 64) ≡ false
    go zero small = ap (λ d. d == 1) (bit_at-zero (k % 64))
    go (suc zero) small = ap (λ d. d == 1) (bit_at-zero (k % 64))
    go (suc (suc zero)) small = ap (λ d. d == 1) (bit_at-zero (k % 64))
    go (suc (suc (suc zero))) small = ap (λ d. d == 1) (bit_at-zero (k % 64))
    go (suc (suc (suc (suc i)))) small = absurd (omega (arith, small))
