-- Lemmas on the bits of one word.
use Rattle.std.proofs.Common.{◌≡◌, ℕ, zero, suc, ◌+◌, ◌-◌, ◌*◌, ◌/◌, ◌%◌, ◌^◌, ◌<◌, ◌≤◌, ◌==◌, ◌&&◌, min, nat_lt, nat_le, Bool, true, false, List, length, bit_and, w64, refl, sym, ap, ap₂, ◌∙◌, inl, inr, arith}
use Rattle.std.specs.Prelude.{count_ones}
use Rattle.std.specs.Int.{bit_at, bit_not, leading_zeros, trailing_zeros}
use Rattle.std.proofs.lemmas.Bool.Decides.{leb_tells, eqb_tells}
use lib.Arith.{mod-mul}
use lib.Count.{ones_step, ones-le, leading_top}
use lib.Pow.{pow_mono}
use native.Mathlib.Nat.{pow-suc, le-div_iff_mul-le, div-lt_iff_lt-mul}
use Rattle.std.proofs.lemmas.Nat.{pow_pos}
use Rattle.std.proofs.lemmas.Nat.Bits.{bit_at_lowest, bit_at-suc, bit_at_and, bit_at_ones, bit_at_ones_above, bit_at_not, bit_at-lt, bit_at_above, bit_at-trailing_zeros}
use Rattle.art_nodes.specs.inner.Mask.{those_passing}
use Rattle.art_nodes.proofs.Terms.{is_set}
use Rattle.art_nodes.proofs.PassingLemmas.{passing-same, length-passing_from}

pub and_true : (t : Bool) → (t && true) ≡ t
and_true true = refl
and_true false = refl

pub and_false : (t : Bool) → (t && false) ≡ false
and_false true = refl
and_false false = refl

no_ones : count_ones 0 ≡ 0
no_ones = omega (arith, ones-le 0 0 (omega arith))

-- how many of the lowest bits of a word are set
pub ones_below : (w r : ℕ) → length (those_passing (is_set w) 0 r) ≡ count_ones (w % 2 ^ r)
unfolding those_passing
ones_below w zero = let e : w % 1 ≡ 0 = omega arith in rw e (sym no_ones)
ones_below w (suc r) =
    let half = length-passing_from (is_set w) 1 0 r in
    let shifted : those_passing (λ j. is_set w (1 + j)) 0 r ≡ those_passing (is_set (w / 2)) 0 r = passing-same _ _ 0 r (λ k from to. let e : 1 + k ≡ suc k = omega arith in ap (λ d. d == 1) (ap (bit_at w) e ∙ bit_at-suc w k)) in
    let rest : length (those_passing (is_set w) 1 r) ≡ count_ones (w / 2 % 2 ^ r) = half ∙ ap (λ (ks : List ℕ). length ks) shifted ∙ ones_below (w / 2) r in
    let parts : w % 2 ^ suc r ≡ w / 2 % 2 ^ r * 2 + w % 2 = ap (λ m. w % m) (pow-suc 2 r) ∙ mod-mul w (pow_pos r) (omega arith) in
    let low : w % 2 ^ suc r % 2 ≡ w % 2 = omega (arith, parts) in
    let high : w % 2 ^ suc r / 2 ≡ w / 2 % 2 ^ r = omega (arith, parts) in
    let all : count_ones (w % 2 ^ suc r) ≡ w % 2 + count_ones (w / 2 % 2 ^ r) = ones_step (w % 2 ^ suc r) ∙ ap₂ (λ d n. d + count_ones n) low high in
    let bit = bit_at_lowest w in
    elim (eqb_tells (bit_at w 0) 1) [
      | inl set ↦ rw set.0 (omega (arith, rest, all, bit, set.1))
      | inr clear ↦ rw clear.0 (omega (arith, rest, all, bit, clear.1))
    ]

-- of the lowest bits of a word, and of the others, how each stands
module _ (w at bound : ℕ) where
  abbrev cut : ℕ
  cut = min (bound - 64 * at) 64

  keeps : (d m : ℕ) → d < 2 → m ≡ 1 → min d m ≡ d
  keeps d m less one = omega (arith, less, one)

  drops : (d m : ℕ) → m ≡ 0 → min d m ≡ 0
  drops d m none = omega (arith, none)

  pub cut_below : (j : ℕ) → j < 64 → is_set (bit_and w (2 ^ cut - 1)) j ≡ (is_set w j && nat_lt (64 * at + j) bound)
  cut_below j few = elim (leb_tells (suc (64 * at + j)) bound) [
    | inl below ↦ ap (λ d. d == 1) (bit_at_and w (2 ^ cut - 1) j ∙ keeps (bit_at w j) _ (bit_at-lt w j) (bit_at_ones cut j (omega (arith, below.1, few)))) ∙ sym (ap (λ t. is_set w j && t) below.0 ∙ and_true (is_set w j))
    | inr above ↦ ap (λ d. d == 1) (bit_at_and w (2 ^ cut - 1) j ∙ drops (bit_at w j) _ (bit_at_ones_above cut j (omega (arith, above.1, few)))) ∙ sym (ap (λ t. is_set w j && t) above.0 ∙ and_false (is_set w j))
  ]

  fits : 2 ^ cut - 1 < 2 ^ 64
  fits = omega (arith, pow_mono {i = cut} {j = 64} (omega arith), pow_pos cut)

  pub cut_from : (j : ℕ) → j < 64 → is_set (bit_and w (bit_not w64 (2 ^ cut - 1))) j ≡ (is_set w j && nat_le bound (64 * at + j))
  cut_from j few = elim (leb_tells bound (64 * at + j)) [
    | inl from ↦ ap (λ d. d == 1) (bit_at_and w _ j ∙ keeps (bit_at w j) _ (bit_at-lt w j) (omega (arith, bit_at_not w64 (2 ^ cut - 1) j fits few, bit_at_ones_above cut j (omega (arith, from.1, few))))) ∙ sym (ap (λ t. is_set w j && t) from.0 ∙ and_true (is_set w j))
    | inr before ↦ ap (λ d. d == 1) (bit_at_and w _ j ∙ drops (bit_at w j) _ (omega (arith, bit_at_not w64 (2 ^ cut - 1) j fits few, bit_at_ones cut j (omega (arith, before.1, few))))) ∙ sym (ap (λ t. is_set w j && t) before.0 ∙ and_false (is_set w j))
  ]

-- the lowest and the highest bit that are set
module _ (w : ℕ) (some : 0 < w) (few : w < 2 ^ 64) where
  pub lowest_set : (trailing_zeros w64 w < 64) × (is_set w (trailing_zeros w64 w) ≡ true) × ((i : ℕ) → i < trailing_zeros w64 w → is_set w i ≡ false)
  lowest_set = let low = bit_at-trailing_zeros w64 w some few in (low.0, ap (λ d. d == 1) low.1, λ i below. ap (λ d. d == 1) (low.2 i below))

  pub highest_set : (63 - leading_zeros w64 w < 64) × (is_set w (63 - leading_zeros w64 w) ≡ true) × ((i : ℕ) → 63 - leading_zeros w64 w < i → is_set w i ≡ false)
  highest_set =
      let top = leading_top 64 w some few in
      let j = top.0 in
      let is : 63 - leading_zeros w64 w ≡ j = omega (arith, top.1) in
      let up : 1 ≤ w / 2 ^ j = (le-div_iff_mul-le (pow_pos j)).1 (omega (arith, top.2)) in
      let down : w / 2 ^ j < 2 = (div-lt_iff_lt-mul (pow_pos j)).1 (omega (arith, top.3, pow-suc 2 j)) in
      let set : bit_at w j ≡ 1 = omega (arith, up, down) in
      (omega arith, ap (λ d. d == 1) (ap (bit_at w) is ∙ set), λ i above. ap (λ d. d == 1) (bit_at_above w (suc j) i top.3 (omega (arith, above, is))))
