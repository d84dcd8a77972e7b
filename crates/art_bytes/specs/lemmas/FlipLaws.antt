-- The flipped bit over any width: what it does to a signed number, and the order that it gives. Nothing here is a
-- definition that a contract cites.
use Rattle.std.proofs.Common.{◌≡◌, ℕ, suc, ◌+◌, ◌-◌, ◌*◌, ◌^◌, ◌<◌, ℤ, pos, negsuc, refl, sym, ap, ◌∙◌}
use Rattle.std.proofs.Common.{arith, pow-suc}
use Rattle.std.proofs.lemmas.Bool.Decides.{nat_tests}
use Rattle.std.proofs.lemmas.Nat.{xor_block}
use Rattle.std.proofs.lemmas.Map.Lookups.{exact_signed}
use Rattle.std.specs.Ordering.{nat_cmp, int_cmp}
use Rattle.art_bytes.specs.lemmas.NumberLaws.{nat_cmp-same}
use Rattle.std.specs.Int.Bits.{bit_xor, xor_zero_r}
use Rattle.std.specs.Int.{Width, w8, w16, w32, w64, w128, byte_len}
use Rattle.std.specs.Int.RustNames.{FitsSigned}
use mir.Val.{hbits, bits}
use Rattle.art_bytes.specs.Numbers.{flipped}

bits_are : (w : Width) → bits w ≡ suc (hbits w)
bits_are = elim [ w8 ↦ refl | w16 ↦ refl | w32 ↦ refl | w64 ↦ refl | w128 ↦ refl ]

top_is : (w : Width) → 8 * byte_len w - 1 ≡ hbits w
top_is = elim [ w8 ↦ refl | w16 ↦ refl | w32 ↦ refl | w64 ↦ refl | w128 ↦ refl ]

pub range_is : (w : Width) → 2 ^ bits w ≡ 256 ^ byte_len w
range_is = elim [ w8 ↦ refl | w16 ↦ refl | w32 ↦ refl | w64 ↦ refl | w128 ↦ refl ]

-- both halves of the range are as large
halves : (w : Width) → 2 ^ bits w ≡ 2 ^ hbits w + 2 ^ hbits w
halves w = ap (λ k. 2 ^ k) (bits_are w) ∙ pow-suc 2 (hbits w) ∙ omega arith

-- flipping bit k of a number of k + 1 bits adds the bit where it is not, and takes it away where it is
pub flip_low : (k n : ℕ) → n < 2 ^ k → bit_xor n (2 ^ k) ≡ 2 ^ k + n
flip_low k n h =
    let one : 2 ^ k ≡ 1 * 2 ^ k + 0 = omega arith in
    let none : n ≡ 0 * 2 ^ k + n = omega arith in
    let some : 0 < 2 ^ k = omega arith in
    let e : bit_xor (0 * 2 ^ k + n) (1 * 2 ^ k + 0) ≡ bit_xor 0 1 * 2 ^ k + bit_xor n 0 = xor_block k 0 1 n 0 h some in
    let f : bit_xor n 0 ≡ n = xor_zero_r n in
    ap (λ m. bit_xor m (2 ^ k)) none ∙ ap (λ m. bit_xor (0 * 2 ^ k + n) m) one ∙ e ∙ omega arith

pub flip_high : (k n : ℕ) → n < 2 ^ k → bit_xor (2 ^ k + n) (2 ^ k) ≡ n
flip_high k n h =
    let one : 2 ^ k ≡ 1 * 2 ^ k + 0 = omega arith in
    let all : 2 ^ k + n ≡ 1 * 2 ^ k + n = omega arith in
    let some : 0 < 2 ^ k = omega arith in
    let e : bit_xor (1 * 2 ^ k + n) (1 * 2 ^ k + 0) ≡ bit_xor 1 1 * 2 ^ k + bit_xor n 0 = xor_block k 1 1 n 0 h some in
    let f : bit_xor n 0 ≡ n = xor_zero_r n in
    ap (λ m. bit_xor m (2 ^ k)) all ∙ ap (λ m. bit_xor (1 * 2 ^ k + n) m) one ∙ e ∙ omega arith

-- a number that isn't negative moves into the upper half
flipped-pos : (w : Width) (n : ℕ) → n < 2 ^ hbits w → flipped w (pos n) ≡ 2 ^ hbits w + n
flipped-pos w n h = ap (λ k. bit_xor n (2 ^ k)) (top_is w) ∙ flip_low (hbits w) n h

-- a negative one into the lower half
flipped-negsuc : (w : Width) (n : ℕ) → n < 2 ^ hbits w → flipped w (negsuc n) ≡ 2 ^ hbits w - suc n
flipped-negsuc w n h =
    let whole = halves w in
    let split : 2 ^ bits w - suc n ≡ 2 ^ hbits w + (2 ^ hbits w - suc n) = omega arith in
    let low : 2 ^ hbits w - suc n < 2 ^ hbits w = omega arith in
    ap (λ k. bit_xor (2 ^ bits w - suc n) (2 ^ k)) (top_is w) ∙ ap (λ m. bit_xor m (2 ^ hbits w)) split
    ∙ flip_high (hbits w) (2 ^ hbits w - suc n) low

pub flipped-bound : (w : Width) (z : ℤ) → FitsSigned w z → flipped w z < 256 ^ byte_len w
flipped-bound w (pos n) h =
    let fits : n < 2 ^ hbits w = h.sfits in let whole = halves w in let range = range_is w in
    let e = flipped-pos w n fits in omega arith
flipped-bound w (negsuc n) h =
    let fits : n < 2 ^ hbits w = h.sfits in let whole = halves w in let range = range_is w in
    let e = flipped-negsuc w n fits in omega arith

-- the order of signed numbers is the order of their flipped bits
pub int_cmp-flipped : (w : Width) (y z : ℤ) → FitsSigned w y → FitsSigned w z
    → int_cmp y z ≡ nat_cmp (flipped w y) (flipped w z)
int_cmp-flipped w (pos m) (pos n) hy hz =
    let at_y : m < 2 ^ hbits w = hy.sfits in let at_z : n < 2 ^ hbits w = hz.sfits in
    pos_pos (2 ^ hbits w) m n
    ∙ sym (ap (λ k. nat_cmp k (flipped w (pos n))) (flipped-pos w m at_y)
    ∙ ap (nat_cmp (2 ^ hbits w + m)) (flipped-pos w n at_z))
  where
    pos_pos : (half m n : ℕ) → int_cmp (pos m) (pos n) ≡ nat_cmp (half + m) (half + n)
    pos_pos half m n = grind (arith, nat_tests)
int_cmp-flipped w (pos m) (negsuc n) hy hz =
    let at_y : m < 2 ^ hbits w = hy.sfits in let at_z : n < 2 ^ hbits w = hz.sfits in
    pos_negsuc (2 ^ hbits w) m n at_z
    ∙ sym (ap (λ k. nat_cmp k (flipped w (negsuc n))) (flipped-pos w m at_y)
    ∙ ap (nat_cmp (2 ^ hbits w + m)) (flipped-negsuc w n at_z))
  where
    pos_negsuc : (half m n : ℕ) → n < half → int_cmp (pos m) (negsuc n) ≡ nat_cmp (half + m) (half - suc n)
    pos_negsuc half m n h = grind (arith, nat_tests)
int_cmp-flipped w (negsuc m) (pos n) hy hz =
    let at_y : m < 2 ^ hbits w = hy.sfits in let at_z : n < 2 ^ hbits w = hz.sfits in
    negsuc_pos (2 ^ hbits w) m n at_y
    ∙ sym (ap (λ k. nat_cmp k (flipped w (pos n))) (flipped-negsuc w m at_y)
    ∙ ap (nat_cmp (2 ^ hbits w - suc m)) (flipped-pos w n at_z))
  where
    negsuc_pos : (half m n : ℕ) → m < half → int_cmp (negsuc m) (pos n) ≡ nat_cmp (half - suc m) (half + n)
    negsuc_pos half m n h = grind (arith, nat_tests)
int_cmp-flipped w (negsuc m) (negsuc n) hy hz =
    let at_y : m < 2 ^ hbits w = hy.sfits in let at_z : n < 2 ^ hbits w = hz.sfits in
    negsuc_negsuc (2 ^ hbits w) m n at_y at_z
    ∙ sym (ap (λ k. nat_cmp k (flipped w (negsuc n))) (flipped-negsuc w m at_y)
    ∙ ap (nat_cmp (2 ^ hbits w - suc m)) (flipped-negsuc w n at_z))
  where
    negsuc_negsuc : (half m n : ℕ) → m < half → n < half
        → int_cmp (negsuc m) (negsuc n) ≡ nat_cmp (half - suc m) (half - suc n)
    negsuc_negsuc half m n h k = grind (arith, nat_tests)

pub flipped-injective : (w : Width) (y z : ℤ) → FitsSigned w y → FitsSigned w z → flipped w y ≡ flipped w z → y ≡ z
flipped-injective w y z hy hz e =
    exact_signed y z (int_cmp-flipped w y z hy hz ∙ nat_cmp-same (flipped w y) (flipped w z) e)
