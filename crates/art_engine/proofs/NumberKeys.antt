-- The eight bytes of a number: what is read back of them, and that they are in the order of numbers.
use Rattle.std.proofs.Common.{◌≡◌, ℕ, ℤ, ◌^◌, ◌<◌, List, length, refl, ap, ap₂, sym, ◌∙◌, Bool, true, false, not, cond, arith, inl, inr, bytes_eq, lit<}
use Rattle.std.specs.Prelude.{◌==◌, ◌&&◌, int_lt, bit_xor, FitsSigned}
use Rattle.std.specs.Int.{cast_signed, cast_unsigned, w64}
use Rattle.std.specs.Int.Bits.{xor_assoc, xor_self, xor_zero_r}
use Rattle.std.specs.declared.cmp.Ordering.TheVariants.{Less, Equal, Greater}
use Rattle.std.specs.declared.ops.Bound.TheVariants.{Included}
use Rattle.std.specs.Ordering.{int_cmp, int_eq, is_lt, ordering_reverse}
use Rattle.std.specs.BTreeMap.Range.{range_contains, IsLeBy}
use Rattle.std.proofs.lemmas.Bool.Decides.{Decides-int_eq}
use Rattle.std.proofs.lemmas.Cmp.{int_cmp_total}
use Rattle.std.proofs.lemmas.Int.{to_z-of_z}
use Rattle.std.proofs.lemmas.Nat.{from_be_bytes-to_be_bytes_8}
use Rattle.std.proofs.lemmas.Slice.Eq.{bytes_eq-Decides}
use Rattle.art_bytes.proofs.Common.{bytes_cmp, is_below, Conflict, IsBefore, big_endian, flipped, top_bit, pair_key, BeginsWith-same_length, cmp_before, before_cmp}
use Rattle.art_bytes.specs.Mappings.{HaveFixedBytes}
use Rattle.art_bytes.specs.lemmas.FixedLaws.{unsigned_bytes, stored_bytes}
use Rattle.art_bytes.specs.lemmas.FlipLaws.{flipped-bound, flipped-injective, int_cmp-flipped}
use Rattle.art_engine.proofs.Terms.{number_of_bytes}
use Rattle.art_engine.proofs.FullTests.{in_order_full, le_turned, within_full}
use Rattle.art_engine.proofs.KeyOrder.{lt_is}

-- a tenant and a number have bytes of their own
abbrev pub HaveBytes : ℕ → ℤ → Type 0
HaveBytes t n = (t < 2 ^ 32) × FitsSigned w64 n

abbrev pub bytes_of_number : ℤ → List ℕ
bytes_of_number n = big_endian 8 (flipped w64 n)

pub flip_back : (x top : ℕ) → bit_xor (bit_xor x top) top ≡ x
flip_back x top = xor_assoc x top top ∙ ap (bit_xor x) (xor_self top) ∙ xor_zero_r x

-- what is read back of the bytes of a number
pub number_back : (n : ℤ) → FitsSigned w64 n → number_of_bytes (bytes_of_number n) ≡ n
number_back n fits =
    let bound = flipped-bound w64 n fits in
    ap (λ x. cast_signed w64 (bit_xor x (top_bit w64))) (from_be_bytes-to_be_bytes_8 (flipped w64 n) (omega arith))
    ∙ ap (cast_signed w64) (flip_back (cast_unsigned w64 n) (top_bit w64)) ∙ to_z-of_z w64 n fits

-- how two numbers stand, as tests
pub lt-int_cmp : (n m : ℤ) → is_lt (int_cmp n m) ≡ int_lt n m
lt-int_cmp n m = go (int_lt n m) (int_lt m n)
  where
    go : (a b : Bool) → is_lt (cond a Less (cond b Greater Equal)) ≡ a
    go false true = refl
    go a b = refl

pub int_lt_turned : (n m : ℤ) → int_lt n m ≡ true → int_lt m n ≡ false
int_lt_turned n m h =
    let less : int_cmp n m ≡ Less = rw h refl in
    sym (lt-int_cmp m n) ∙ ap is_lt (int_cmp_total.antisymm m n) ∙ ap (λ o. is_lt (ordering_reverse o)) less

-- of keys that are as long none is in conflict with another one
pub as_long : (j k : List ℕ) (n : ℕ) → length j ≡ n → length k ≡ n → Conflict j k → ⊥
as_long j k n is same (apart, inl front) = apart (BeginsWith-same_length j k n is same front)
as_long j k n is same (apart, inr front) = apart (sym (BeginsWith-same_length k j n same is front))

-- the bytes of numbers are eight, in the order of the numbers
eight_bytes : HaveFixedBytes 8 (λ n. FitsSigned w64 n × (flipped w64 n < 256 ^ 8)) bytes_of_number int_cmp
eight_bytes = stored_bytes (flipped w64) (FitsSigned w64) int_cmp 8 _ _ _ (flipped-injective w64) (int_cmp-flipped w64) (unsigned_bytes 8 (lit< tt))

module _ (n m : ℤ) (hn : FitsSigned w64 n) (hm : FitsSigned w64 m) where
  pub below_numbers : is_below (bytes_of_number n) (bytes_of_number m) ≡ int_lt n m
  below_numbers = ap is_lt (sym (eight_bytes.ordered n m (hn, flipped-bound w64 n hn) (hm, flipped-bound w64 m hm))) ∙ lt-int_cmp n m

  pub same_numbers : bytes_eq (bytes_of_number n) (bytes_of_number m) ≡ int_eq n m
  same_numbers = go (bytes_eq (bytes_of_number n) (bytes_of_number m)) (int_eq n m) refl refl
    where
      go : (a b : Bool) → bytes_eq (bytes_of_number n) (bytes_of_number m) ≡ a → int_eq n m ≡ b → a ≡ b
      go true b e f =
          let same = sym (number_back n hn) ∙ ap number_of_bytes ((bytes_eq-Decides (bytes_of_number n) (bytes_of_number m)).0 e) ∙ number_back m hm in
          sym ((Decides-int_eq n m).1 same) ∙ f
      go false true e f = sym e ∙ (bytes_eq-Decides (bytes_of_number n) (bytes_of_number m)).1 (ap bytes_of_number ((Decides-int_eq n m).0 f))
      go false false e f = refl

  pub lower_before : int_lt n m ≡ true → IsBefore (bytes_of_number n) (bytes_of_number m)
  lower_before e = cmp_before (bytes_of_number n) (bytes_of_number m) (lt_is _ (below_numbers ∙ e)) (as_long (bytes_of_number n) (bytes_of_number m) 8 refl refl)

  pub before_lower : IsBefore (bytes_of_number n) (bytes_of_number m) → int_lt n m ≡ true
  before_lower b = sym below_numbers ∙ ap is_lt (before_cmp (bytes_of_number n) (bytes_of_number m) b)

-- bytes from those of one number of a tenant's on and up to those of another one
pub between_numbers : (t u : ℕ) (low high m : ℤ) → HaveBytes t low → HaveBytes t high → HaveBytes u m
    → range_contains bytes_cmp (Included (pair_key (t, low))) (Included (pair_key (t, high))) (pair_key (u, m)) ≡ ((u == t) && (not (int_lt m low) && not (int_lt high m)))
between_numbers t u low high m hl hh hm =
    within_full t u (bytes_of_number low) (bytes_of_number high) (bytes_of_number m) is_lt refl hl.0 hm.0
    ∙ ap₂ (λ a b. (u == t) && (a && not b)) (le_turned (bytes_of_number low) (bytes_of_number m) ∙ ap not (below_numbers m low hm.1 hl.1)) (below_numbers high m hh.1 hm.1)

-- bounds that are in order are so by their bytes, too
pub numbers_in_order : (t : ℕ) (low high : ℤ) → HaveBytes t low → HaveBytes t high → int_lt high low ≡ false → IsLeBy bytes_cmp (pair_key (t, low)) (pair_key (t, high))
numbers_in_order t low high hl hh h = in_order_full t (bytes_of_number low) (bytes_of_number high) hl.0 (below_numbers high low hh.1 hl.1 ∙ h)
