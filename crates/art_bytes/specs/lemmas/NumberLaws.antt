-- Big-endian bytes over any width: reading back, and their order. Nothing here is a definition that a contract cites.
use Rattle.std.proofs.Common.{◌≡◌, ℕ, suc, zero, ◌+◌, ◌-◌, ◌*◌, ◌%◌, ◌^◌, ◌<◌, ◌≤◌, List, [], ◌∷◌, length, refl, sym}
use Rattle.std.proofs.Common.{ap, ◌∙◌, subst, inl, inr, arith, pow-suc, mul_comm, get_or}
use Rattle.std.proofs.Math.Nat.{pow-le-pow_right, mul-le-mul_right, mod-eq_of_lt}
use Rattle.std.proofs.lemmas.Bool.Decides.{nat_tests}
use Rattle.std.proofs.Math.Arith.{mod-mul}
use Rattle.std.proofs.lemmas.Bool.{cases_lt}
use Rattle.std.proofs.lemmas.List.Elements.{All-nil, All-cons, All-head, All-tail}
use Rattle.std.proofs.lemmas.Map.Lookups.{exact_bytes}
use Rattle.std.specs.declared.cmp.Ordering.TheVariants.{Equal}
use Rattle.std.specs.Ordering.{nat_cmp, ordering_then}
use Rattle.art_bytes.specs.lemmas.KeyLaws.{AreBytes-by_index}
use Rattle.std.specs.Int.{w128, byte_at, byte_worth, sum_through, from_be_bytes, to_be_bytes}
use Rattle.std.specs.List.{slice_index}
use Rattle.art_bytes.specs.Keys.{AreBytes, bytes_cmp}
use Rattle.art_bytes.specs.Numbers.{big_endian, number_of}

pub length-big_endian : (k n : ℕ) → length (big_endian k n) ≡ k
length-big_endian zero n = refl
length-big_endian (suc k) n = let e = length-big_endian k n in omega (arith, e)

byte_at-fits : (k n : ℕ) → byte_at k n < 256
byte_at-fits zero n = omega arith
byte_at-fits (suc k) n = omega arith

pub AreBytes-big_endian : (k n : ℕ) → AreBytes (big_endian k n)
AreBytes-big_endian zero n = All-nil (λ b. b < 256)
AreBytes-big_endian (suc k) n =
    All-cons (λ b. b < 256) (byte_at k n) (big_endian k n) (byte_at-fits k n) (AreBytes-big_endian k n)

pow_positive : (k : ℕ) → 0 < 256 ^ k
pow_positive k = pow-le-pow_right {n = 256} (omega arith) {i = 0} {j = k} (omega arith)

pub pow_positive_2 : (k : ℕ) → 0 < 2 ^ k
pow_positive_2 k = pow-le-pow_right {n = 2} (omega arith) {i = 0} {j = k} (omega arith)

-- one more byte in front of the low k bytes
byte_on : (k n : ℕ) → byte_at k n * 256 ^ k + n % 256 ^ k ≡ n % 256 ^ suc k
byte_on zero n = omega arith
byte_on (suc k) n =
    let unit = 256 ^ suc k in
    let wider : 256 ^ suc (suc k) ≡ 256 * unit = pow-suc 256 (suc k) ∙ mul_comm unit 256 in
    let some : 0 < unit = pow_positive (suc k) in
    rw (wider, mod-mul n {m = 256} {c = unit} (omega arith) some) (omega arith)

-- the low bytes of n spell what is left of n by 256 ^ k
pub number_of-big_endian : (k n : ℕ) → number_of (big_endian k n) ≡ n % 256 ^ k
number_of-big_endian zero n = omega arith
number_of-big_endian (suc k) n =
    ap (λ m. byte_at k n * 256 ^ m + number_of (big_endian k n)) (length-big_endian k n)
    ∙ ap (λ m. byte_at k n * 256 ^ k + m) (number_of-big_endian k n) ∙ byte_on k n

pub number_of-bound : (bytes : List ℕ) → AreBytes bytes → number_of bytes < 256 ^ length bytes
number_of-bound [] h = omega arith
number_of-bound (b ∷ rest) h =
    let head : b < 256 = All-head (λ c. c < 256) b rest h in
    let tail : number_of rest < 256 ^ length rest = number_of-bound rest (All-tail (λ c. c < 256) b rest h) in
    let wider : 256 ^ suc (length rest) ≡ 256 * 256 ^ length rest = pow-suc 256 (length rest)
    ∙ mul_comm (256 ^ length rest) 256 in
    let few : b * 256 ^ length rest + 256 ^ length rest ≤ 256 * 256 ^ length rest = above b (256 ^ length rest) head in
    rw wider (omega arith)
  where
    above : (b unit : ℕ) → b < 256 → b * unit + unit ≤ 256 * unit
    above b unit h = grind arith

-- a greater digit outweighs what follows
outweighs : (a b unit : ℕ) → a < b → a * unit + unit ≤ b * unit
outweighs a b unit h = let some : suc a * unit ≤ b * unit = mul-le-mul_right unit h in omega (arith, some)

-- the first pair of digits decides, and else the rest
pub digit_first : (a b unit r s : ℕ) → r < unit → s < unit
    → ordering_then (nat_cmp a b) (nat_cmp r s) ≡ nat_cmp (a * unit + r) (b * unit + s)
digit_first a b unit r s hr hs = elim (cases_lt a b) [
  | inl less ↦
      let by = outweighs a b unit less in
      let below : a * unit + r < b * unit + s = omega arith in
      grind (arith, nat_tests)
  | inr more ↦
      elim (cases_lt b a) [
        | inl greater ↦
            let by = outweighs b a unit greater in
            let above : b * unit + s < a * unit + r = omega arith in
            grind (arith, nat_tests)
        | inr most ↦
            let same : a ≡ b = omega arith in
            subst (λ c. ordering_then (nat_cmp a c) (nat_cmp r s) ≡ nat_cmp (a * unit + r) (c * unit + s)) same
            (grind (arith, nat_tests))
      ]
]

-- at one length, byte order is the order of the numbers
pub bytes_cmp-number_of : (k l : List ℕ) → length k ≡ length l → AreBytes k → AreBytes l
    → bytes_cmp k l ≡ nat_cmp (number_of k) (number_of l)
bytes_cmp-number_of [] [] e hk hl = refl
bytes_cmp-number_of [] (b ∷ l) e hk hl = absurd (omega arith)
bytes_cmp-number_of (a ∷ k) [] e hk hl = absurd (omega arith)
bytes_cmp-number_of (a ∷ k) (b ∷ l) e hk hl =
    let same : length k ≡ length l = omega arith in
    let at_k = All-tail (λ c. c < 256) a k hk in
    let at_l = All-tail (λ c. c < 256) b l hl in
    let below_k : number_of k < 256 ^ length k = number_of-bound k at_k in
    let below_l : number_of l < 256 ^ length k =
    subst (λ n. number_of l < 256 ^ n) (sym same) (number_of-bound l at_l) in
    ap (λ o. ordering_then (nat_cmp a b) o) (bytes_cmp-number_of k l same at_k at_l)
    ∙ digit_first a b (256 ^ length k) (number_of k) (number_of l) below_k below_l
    ∙ ap (λ n. nat_cmp (a * 256 ^ length k + number_of k) (b * 256 ^ n + number_of l)) same

pub nat_cmp-same : (m n : ℕ) → m ≡ n → nat_cmp m n ≡ Equal
nat_cmp-same m n e = grind (arith, nat_tests)

-- at one length, two lists of bytes that spell one number are one list
pub number_of-injective : (k l : List ℕ) → length k ≡ length l → AreBytes k → AreBytes l → number_of k ≡ number_of l
    → k ≡ l
number_of-injective k l e hk hl same =
    exact_bytes k l (bytes_cmp-number_of k l e hk hl ∙ nat_cmp-same (number_of k) (number_of l) same)

-- what was spelled is spelled again
pub big_endian-number_of : (width : ℕ) (bytes : List ℕ) → length bytes ≡ width → AreBytes bytes
    → big_endian width (number_of bytes) ≡ bytes
big_endian-number_of width bytes e h =
    let below : number_of bytes < 256 ^ width = subst (λ n. number_of bytes < 256 ^ n) e (number_of-bound bytes h) in
    number_of-injective (big_endian width (number_of bytes)) bytes (length-big_endian width (number_of bytes) ∙ sym e)
    (AreBytes-big_endian width (number_of bytes)) h (number_of-big_endian width (number_of bytes) ∙ mod-eq_of_lt below)

pub big_endian-injective : (width m n : ℕ) → m < 256 ^ width → n < 256 ^ width → big_endian width m ≡ big_endian width n
    → m ≡ n
big_endian-injective width m n hm hn e =
    let spelled = ap number_of e in
    let at_m = number_of-big_endian width m in
    let at_n = number_of-big_endian width n in
    let low_m : m % 256 ^ width ≡ m = mod-eq_of_lt hm in
    let low_n : n % 256 ^ width ≡ n = mod-eq_of_lt hn in
    cc

-- the order of numbers is the order of their bytes
pub bytes_cmp-big_endian : (width m n : ℕ) → m < 256 ^ width → n < 256 ^ width
    → nat_cmp m n ≡ bytes_cmp (big_endian width m) (big_endian width n)
bytes_cmp-big_endian width m n hm hn =
    let low_m : m % 256 ^ width ≡ m = mod-eq_of_lt hm in
    let low_n : n % 256 ^ width ≡ n = mod-eq_of_lt hn in
    let at_m : number_of (big_endian width m) ≡ m = number_of-big_endian width m ∙ low_m in
    let at_n : number_of (big_endian width n) ≡ n = number_of-big_endian width n ∙ low_n in
    sym (bytes_cmp-number_of (big_endian width m) (big_endian width n)
    (length-big_endian width m ∙ sym (length-big_endian width n))
    (AreBytes-big_endian width m) (AreBytes-big_endian width n)
    ∙ ap (λ k. nat_cmp k (number_of (big_endian width n))) at_m ∙ ap (λ k. nat_cmp m k) at_n)

sum_through-first : (f : ℕ → ℕ) (k : ℕ) → sum_through f (suc k) ≡ f 0 + sum_through (λ i. f (suc i)) k
sum_through-first f zero = refl
sum_through-first f (suc k) = let e = sum_through-first f k in omega (arith, e)

sum_through-same : (f g : ℕ → ℕ) (k : ℕ) → ((i : ℕ) → f i ≡ g i) → sum_through f k ≡ sum_through g k
sum_through-same f g zero h = h 0
sum_through-same f g (suc k) h = let e = sum_through-same f g k h in omega (arith, e, h (suc k))

all_of : (k : ℕ) → k - 0 ≡ k
all_of k = omega arith

one_less : (k i : ℕ) → suc k - suc i ≡ k - i
one_less k i = omega arith

-- std's `from_be_bytes` gives the number that the bytes spell
pub sum_through-number_of : (k : ℕ) (bytes : List ℕ) → length bytes ≡ suc k
    → sum_through (λ i. byte_worth (k - i) (slice_index bytes i)) k ≡ number_of bytes
sum_through-number_of k [] e = absurd (omega arith)
sum_through-number_of zero (b ∷ []) e = omega arith
sum_through-number_of zero (b ∷ c ∷ rest) e = absurd (omega arith)
sum_through-number_of (suc k) (b ∷ rest) e =
    let short : length rest ≡ suc k = omega arith in
    sum_through-first (λ i. byte_worth (suc k - i) (slice_index (b ∷ rest) i)) k
    ∙ ap (λ m. byte_worth m b + sum_through (λ i. byte_worth (suc k - suc i) (slice_index (b ∷ rest) (suc i))) k)
    (all_of (suc k))
    ∙ ap (λ m. b * 256 ^ suc k + m)
    (sum_through-same (λ i. byte_worth (suc k - suc i) (slice_index (b ∷ rest) (suc i)))
    (λ i. byte_worth (k - i) (slice_index rest i)) k
    (λ i. ap (λ m. byte_worth m (slice_index rest i)) (one_less k i))
    ∙ sum_through-number_of k rest short)
    ∙ ap (λ m. b * 256 ^ m + number_of rest) (sym short)

-- what `from_be_bytes` read is what `to_be_bytes` writes
pub big_endian-from : (k n : ℕ) (bytes : List ℕ) → length bytes ≡ suc k → AreBytes bytes
    → n ≡ sum_through (λ i. byte_worth (k - i) (slice_index bytes i)) k
    → big_endian (suc k) n ≡ bytes
big_endian-from k n bytes e h is =
    ap (big_endian (suc k)) (is ∙ sum_through-number_of k bytes e) ∙ big_endian-number_of (suc k) bytes e h

-- the same at sixteen bytes, in the form of std's lemmas for two, four and eight
pub be_bytes_16 : (bs : List ℕ) (n : ℕ) → length bs ≡ 16 → ((i : ℕ) → get_or bs i 0 < 256) → n ≡ from_be_bytes w128 bs
    → to_be_bytes w128 n ≡ bs
be_bytes_16 bs n e h is = big_endian-from 15 n bs e (AreBytes-by_index bs h) is
