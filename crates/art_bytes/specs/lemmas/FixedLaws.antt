-- That numbers have fixed bytes, once over the width. Nothing here is a definition.
use Rattle.std.proofs.Common.{◌≡◌, ℕ, ℤ, ◌^◌, ◌<◌, List, ap, ◌∙◌, subst}
use denote.Struct.Props.{props}
use Rattle.std.specs.declared.cmp.Ordering.{Ordering}
use Rattle.std.specs.Ordering.{nat_cmp}
use Rattle.std.specs.Int.RustNames.{unsigned_abs}
use Rattle.art_bytes.specs.Numbers.{big_endian}
use Rattle.art_bytes.specs.lemmas.NumberLaws.{length-big_endian, AreBytes-big_endian, big_endian-injective}
use Rattle.art_bytes.specs.lemmas.NumberLaws.{bytes_cmp-big_endian}
use Rattle.art_bytes.specs.Mappings.{HaveFixedBytes}

pub unsigned_bytes : (width : ℕ) → 0 < width → HaveFixedBytes width (λ n. n < 256 ^ width) (big_endian width) nat_cmp
unsigned_bytes width some = record {
  positive = some;
  long = λ n h. length-big_endian width n;
  fit = λ n h. AreBytes-big_endian width n;
  one_value = λ m n hm hn e. big_endian-injective width m n hm hn e;
  ordered = λ m n hm hn. bytes_cmp-big_endian width m n hm hn;
}

-- a value that is stored as one of these numbers has the number's bytes
pub stored_bytes : {V N : Type 0} (stored : V → N) (InRange : V → Type 0) (order : V → V → Ordering) (width : ℕ)
    (IsValue : N → Type 0) (bytes_of : N → List ℕ) (cmp : N → N → Ordering)
    → ((v w : V) → InRange v → InRange w → stored v ≡ stored w → v ≡ w)
    → ((v w : V) → InRange v → InRange w → order v w ≡ cmp (stored v) (stored w))
    → HaveFixedBytes width IsValue bytes_of cmp
    → HaveFixedBytes width (λ v. InRange v × IsValue (stored v)) (λ v. bytes_of (stored v)) order
stored_bytes stored InRange order width IsValue bytes_of cmp one_value same_order laws = record {
  positive = laws.positive;
  long = λ v h. laws.long (stored v) h.1;
  fit = λ v h. laws.fit (stored v) h.1;
  one_value = λ v w hv hw e. one_value v w hv.0 hw.0 (laws.one_value (stored v) (stored w) hv.1 hw.1 e);
  ordered = λ v w hv hw. same_order v w hv.0 hw.0 ∙ laws.ordered (stored v) (stored w) hv.1 hw.1;
}

-- two values that hold one number are one value: what they keep of it has one proof
pub one_holder : {V N : Type 0} {P : N → Type 0} (hold : (n : N) → P n → V) → ((n : N) → IsProp (P n))
    → (m n : N) (p : P m) (q : P n) → m ≡ n → hold m p ≡ hold n q
one_holder {V} {N} {P} hold one m n p q e =
    subst (λ k. (r : P k) → hold m p ≡ hold k r) e (λ r. ap (hold m) (one m p r)) q

pub above_zero : (n : ℕ) → IsProp (0 < n)
above_zero n = hlevel props

pub apart_from_zero : (z : ℤ) → IsProp (0 < unsigned_abs z)
apart_from_zero z = hlevel props
