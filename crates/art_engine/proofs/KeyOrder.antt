-- The order of keys, as tests and as it is answered.
use Rattle.std.proofs.Common.{◌≡◌, ℕ, List, refl, ap, sym, ◌∙◌, true, false}
use Rattle.std.specs.Prelude.{not, IsTrue}
use Rattle.std.specs.declared.cmp.Ordering.{Ordering}
use Rattle.std.specs.declared.cmp.Ordering.TheVariants.{Less, Equal, Greater}
use Rattle.std.specs.Ordering.{is_lt, is_le, is_gt, ordering_reverse}
use Rattle.std.proofs.lemmas.Cmp.{nat_list_cmp_total, tied_itself}
use Rattle.std.proofs.lemmas.Map.Text.{is_eq-slice_cmp}
use Rattle.std.proofs.lemmas.Slice.Eq.{bytes_eq-Decides}
use Rattle.art_bytes.proofs.Common.{bytes_cmp, is_below}

pub lt_is : (o : Ordering) → is_lt o ≡ true → o ≡ Less
lt_is Less h = refl
lt_is o h = cc

-- tests of an answer that is turned
pub le-reverse : (o : Ordering) → is_le (ordering_reverse o) ≡ not (is_lt o)
le-reverse Less = refl
le-reverse o = refl

pub not_gt-reverse : (o : Ordering) → is_lt o ≡ false → is_gt (ordering_reverse o) ≡ false
not_gt-reverse Less h = cc
not_gt-reverse o h = refl

pub cmp_less : (a b : List ℕ) → IsTrue (is_below a b) → bytes_cmp a b ≡ Less
cmp_less a b h = lt_is (bytes_cmp a b) h

pub cmp_equal : (a b : List ℕ) → bytes_cmp a b ≡ Equal → a ≡ b
cmp_equal a b h = (bytes_eq-Decides a b).0 (sym (is_eq-slice_cmp a b) ∙ rw h refl)

pub cmp_greater : (a b : List ℕ) → bytes_cmp a b ≡ Greater → IsTrue (is_below b a)
cmp_greater a b h = rw (nat_list_cmp_total.antisymm b a, h) refl

pub below_trans : (a b c : List ℕ) → IsTrue (is_below a b) → IsTrue (is_below b c) → IsTrue (is_below a c)
below_trans a b c h k = ap is_lt (nat_list_cmp_total.trans a b c (cmp_less a b h) (cmp_less b c k))

pub not_below_itself : (a : List ℕ) → is_below a a ≡ false
not_below_itself a = ap is_lt (tied_itself nat_list_cmp_total a)

pub not_both_below : (a b : List ℕ) → IsTrue (is_below a b) → is_below b a ≡ false
not_both_below a b h = ap is_lt (nat_list_cmp_total.antisymm b a ∙ ap ordering_reverse (cmp_less a b h))
