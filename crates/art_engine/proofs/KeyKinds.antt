-- Both kinds of key, bytes and numbers, and values as an index holds them under each.
use Rattle.std.proofs.Common.{ℕ, List, map, refl, ap, bytes_eq, inl, inr}
use Rattle.std.specs.Prelude.{int_lt, FitsSigned}
use Rattle.std.specs.Global.{Vec}
use Rattle.std.specs.Int.{w64}
use Rattle.std.specs.List.{AllByRecursion}
use Rattle.std.specs.Ordering.{int_eq, is_lt}
use Rattle.std.proofs.lemmas.Bool.{false_from_ne_true}
use Rattle.art_bytes.proofs.Common.{before_cmp, conflict_not_before, is_below, told_conflict}
use Rattle.art_arena.proofs.Common.{AscendsByKey, all_weaker}
use Rattle.art_arena.proofs.tree.Paths.{all_map}
use Rattle.art_engine.proofs.Filters.{All-both, All-made}
use Rattle.art_engine.proofs.FullKeys.{key_parts}
use Rattle.art_engine.proofs.NumberKeys.{before_lower, below_numbers, bytes_of_number, lower_before, number_back, same_numbers}
use Rattle.art_engine.proofs.TenantKeys.{Kind, StandsUnder, in_order, pairs_ascend}
use Rattle.art_engine.proofs.Terms.{AreFull, AreNumberPairs, ArePairs, IsFull, IsNumberPair, IsOfTenant, KeyComesBefore, NumberComesBefore, NumberFits, NumberPair, Pair, number_of_bytes, number_record_of, record_of}

-- the bytes of a pair's key
abbrev pub bytes_of : Pair → List ℕ
bytes_of p = p.0.items

abbrev pub number_bytes : NumberPair → List ℕ
number_bytes p = p.0

pub under_keys : Kind (λ (v : Vec ℕ). v.items) (λ k. k) (λ b. b) (λ k. Unit {0}) is_below bytes_eq KeyComesBefore
under_keys = record {
  back_is = λ k f. refl;
  below_is = λ j k f g. refl;
  same_is = λ j k f g. refl;
  before_is = λ r s f g. key_parts r s;
  comes = λ r s f g b. elim b [
    | inl low ↦ inl low
    | inr up ↦ inr (up.0, ap is_lt (before_cmp r.key s.key up.1), false_from_ne_true _ (λ e. conflict_not_before r.key s.key (told_conflict r.key s.key e) up.1))
  ];
}

pub under_numbers : Kind (λ (k : List ℕ). k) bytes_of_number number_of_bytes (FitsSigned w64) int_lt int_eq NumberComesBefore
under_numbers = record {
  back_is = number_back;
  below_is = below_numbers;
  same_is = same_numbers;
  before_is = λ r s f g b. elim b [ inl low ↦ inl low | inr up ↦ inr (up.0, lower_before r.key s.key f g up.1) ];
  comes = λ r s f g b. elim b [ inl low ↦ inl low | inr up ↦ inr (up.0, before_lower r.key s.key f g up.1) ];
}

-- pairs as an index holds them stand so
pub keys_stand : (ps : List Pair) → AllByRecursion IsFull ps → AllByRecursion IsOfTenant (map record_of ps) → AllByRecursion (StandsUnder under_keys) ps
keys_stand ps full small = All-both IsFull (λ p. IsOfTenant (record_of p)) (StandsUnder under_keys) (λ p f s. record { key = f; fits = (s, tt) }) ps full (All-made IsOfTenant record_of ps small)

pub numbers_stand : (ns : List NumberPair) → AllByRecursion IsNumberPair ns → AllByRecursion NumberFits (map number_record_of ns) → AllByRecursion (StandsUnder under_numbers) ns
numbers_stand ns full fit =
    All-both IsNumberPair (λ p. NumberFits (number_record_of p)) (StandsUnder under_numbers) (λ p f s. record { key = f; fits = (s.tenant_fits, s.number_fits) }) ns full (All-made NumberFits number_record_of ns fit)

pub pairs_stand : (ps : List Pair) → ArePairs ps → AllByRecursion (StandsUnder under_keys) ps
pairs_stand ps are = keys_stand ps are.stand.full are.stand.tenants

pub number_pairs_stand : (ns : List NumberPair) → AreNumberPairs ns → AllByRecursion (StandsUnder under_numbers) ns
number_pairs_stand ns are = numbers_stand ns are.stand are.fit

-- and ascend
pub keys_ascend : (ps : List Pair) → AreFull ps → AscendsByKey bytes_of ps
keys_ascend ps are = pairs_ascend under_keys ps (keys_stand ps are.full are.tenants) are.in_order

-- what stands so and ascends is full
pub are_full : (ps : List Pair) → AllByRecursion (StandsUnder under_keys) ps → AscendsByKey bytes_of ps → AreFull ps
are_full ps stand up = record {
  full = all_weaker (StandsUnder under_keys) IsFull (λ p s. s.key) ps stand;
  in_order = in_order under_keys ps stand up;
  tenants = all_map record_of IsOfTenant ps (all_weaker (StandsUnder under_keys) (λ p. IsOfTenant (record_of p)) (λ p s. s.fits.0) ps stand);
}

pub are_number_pairs : (ns : List NumberPair) → AllByRecursion (StandsUnder under_numbers) ns → AscendsByKey number_bytes ns → AllByRecursion NumberFits (map number_record_of ns) → AreNumberPairs ns
are_number_pairs ns stand up fit = record { stand = all_weaker (StandsUnder under_numbers) IsNumberPair (λ p s. s.key) ns stand; ascend = up; fit = fit }
