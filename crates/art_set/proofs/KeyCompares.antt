-- Maps to `()` are compared and hashed as their keys are.
use Rattle.std.proofs.Common.{◌≡◌, Bool, true, ◌&&◌, List, [], ◌++◌, Option, Some, None, refl, sym}
use Rattle.std.specs.Cmp.Derive.Mapped.{items_map, lex_map, pointwise-map, slice_partial_cmp-map}
use Rattle.std.specs.Cmp.Lexicographic.{pointwise, slice_cmp, slice_partial_cmp}
use Rattle.std.specs.Hash as fed
use Rattle.std.specs.Hash.{HashWrites}
use Rattle.std.specs.Map.{keys_of}
use Rattle.std.specs.Ordering.{ordering_then, partial_ordering_then}
use Rattle.std.specs.declared.cmp.Ordering.{Ordering}
use Rattle.std.specs.declared.cmp.Ordering.TheVariants.{Less, Equal, Greater}
use Rattle.std.proofs.Math.Bool.{and-true}
use Rattle.std.proofs.lemmas.List.{append-nil}

then-equal : (o : Ordering) → ordering_then o Equal ≡ o
then-equal Less = refl
then-equal Equal = refl
then-equal Greater = refl

partial-then-equal : (o : Option Ordering) → partial_ordering_then o (Some Equal) ≡ o
partial-then-equal None = refl
partial-then-equal (Some Less) = refl
partial-then-equal (Some Equal) = refl
partial-then-equal (Some Greater) = refl

module _ {K V : Type 0} where
  pub eq-keys : (E : K → K → Bool) (ps qs : List (K × V)) → pointwise (λ p q. E p.0 q.0 && true) ps qs ≡ pointwise E (keys_of ps) (keys_of qs)
  eq-keys E ps qs = simp and-true (sym (pointwise-map (λ p. p.0) E ps qs))

  pub cmp-keys : (C : K → K → Ordering) (ps qs : List (K × V)) → slice_cmp (λ p q. ordering_then (C p.0 q.0) Equal) ps qs ≡ slice_cmp C (keys_of ps) (keys_of qs)
  cmp-keys C ps qs = simp then-equal (sym (lex_map (λ p. p.0) C ps qs))

  pub partial-cmp-keys : (C : K → K → Option Ordering) (ps qs : List (K × V)) → slice_partial_cmp (λ p q. partial_ordering_then (C p.0 q.0) (Some Equal)) ps qs ≡ slice_partial_cmp C (keys_of ps) (keys_of qs)
  partial-cmp-keys C ps qs = simp partial-then-equal (sym (slice_partial_cmp-map (λ p. p.0) C ps qs))

  pub hashed-keys : (F : K → HashWrites) (ps : List (K × V)) → fed.slice (λ p. F p.0 ++ []) ps ≡ fed.slice F (keys_of ps)
  hashed-keys F ps = simp append-nil (sym (items_map (λ p. p.0) F ps))
