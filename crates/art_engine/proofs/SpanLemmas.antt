-- A step of a span: its first pair is given, and the others are left.
use Rattle.std.proofs.Common.{◌≡◌, ℕ, ◌+◌, ◌-◌, ◌^◌, min, List, [], ◌∷◌, length, Option, Some, None, sym, ap, ◌∙◌, arith}
use Rattle.std.specs.Prelude.{option_map, MatchOption, Result, Ok, Err, OnOk}
use Rattle.art_arena.proofs.Common.{Arena}
use Rattle.art_walks.proofs.Common.{IsSpan, IsSpanOf, Ends, run-pairs}
use Rattle.art_engine.proofs.Terms.{GrewBy, pending, span_pairs}

module _ {K V : Type 0} where
  -- what a span has to give is what is left of it
  pub span_left : (arena : Arena K V) (pairs : List (K × V)) (ends : Ends) (left : List (K × V)) → IsSpanOf arena pairs ends left → span_pairs arena ends ≡ left
  span_left arena pairs ends left span = run-pairs arena ends (length left) span.run ∙ span.pairs_are

  module _ {R : Type 0} (read : R → K × V) (old new : Arena K V) (ends next : Ends) (result : Option R)
      (first : (pairs : List (K × V)) (p : K × V) (left : List (K × V)) → IsSpanOf old pairs ends (p ∷ left) → (option_map read result ≡ Some p) × IsSpanOf new pairs next left)
      (end : (pairs : List (K × V)) → IsSpanOf old pairs ends [] → (result ≡ None) × IsSpanOf new pairs next []) where
    -- what is left of a span is the pair that is given, and what is left of the next one
    pub span_next : IsSpan old ends → span_pairs old ends ≡ pending (option_map read result) (span_pairs new next)
    span_next (pairs, [], span) =
        let e = end pairs span in
        span_left old pairs ends [] span ∙ sym (ap (λ o. pending (option_map read o) (span_pairs new next)) e.0 ∙ span_left new pairs next [] e.1)
    span_next (pairs, p ∷ left, span) =
        let given = first pairs p left span in
        span_left old pairs ends (p ∷ left) span ∙ ap (λ l. p ∷ l) (sym (span_left new pairs next left given.1))
        ∙ ap (λ o. pending o (span_pairs new next)) (sym given.0)

    -- and nothing, where none is given
    pub span_ended : IsSpan old ends → result ≡ None → span_pairs new next ≡ []
    span_ended (pairs, [], span) is = span_left new pairs next [] (end pairs span).1
    span_ended (pairs, p ∷ left, span) is = let given = (first pairs p left span).0 in let none = ap (option_map read) is in absurd (cc)

-- a step of it is counted, if it gives a pair
pub span_counts : {R X : Type 0} (read : R → X) (result : Option R) (given first old new : ℕ) → MatchOption result (new ≡ old) (λ _. new ≡ min (old + 1) (2 ^ 64 - 1))
    → GrewBy given first old → GrewBy (given + length (pending (option_map read result) [])) first new
span_counts read None given first old new step grew = λ fits. let same : new ≡ old = step in let is = grew fits in omega (arith, same, is)
span_counts read (Some r) given first old new step grew = λ fits. let more : new ≡ min (old + 1) (2 ^ 64 - 1) = step in let is = grew fits in omega (arith, more, is)

-- what holds anyway holds of an answer
pub when_ok : {T E P : Type 0} (r : Result T E) → P → OnOk r P
when_ok (Ok x) p = p
when_ok (Err e) p = tt
