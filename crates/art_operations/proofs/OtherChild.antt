-- The other one of two children.
use Rattle.std.proofs.Common.{◌≡◌, ◌≢◌, ℕ, List, Option, Some, None, inl, inr, sym, ap, ◌∙◌}
use Rattle.art_nodes.proofs.Common.{first_child, last_child, Name}
use Rattle.art_operations.proofs.Terms.{IsOther}

-- where the first one is under another byte, it is the other one
pub first-other : (children : List (ℕ × Name)) (byte : ℕ) (other : ℕ × Name) → IsOther children byte other → (first : ℕ × Name) → first_child children ≡ Some first → first.0 ≢ byte → first ≡ other
first-other children byte other two first is apart = elim two.are [
  | inl a ↦ let e : Some (byte, two.child) ≡ Some first = sym (ap first_child a) ∙ is in let f : (byte, two.child) ≡ first = cc in absurd (apart (sym (ap (λ (p : ℕ × Name). p.0) f)))
  | inr a ↦ let e : Some other ≡ Some first = sym (ap first_child a) ∙ is in cc
]

-- where it is not, the last one is
pub last-other : (children : List (ℕ × Name)) (byte : ℕ) (other : ℕ × Name) → IsOther children byte other → (first : ℕ × Name) → first_child children ≡ Some first → first.0 ≡ byte
    → (last : ℕ × Name) → last_child children ≡ Some last → last ≡ other
last-other children byte other two first is same last at_end = elim two.are [
  | inl a ↦ let e : Some other ≡ Some last = sym (ap last_child a) ∙ at_end in cc
  | inr a ↦ let e : Some other ≡ Some first = sym (ap first_child a) ∙ is in let f : other ≡ first = cc in absurd (two.apart (ap (λ (p : ℕ × Name). p.0) f ∙ same))
]

-- there is a first one
pub has_first : (children : List (ℕ × Name)) (byte : ℕ) (other : ℕ × Name) → IsOther children byte other → first_child children ≡ None → ⊥
has_first children byte other two none = elim two.are [
  | inl a ↦ let e : ◌≡◌ {A = Option (ℕ × Name)} (Some (byte, two.child)) None = sym (ap first_child a) ∙ none in cc
  | inr a ↦ let e : ◌≡◌ {A = Option (ℕ × Name)} (Some other) None = sym (ap first_child a) ∙ none in cc
]

-- and a last one
pub has_last : (children : List (ℕ × Name)) (byte : ℕ) (other : ℕ × Name) → IsOther children byte other → last_child children ≡ None → ⊥
has_last children byte other two none = elim two.are [
  | inl a ↦ let e : ◌≡◌ {A = Option (ℕ × Name)} (Some other) None = sym (ap last_child a) ∙ none in cc
  | inr a ↦ let e : ◌≡◌ {A = Option (ℕ × Name)} (Some (byte, two.child)) None = sym (ap last_child a) ∙ none in cc
]
