-- Keys with a mark after some bytes of a query: how they begin, and the longest of them.
use Rattle.std.proofs.Common.{◌≡◌, ◌⊎◌, ℕ, zero, suc, ◌+◌, ◌<◌, ◌≤◌, List, [], ◌∷◌, ◌++◌, length, get_or, take, Option, Some, None, refl, sym, ap, ap₂, subst, ◌∙◌, inl, inr, arith, length-append, length-take-le}
use Rattle.std.proofs.lemmas.Bool.{cases_eq}
use Rattle.std.proofs.lemmas.Bool.Decides.{eqb_tells}
use Rattle.art_bytes.proofs.Common.{BeginsWith}
use Rattle.art_nodes.proofs.Common.{agreeing}
use Rattle.art_operations.proofs.Terms.{marked_key, option_or, longest_marked, IsMarkedBy, EndsAt}

-- such a key that begins with a list and goes on: it is the list and the mark, or has the query's next byte after it
pub key-splits : (q query : List ℕ) (mark n : ℕ) (key : List ℕ) → n ≤ length query → key ≡ marked_key query mark n → BeginsWith q key → length q < length key
    → ((length q ≡ n) × (q ≡ take n query)) ⊎ ((length q < n) × BeginsWith (q ++ get_or query (length q) 0 ∷ []) key)
key-splits [] query mark zero key within is begins longer = inl (refl, refl)
key-splits [] [] mark (suc n) key within is begins longer = absurd (omega (arith, within))
key-splits [] (x ∷ xs) mark (suc n) key within is begins longer = inr (omega arith, (take n xs ++ mark ∷ [], is))
key-splits (a ∷ q) query mark zero key within is begins longer = absurd (omega (arith, longer, ap length is))
key-splits (a ∷ q) [] mark (suc n) key within is begins longer = absurd (omega (arith, within))
key-splits (a ∷ q) (x ∷ xs) mark (suc n) key within is begins longer =
    let both : x ∷ (take n xs ++ mark ∷ []) ≡ a ∷ (q ++ begins.0) = sym is ∙ begins.1 in
    let head : x ≡ a = cc in
    let tail : take n xs ++ mark ∷ [] ≡ q ++ begins.0 = cc in
    elim (key-splits q xs mark n (take n xs ++ mark ∷ []) (omega (arith, within)) refl (begins.0, tail) (omega (arith, longer, ap length is))) [
      | inl ends ↦ inl (omega (arith, ends.0), ap₂ (λ c cs. c ∷ cs) (sym head) ends.1)
      | inr more ↦ inr (omega (arith, more.0), (more.1.0, is ∙ ap₂ (λ c cs. c ∷ cs) head more.1.1))
    ]

-- how far two lists agree

pub agree-take : (n : ℕ) (k q : List ℕ) → n ≤ agreeing k q → take n k ≡ take n q
agree-take zero k q within = refl
agree-take (suc n) [] q within = absurd (omega (arith, within))
agree-take (suc n) (a ∷ k) [] within = absurd (omega (arith, within))
agree-take (suc n) (a ∷ k) (b ∷ q) within = elim (eqb_tells a b) [
  | inl same ↦ ap₂ (λ c cs. c ∷ cs) same.1 (agree-take n k q (let w : suc n ≤ suc (agreeing k q) = rw same.0 at within in omega (arith, w)))
  | inr other ↦ absurd (let w : suc n ≤ 0 = rw other.0 at within in omega (arith, w))
]

pub agree-fronts : (p k q : List ℕ) → BeginsWith p k → BeginsWith p q → length p ≤ agreeing k q
agree-fronts [] k q b c = omega arith
agree-fronts (x ∷ p) [] q b c = absurd (let e = b.1 in cc)
agree-fronts (x ∷ p) (y ∷ k) [] b c = absurd (let e = c.1 in cc)
agree-fronts (x ∷ p) (y ∷ k) (z ∷ q) b c =
    let e = b.1 in
    let f = c.1 in
    let same : y ≡ z = cc in
    let left : k ≡ p ++ b.0 = cc in
    let right : q ≡ p ++ c.0 = cc in
    elim (eqb_tells y z) [
      | inl t ↦ rw t.0 (let w = agree-fronts p k q (b.0, left) (c.0, right) in omega (arith, w))
      | inr t ↦ absurd (t.1 same)
    ]

pub take-begins : (n : ℕ) (q : List ℕ) → BeginsWith (take n q) q
take-begins zero q = (q, refl)
take-begins (suc n) [] = ([], refl)
take-begins (suc n) (a ∷ q) = let rest = take-begins n q in (rest.0, ap (λ cs. a ∷ cs) rest.1)

-- a list that goes on to one item more is itself and that item
pub ends-whole : (n : ℕ) (key : List ℕ) → suc n ≡ length key → key ≡ take n key ++ get_or key n 0 ∷ []
ends-whole zero [] e = absurd (omega (arith, e))
ends-whole zero (a ∷ []) e = refl
ends-whole zero (a ∷ b ∷ key) e = absurd (omega (arith, e))
ends-whole (suc n) [] e = absurd (omega (arith, e))
ends-whole (suc n) (a ∷ key) e = ap (λ cs. a ∷ cs) (ends-whole n key (omega (arith, e)))

pub at-end : (body : List ℕ) (mark : ℕ) → get_or (body ++ mark ∷ []) (length body) 0 ≡ mark
at-end [] mark = refl
at-end (a ∷ body) mark = at-end body mark

pub ends-long : (n mark : ℕ) (key : List ℕ) → EndsAt n mark key → length key ≡ suc n
ends-long n mark key (body, long, is) = omega (arith, ap length is, length-append body (mark ∷ []), long)

pub ends-mark : (n mark : ℕ) (key : List ℕ) → EndsAt n mark key → get_or key n 0 ≡ mark
ends-mark n mark key (body, long, is) = ap₂ (λ k i. get_or k i 0) is (sym long) ∙ at-end body mark

pub marked-ends : (query : List ℕ) (mark n : ℕ) (key : List ℕ) → IsMarkedBy query mark n key → EndsAt n mark key
marked-ends query mark n key by = (take n query, length-take-le n query by.0, by.1)

-- the longest of what is found
module _ {X : Type 0} (find : List ℕ → Option X) (query : List ℕ) (mark : ℕ) where
  pub longest-none : (most : ℕ) → ((n : ℕ) → n ≤ most → find (marked_key query mark n) ≡ None) → None ≡ longest_marked find query mark most
  longest-none zero none = sym (none 0 (omega arith))
  longest-none (suc most) none =
      longest-none most (λ n w. none n (omega (arith, w)))
      ∙ sym (ap (λ first. option_or first (longest_marked find query mark most)) (none (suc most) (omega arith)))

  pub longest-some : (most m : ℕ) (x : X) → m ≤ most → find (marked_key query mark m) ≡ Some x → ((n : ℕ) → m < n → n ≤ most → find (marked_key query mark n) ≡ None) → Some x ≡ longest_marked find query mark most
  longest-some zero m x within found none =
      let same : m ≡ 0 = omega (arith, within) in
      sym (subst (λ i. find (marked_key query mark i) ≡ Some x) same found)
  longest-some (suc most) m x within found none = elim (cases_eq m (suc most)) [
    | inl same ↦
        let here : find (marked_key query mark (suc most)) ≡ Some x = subst (λ i. find (marked_key query mark i) ≡ Some x) same found in
        sym (ap (λ first. option_or first (longest_marked find query mark most)) here)
    | inr other ↦
        let before : m ≤ most = omega (arith, within, other) in
        longest-some most m x before found (λ n more w. none n more (omega (arith, w)))
        ∙ sym (ap (λ first. option_or first (longest_marked find query mark most)) (none (suc most) (omega (arith, before)) (omega arith)))
  ]
