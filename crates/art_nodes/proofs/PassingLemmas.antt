-- Lemmas on the numbers of a row that pass a test, by their places.
use Rattle.std.proofs.Common.{◌≡◌, ℕ, zero, suc, ◌+◌, ◌-◌, ◌<◌, ◌≤◌, Bool, true, false, cond, [], ◌∷◌, ◌++◌, length, slice_index, refl, ap, ap₂, ◌∙◌, inl, inr, arith}
use Rattle.std.proofs.lemmas.Bool.Decides.{leb_tells}
use Rattle.art_nodes.proofs.Terms.{place}
use Rattle.art_nodes.specs.inner.Mask.{those_passing}

-- tests that agree on a row pass the same numbers of it
pub passing-same : (p q : ℕ → Bool) (first n : ℕ) → ((k : ℕ) → first ≤ k → k < first + n → q k ≡ p k) → those_passing q first n ≡ those_passing p first n
unfolding those_passing
passing-same p q first zero same = refl
passing-same p q first (suc n) same = ap₂ (λ t rest. cond t (first ∷ rest) rest) (same first (omega arith) (omega arith)) (passing-same p q (suc first) n (λ k from to. same k (omega arith) (omega arith)))

-- where none passes
pub passing-none : (p : ℕ → Bool) (first n : ℕ) → ((k : ℕ) → first ≤ k → k < first + n → p k ≡ false) → those_passing p first n ≡ []
unfolding those_passing
passing-none p first zero none = refl
passing-none p first (suc n) none = rw (none first (omega arith) (omega arith)) (passing-none p (suc first) n (λ k from to. none k (omega arith) (omega arith)))

-- a row in two parts
pub passing-parts : (p : ℕ → Bool) (first m n : ℕ) → those_passing p first (m + n) ≡ those_passing p first m ++ those_passing p (first + m) n
unfolding those_passing
passing-parts p first zero n = let e : 0 + n ≡ n = omega arith in let f : first + 0 ≡ first = omega arith in rw (e, f) refl
passing-parts p first (suc m) n =
    let e : suc first + m ≡ first + suc m = omega arith in
    let more : suc m + n ≡ suc (m + n) = omega arith in
    let rest : those_passing p (suc first) (m + n) ≡ those_passing p (suc first) m ++ those_passing p (first + suc m) n = passing-parts p (suc first) m n ∙ ap (λ k. those_passing p (suc first) m ++ those_passing p k n) e in
    ap (λ k. those_passing p first k) more ∙ elim (p first) as (λ t. cond t (first ∷ those_passing p (suc first) (m + n)) (those_passing p (suc first) (m + n)) ≡ cond t (first ∷ those_passing p (suc first) m) (those_passing p (suc first) m) ++ those_passing p (first + suc m) n) [
      | true ↦ ap (λ ks. first ∷ ks) rest
      | false ↦ rest
    ]

-- a number of a row passes, or none does
pub passing-one : (p : ℕ → Bool) (k : ℕ) → those_passing p k 1 ≡ cond (p k) (k ∷ []) []
unfolding those_passing
passing-one p k = refl

-- a row that begins elsewhere
pub length-passing_from : (p : ℕ → Bool) (from first n : ℕ) → length (those_passing p (from + first) n) ≡ length (those_passing (λ k. p (from + k)) first n)
unfolding those_passing
length-passing_from p from first zero = refl
length-passing_from p from first (suc n) =
    let e : suc (from + first) ≡ from + suc first = omega arith in
    let rest : length (those_passing p (suc (from + first)) n) ≡ length (those_passing (λ k. p (from + k)) (suc first) n) = ap (λ k. length (those_passing p k n)) e ∙ length-passing_from p from (suc first) n in
    elim (p (from + first)) as (λ t. length (cond t ((from + first) ∷ those_passing p (suc (from + first)) n) (those_passing p (suc (from + first)) n)) ≡ length (cond t (first ∷ those_passing (λ k. p (from + k)) (suc first) n) (those_passing (λ k. p (from + k)) (suc first) n))) [
      | true ↦ ap suc rest
      | false ↦ rest
    ]

-- no number of a row is below its first
place-passing_first : (p : ℕ → Bool) (first n bound : ℕ) → bound ≤ first → place (those_passing p first n) bound ≡ 0
unfolding those_passing
place-passing_first p first zero bound le = refl
place-passing_first p first (suc n) bound le = elim (p first) as (λ t. place (cond t (first ∷ those_passing p (suc first) n) (those_passing p (suc first) n)) bound ≡ 0) [
  | true ↦ elim (leb_tells (suc first) bound) [
    | inl below ↦ absurd (omega (arith, below.1))
    | inr above ↦ rw above.0 refl
  ]
  | false ↦ place-passing_first p (suc first) n bound (omega arith)
]

-- the place of a number is how many before it pass
place-passing : (p : ℕ → Bool) (first m n : ℕ) → place (those_passing p first (m + n)) (first + m) ≡ length (those_passing p first m)
unfolding those_passing
place-passing p first zero n = let e : 0 + n ≡ n = omega arith in rw e (place-passing_first p first n (first + 0) (omega arith))
place-passing p first (suc m) n =
    let e : first + suc m ≡ suc first + m = omega arith in
    let more : suc m + n ≡ suc (m + n) = omega arith in
    let rest : place (those_passing p (suc first) (m + n)) (first + suc m) ≡ length (those_passing p (suc first) m) = ap (λ k. place (those_passing p (suc first) (m + n)) k) e ∙ place-passing p (suc first) m n in
    ap (λ k. place (those_passing p first k) (first + suc m)) more ∙ elim (p first) as (λ t. place (cond t (first ∷ those_passing p (suc first) (m + n)) (those_passing p (suc first) (m + n))) (first + suc m) ≡ length (cond t (first ∷ those_passing p (suc first) m) (those_passing p (suc first) m))) [
      | true ↦ elim (leb_tells (suc first) (first + suc m)) [
        | inl below ↦ rw below.0 (ap suc rest)
        | inr above ↦ absurd (omega (arith, above.1))
      ]
      | false ↦ rest
    ]

-- what stands among them passes
pub stands-passes : (p : ℕ → Bool) (first n i : ℕ) → i < length (those_passing p first n) → p (slice_index (those_passing p first n) i) ≡ true
unfolding those_passing
stands-passes p first zero i less = absurd (omega (arith, less))
stands-passes p first (suc n) i less = go (λ j l. stands-passes p (suc first) n j l) (p first) refl i less
  where
    go : ((j : ℕ) → j < length (those_passing p (suc first) n) → p (slice_index (those_passing p (suc first) n) j) ≡ true) → (t : Bool) → p first ≡ t → (j : ℕ)
        → j < length (cond t (first ∷ those_passing p (suc first) n) (those_passing p (suc first) n))
        → p (slice_index (cond t (first ∷ those_passing p (suc first) n) (those_passing p (suc first) n)) j) ≡ true
    go rest true e zero l = e
    go rest true e (suc j) l = rest j (omega (arith, l))
    go rest false e j l = rest j l

-- the numbers below 256 that pass, on both sides of a bound
pub halves : (p : ℕ → Bool) (bound : ℕ) → bound ≤ 256 → those_passing p 0 256 ≡ those_passing p 0 bound ++ those_passing p bound (256 - bound)
halves p bound fits = let e : 256 ≡ bound + (256 - bound) = omega arith in let f : 0 + bound ≡ bound = omega arith in ap (λ n. those_passing p 0 n) e ∙ passing-parts p 0 bound (256 - bound) ∙ ap (λ k. those_passing p 0 bound ++ those_passing p k (256 - bound)) f

pub place_of_bound : (p : ℕ → Bool) (bound : ℕ) → bound ≤ 256 → place (those_passing p 0 256) bound ≡ length (those_passing p 0 bound)
place_of_bound p bound fits = let e : 256 ≡ bound + (256 - bound) = omega arith in let f : bound ≡ 0 + bound = omega arith in ap₂ (λ n k. place (those_passing p 0 n) k) e f ∙ place-passing p 0 bound (256 - bound)

-- around one of them
module _ (p : ℕ → Bool) (byte : ℕ) (fits : byte < 256) where
  around : those_passing p 0 256 ≡ those_passing p 0 byte ++ (cond (p byte) (byte ∷ []) [] ++ those_passing p (suc byte) (255 - byte))
  around =
      let e : 256 - byte ≡ 1 + (255 - byte) = omega arith in
      let f : byte + 1 ≡ suc byte = omega arith in
      let rest : those_passing p byte (256 - byte) ≡ cond (p byte) (byte ∷ []) [] ++ those_passing p (suc byte) (255 - byte) =
      ap (λ n. those_passing p byte n) e ∙ passing-parts p byte 1 (255 - byte) ∙ ap₂ (λ here k. here ++ those_passing p k (255 - byte)) (passing-one p byte) f in
      halves p byte (omega arith) ∙ ap (λ ks. those_passing p 0 byte ++ ks) rest

  pub with_it : p byte ≡ true → those_passing p 0 256 ≡ those_passing p 0 byte ++ byte ∷ those_passing p (suc byte) (255 - byte)
  with_it yes_it = around ∙ ap (λ t. those_passing p 0 byte ++ (cond t (byte ∷ []) [] ++ those_passing p (suc byte) (255 - byte))) yes_it

  pub without_it : p byte ≡ false → those_passing p 0 256 ≡ those_passing p 0 byte ++ those_passing p (suc byte) (255 - byte)
  without_it no_it = around ∙ ap (λ t. those_passing p 0 byte ++ (cond t (byte ∷ []) [] ++ those_passing p (suc byte) (255 - byte))) no_it
