-- Lemmas on byte strings: divergence, fronts, conflicts, byte order and longest common prefixes.
use Rattle.std.proofs.Common.{◌≡◌, ℕ, ◌<◌, List, [], ◌∷◌, ◌++◌, length, refl, sym, ap, ap₂, ◌∙◌, inl}
use Rattle.std.proofs.Common.{inr}
use Rattle.std.proofs.Common.{append_assoc, append-nil, length-append, arith, eq-eqb, ne_eqb, lt-ltb, le-ltb}
use Rattle.std.specs.List.{AllByRecursion}
use Rattle.std.specs.declared.cmp.Ordering.TheVariants.{Less, Greater}
use Rattle.std.proofs.lemmas.Bool.{cond-true, cond-false, cases_order}
use Rattle.art_bytes.proofs.Terms.{bytes_cmp, BeginsWith, IsProperFront, Conflict, IsBefore, common_prefix, shared_prefix}

-- the order

pub before_trans : (k l m : List ℕ) → IsBefore k l → IsBefore l m → IsBefore k m
before_trans [] l m h _ = absurd h
before_trans (a ∷ k) [] m h _ = absurd h
before_trans (a ∷ k) (b ∷ l) [] _ h = absurd h
before_trans (a ∷ k) (b ∷ l) (c ∷ m) (inl h) (inl j) = inl (omega arith)
before_trans (a ∷ k) (b ∷ l) (c ∷ m) (inl h) (inr j) = let e = j.0 in inl (omega arith)
before_trans (a ∷ k) (b ∷ l) (c ∷ m) (inr h) (inl j) = let e = h.0 in inl (omega arith)
before_trans (a ∷ k) (b ∷ l) (c ∷ m) (inr h) (inr j) = inr (h.0 ∙ j.0, before_trans k l m h.1 j.1)

pub before_not_self : (k : List ℕ) → IsBefore k k → ⊥
before_not_self [] h = h
before_not_self (a ∷ k) (inl h) = omega arith
before_not_self (a ∷ k) (inr h) = before_not_self k h.1

pub before_at : (q : List ℕ) (a b : ℕ) (k l : List ℕ) → a < b → IsBefore (q ++ a ∷ k) (q ++ b ∷ l)
before_at [] a b k l h = inl h
before_at (c ∷ q) a b k l h = inr (refl, before_at q a b k l h)

-- two keys are equal, or one is before the other, or one is a front of the other
pub front_not_before : (k l : List ℕ) → BeginsWith k l → IsBefore k l → ⊥
front_not_before [] l h j = j
front_not_before (a ∷ k) [] h j = j
front_not_before (a ∷ k) (b ∷ l) (r, e) (inl j) = let f : b ≡ a = cc in omega arith
front_not_before (a ∷ k) (b ∷ l) (r, e) (inr j) = let f : l ≡ k ++ r = cc in front_not_before k l (r, f) j.1

pub front_not_after : (k l : List ℕ) → BeginsWith k l → IsBefore l k → ⊥
front_not_after [] [] h j = j
front_not_after [] (b ∷ l) h j = j
front_not_after (a ∷ k) [] h j = j
front_not_after (a ∷ k) (b ∷ l) (r, e) (inl j) = let f : b ≡ a = cc in omega arith
front_not_after (a ∷ k) (b ∷ l) (r, e) (inr j) = let f : l ≡ k ++ r = cc in front_not_after k l (r, f) j.1

-- a conflict, as one key going on after the other

pub conflict_first : (k l : List ℕ) → IsProperFront k l → Conflict k l
conflict_first k l (b, r, e) =
    (λ same. let len = ap length (same ∙ e) in absurd (omega (arith, len, length-append k (b ∷ r))), inl (b ∷ r, e))

pub conflict_turned : (k l : List ℕ) → Conflict k l → Conflict l k
conflict_turned k l (n, inl h) = (λ e. n (sym e), inr h)
conflict_turned k l (n, inr h) = (λ e. n (sym e), inl h)

pub conflict_second : (k l : List ℕ) → IsProperFront l k → Conflict k l
conflict_second k l h = conflict_turned l k (conflict_first l k h)

pub conflict_not_before : (k l : List ℕ) → Conflict k l → IsBefore k l → ⊥
conflict_not_before k l (n, inl h) j = front_not_before k l h j
conflict_not_before k l (n, inr h) j = front_not_after l k h j

pub conflict_longer : (a b : ℕ) (k l : List ℕ) → a ≡ b → Conflict k l → Conflict (a ∷ k) (b ∷ l)
conflict_longer a b k l f (n, inl (r, e)) = (λ same. n (cc), inl (r, ap₂ (λ x y. x ∷ y) (sym f) e))
conflict_longer a b k l f (n, inr (r, e)) = (λ same. n (cc), inr (r, ap₂ (λ x y. x ∷ y) f e))

-- longest common prefixes

pub common_at : (q k l : List ℕ) → common_prefix (q ++ k) (q ++ l) ≡ q ++ common_prefix k l
common_at [] k l = refl
common_at (a ∷ q) k l = cond-true _ _ _ (eq-eqb a a refl) ∙ ap (λ m. a ∷ m) (common_at q k l)

pub common_apart : (q : List ℕ) (a b : ℕ) (k l : List ℕ) → (a ≡ b → ⊥) → common_prefix (q ++ a ∷ k) (q ++ b ∷ l) ≡ q
common_apart q a b k l h = common_at q (a ∷ k) (b ∷ l) ∙ ap (λ m. q ++ m) (cond-false _ _ _ (ne_eqb a b h))
    ∙ append-nil q

pub common_front : (q k : List ℕ) → common_prefix (q ++ k) q ≡ q
common_front [] [] = refl
common_front [] (a ∷ k) = refl
common_front (a ∷ q) k = cond-true _ _ _ (eq-eqb a a refl) ∙ ap (λ m. a ∷ m) (common_front q k)

pub begins_append : (q b k : List ℕ) → BeginsWith (q ++ b) k → BeginsWith q k
begins_append q b k (r, e) = (b ++ r, e ∙ append_assoc q b r)

-- what begins with q and a, read past q
pub begins_step : (q : List ℕ) (a : ℕ) (k : List ℕ) → BeginsWith (q ++ a ∷ []) k → (r : List ℕ) × (k ≡ q ++ a ∷ r)
begins_step q a k (r, e) = (r, e ∙ append_assoc q (a ∷ []) r)

pub begins_from_step : (q : List ℕ) (a : ℕ) (r k : List ℕ) → k ≡ q ++ a ∷ r → BeginsWith (q ++ a ∷ []) k
begins_from_step q a r k e = (r, e ∙ sym (append_assoc q (a ∷ []) r))

pub common_begins : (q k l : List ℕ) → BeginsWith q k → BeginsWith q l → BeginsWith q (common_prefix k l)
common_begins q k l (r, e) (s, f) =
    (common_prefix r s, ap (λ m. common_prefix m l) e ∙ ap (λ m. common_prefix (q ++ r) m) f ∙ common_at q r s)

module _ {X : Type 0} (key : X → List ℕ) where
  pub shared_begins : (q : List ℕ) (x : X) (xs : List X) → AllByRecursion (λ y. BeginsWith q (key y)) (x ∷ xs)
      → BeginsWith q (shared_prefix key (x ∷ xs))
  shared_begins q x [] h = h.0
  shared_begins q x (y ∷ ys) h = common_begins q (key x) (shared_prefix key (y ∷ ys)) h.0 (shared_begins q y ys h.1)

  -- The keys of x ∷ xs go on from q by the byte b, and those after them don't all.
  pub shared_parts : (q : List ℕ) (b : ℕ) (x : X) (xs : List X) (y : X) (ys : List X)
      → AllByRecursion (λ z. BeginsWith (q ++ b ∷ []) (key z)) (x ∷ xs)
      → ((r : List ℕ) → common_prefix (q ++ b ∷ r) (shared_prefix key (y ∷ ys)) ≡ q)
      → shared_prefix key ((x ∷ xs) ++ (y ∷ ys)) ≡ q
  shared_parts q b x [] y ys h apart = let s = begins_step q b (key x) h.0 in
      ap (λ m. common_prefix m (shared_prefix key (y ∷ ys))) s.1 ∙ apart s.0
  shared_parts q b x (z ∷ zs) y ys h apart =
      let s = begins_step q b (key x) h.0 in
      ap (λ m. common_prefix (key x) m) (shared_parts q b z zs y ys h.1 apart) ∙ ap (λ m. common_prefix m q) s.1
      ∙ common_front q (b ∷ s.0)

-- who comes before by divergence is below in byte order, and the other way round where there is no conflict

by_cmp : (a b : ℕ) (k l : List ℕ) → IsBefore (a ∷ k) (b ∷ l) → (IsBefore k l → bytes_cmp k l ≡ Less)
    → bytes_cmp (a ∷ k) (b ∷ l) ≡ Less
by_cmp a b k l (inl h) rest = rw (lt-ltb a b h)
by_cmp a b k l (inr h) rest = let n = le-ltb a b (let e = h.0 in omega arith) in let e = eq-eqb a b h.0 in
    rw (n, e) (rest h.1)

pub before_cmp : (k l : List ℕ) → IsBefore k l → bytes_cmp k l ≡ Less
before_cmp [] l h = absurd h
before_cmp (a ∷ k) [] h = absurd h
before_cmp (a ∷ k) (b ∷ l) h = by_cmp a b k l h (before_cmp k l)

pub cmp_before : (k l : List ℕ) → bytes_cmp k l ≡ Less → (Conflict k l → ⊥) → IsBefore k l
cmp_before [] [] e n = absurd (cc)
cmp_before [] (b ∷ l) e n = n (conflict_first [] (b ∷ l) (b, l, refl))
cmp_before (a ∷ k) [] e n = absurd (cc)
cmp_before (a ∷ k) (b ∷ l) e n =
    let rest = cmp_before k l in
    elim (cases_order a b) [
      | inl f ↦
          let g : bytes_cmp k l ≡ Less = let c = le-ltb a b (omega arith) in let d = eq-eqb a b f in rw (c, d) at e in
          inr (f, rest g (λ c. n (conflict_longer a b k l f c)))
      | inr (inl h) ↦ inl h
      | inr (inr h) ↦
          let c = le-ltb a b (omega arith) in
          let d = ne_eqb a b (λ f. omega arith) in
          let g : Greater ≡ Less = rw (c, d) at e in absurd (cc)
    ]
