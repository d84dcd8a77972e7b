-- What headers store of prefixes that are joined.
use Rattle.std.proofs.Common.{◌≡◌, ℕ, suc, zero, ◌+◌, ◌≤◌, List, [], ◌∷◌, ◌++◌, length, take, min, refl, sym, ap, ◌∙◌, arith, length-append, append_assoc}
use Rattle.std.proofs.lemmas.List.{length-take}
use Rattle.art_nodes.proofs.Common.{Header}

-- the front of a list is that of its front and the rest
pub take_front : {X : Type 0} (n : ℕ) (xs ys : List X) → take n (take n xs ++ ys) ≡ take n (xs ++ ys)
take_front zero xs ys = refl
take_front (suc n) [] ys = refl
take_front (suc n) (x ∷ xs) ys = ap (λ zs. x ∷ zs) (take_front n xs ys)

take_twice : {X : Type 0} (n m : ℕ) (ys : List X) → n ≤ m → take n (take m ys) ≡ take n ys
take_twice zero m ys less = refl
take_twice (suc n) zero ys less = absurd (omega (arith, less))
take_twice (suc n) (suc m) [] less = refl
take_twice (suc n) (suc m) (y ∷ ys) less = ap (λ zs. y ∷ zs) (take_twice n m ys (omega (arith, less)))

take_less : {X : Type 0} (n m : ℕ) (xs ys : List X) → n ≤ m → take n (xs ++ take m ys) ≡ take n (xs ++ ys)
take_less n m [] ys less = take_twice n m ys less
take_less zero m (x ∷ xs) ys less = refl
take_less (suc n) m (x ∷ xs) ys less = ap (λ zs. x ∷ zs) (take_less n m xs ys (omega (arith, less)))

-- what is stored of two prefixes with a byte in between
pub joined : (P : ℕ) (a : List ℕ) (b : ℕ) (q : List ℕ) → take P (take P a ++ b ∷ take P q) ≡ take P (a ++ b ∷ q)
joined P a b q =
    take_front P a (b ∷ take P q) ∙ ap (take P) (sym (append_assoc a (b ∷ []) (take P q))) ∙ take_less P P (a ++ b ∷ []) q (omega arith) ∙ ap (take P) (append_assoc a (b ∷ []) q)

-- the bytes at hand cover what it stores
pub covered : (P : ℕ) (above below start first : Header) (b q : ℕ) (bytes : List ℕ) → length above.stored ≡ min above.prefix_len P → length below.stored ≡ min below.prefix_len P
    → start ≡ record above { num_children = 0 } → first ≡ record start { prefix_len = start.prefix_len + 1; stored = take P (start.stored ++ b ∷ []) }
    → bytes ≡ below.stored → q ≡ below.prefix_len → min (first.prefix_len + q) P ≤ length first.stored + length bytes
covered P above below start first b q bytes stores stores_below is_start is_first is_bytes is_q =
    rw (is_first, is_start, is_bytes, is_q) (omega (arith, stores, stores_below, length-take P (above.stored ++ b ∷ []), length-append above.stored (b ∷ [])))
