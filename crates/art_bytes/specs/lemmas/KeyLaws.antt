-- Facts on keys that the impls of the marker traits cite. Nothing here is a definition.
use Rattle.std.proofs.Common.{Bool, true, false, ◌||◌, true≢false, eq-eqb, ne_eqb, lit<, ◌-◌, take, ◌≡◌, ◌<◌, ℕ, get_or}
use Rattle.std.proofs.Common.{List, [], ◌∷◌, ◌++◌, length, refl, sym, ap, ◌∙◌, arith, append-nil, length-append}
use Rattle.std.proofs.lemmas.Grind.{common_steps}
use Rattle.std.specs.List.{list_any}
use Rattle.std.specs.Prelude.{nat_eq}
use Rattle.std.proofs.lemmas.List.Elements.{All-nil, All-cons, All-append}
use Rattle.art_bytes.specs.Keys.{AreBytes, BeginsWith, HasNoZero}

-- what is below 256 at each place is bytes
pub AreBytes-by_index : (xs : List ℕ) → ((k : ℕ) → get_or xs k 0 < 256) → AreBytes xs
AreBytes-by_index xs h = λ k d below. at_place xs k d below (h k)
  where
    at_place : (xs : List ℕ) (k d : ℕ) → k < length xs → get_or xs k 0 < 256 → get_or xs k d < 256
    at_place xs k d below h = grind (arith, common_steps)

-- what follows a front of the whole length is nothing
pub BeginsWith-same_length : (k l : List ℕ) (n : ℕ) → length k ≡ n → length l ≡ n → BeginsWith k l → k ≡ l
BeginsWith-same_length k l n hk hl (rest, e) =
    sym (e ∙ ap (λ r. k ++ r) (none rest (omega (arith, length-append k rest, ap length e))) ∙ append-nil k)
  where
    none : (rest : List ℕ) → length rest ≡ 0 → rest ≡ []
    none [] h = refl
    none (x ∷ xs) h = absurd (omega arith)

-- what holds of the fronts of values' bytes holds of the keys that have these bytes
pub front_of_mapped : {k l v w : List ℕ} → k ≡ v → l ≡ w → (BeginsWith v w → v ≡ w) → BeginsWith k l → k ≡ l
front_of_mapped {k} {l} {v} {w} at_k at_l same (rest, e) = at_k ∙ same (rest, sym at_l ∙ e ∙ ap (λ m. m ++ rest) at_k)
    ∙ sym at_l

-- a zero at the end comes nowhere before it, so a front ends where the key does
pub zero_ended_front : (k l : List ℕ) → HasNoZero k → HasNoZero l → BeginsWith (k ++ 0 ∷ []) (l ++ 0 ∷ [])
    → k ++ 0 ∷ [] ≡ l ++ 0 ∷ []
zero_ended_front [] [] hk hl h = refl
zero_ended_front [] (b ∷ l) hk hl (rest, e) = absurd (hl.0 (first e))
  where
    first : {a b : ℕ} {k l : List ℕ} → a ∷ k ≡ b ∷ l → a ≡ b
    first e = cc
zero_ended_front (a ∷ k) [] hk hl (rest, e) = absurd (hk.0 (first e))
  where
    first : {a b : ℕ} {k l : List ℕ} → a ∷ k ≡ b ∷ l → b ≡ a
    first e = cc
zero_ended_front (a ∷ k) (b ∷ l) hk hl (rest, e) =
    let head : a ≡ b = cc in
    let tail : l ++ 0 ∷ [] ≡ (k ++ 0 ∷ []) ++ rest = cc in
    λ i. head i ∷ zero_ended_front k l hk.1 hl.1 (rest, tail) i

-- what the search for a zero tells

pub none_is_zero : (xs : List ℕ) → list_any (λ b. nat_eq b 0) xs ≡ false → HasNoZero xs
none_is_zero [] e = tt
none_is_zero (x ∷ xs) e = by_head (none_is_zero xs) (nat_eq x 0) refl
  where
    by_head : (list_any (λ b. nat_eq b 0) xs ≡ false → HasNoZero xs) → (t : Bool) → nat_eq x 0 ≡ t → HasNoZero (x ∷ xs)
    by_head rest true at = absurd (true≢false (sym (ap (λ b. b || list_any (λ b. nat_eq b 0) xs) at) ∙ e))
    by_head rest false at = (
      (λ zero_x. true≢false (sym (eq-eqb x 0 zero_x) ∙ at)),
      rest (sym (ap (λ b. b || list_any (λ b. nat_eq b 0) xs) at) ∙ e),
    )

pub some_is_zero : (xs : List ℕ) → list_any (λ b. nat_eq b 0) xs ≡ true → HasNoZero xs → ⊥
some_is_zero [] e h = true≢false (sym e)
some_is_zero (x ∷ xs) e h =
    some_is_zero xs (sym (ap (λ b. b || list_any (λ b. nat_eq b 0) xs) (ne_eqb x 0 h.0)) ∙ e) h.1

-- the bytes of a key with a zero at its end
pub AreBytes-zero_ended : (k : List ℕ) → AreBytes k → AreBytes (k ++ 0 ∷ [])
AreBytes-zero_ended k h =
    All-append (λ b. b < 256) k (0 ∷ []) h (All-cons (λ b. b < 256) 0 [] (lit< tt) (All-nil (λ b. b < 256)))

-- what stands before the zero at the end
pub before_zero : (k l : List ℕ) → l ≡ k ++ 0 ∷ [] → take (length l - 1) l ≡ k
before_zero k l e = grind (arith, common_steps)
