-- Lemmas on the stored front of a prefix.
use Rattle.std.proofs.Common.{◌≡◌, ℕ, zero, suc, ◌+◌, ◌-◌, ◌≤◌, List, [], ◌∷◌, ◌++◌, length, take, drop, min, get_or, refl, sym, ap, subst, inl, inr, arith, length-drop, drop-drop}
use Rattle.std.specs.List.{copy_within}
use Rattle.std.proofs.lemmas.Grind.{common_steps, elements}
use Rattle.std.proofs.lemmas.Bool.Decides.{eqb_tells}
use Rattle.std.proofs.lemmas.List.{drop-take, length-take, take_all}
use Rattle.art_nodes.proofs.Terms.{front_of, agreeing}
use Rattle.std.proofs.Math.Seq.{take-append_seam}

take-front : {X : Type 0} (xs ys : List X) (n : ℕ) → length xs ≡ n → take n (xs ++ ys) ≡ xs
take-front xs ys n e = rw (← e) (take-append_seam xs ys)

take-moved : (n m : ℕ) (xs : List ℕ) → n + m ≤ length xs → take m (copy_within xs n (n + m) 0) ≡ drop n (take (n + m) xs)
take-moved n m xs within =
    let same : n + m - n ≡ m = omega arith in
    let long : length (take m (drop n xs)) ≡ m = simp (length-take, length-drop) (omega arith) in
    rw (drop-take n m xs, same) (take-front (take m (drop n xs)) (drop (0 + m) xs) m long)

-- a front that is moved down by n
pub take-copy_within : (n len : ℕ) (xs : List ℕ) → n ≤ len → len ≤ length xs → take (len - n) (copy_within xs n len 0) ≡ drop n (take len xs)
take-copy_within n len xs below within =
    let split : len ≡ n + (len - n) = omega arith in
    let P : ℕ → Type 0 = λ l. take (len - n) (copy_within xs n l 0) ≡ drop n (take l xs) in
    subst P (sym split) (take-moved n (len - n) xs (omega arith))

-- bytes written after a front of `len` bytes, where at most `room` are stored
pub take-pushed : (room len more : ℕ) (xs bytes : List ℕ) → length xs ≡ room → min (len + more) room ≤ min len room + length bytes
    → take (len + more) (take (min len room) xs ++ take (min more (room - min len room)) bytes
    ++ drop (min len room + length (take (min more (room - min len room)) bytes)) xs) ≡ take room (take len xs ++ take more bytes)
take-pushed room len more xs bytes whole covers = grind (arith, elements)

-- what a header stores of a prefix that it stores already
pub front_of-stored : (room len : ℕ) (stored : List ℕ) → length stored ≡ min len room → front_of room stored len ≡ stored
front_of-stored room len stored e = grind (arith, common_steps, take_all)

pub ruleset fronts = (front_of-stored)

agreeing-none : (prefix rest : List ℕ) → length rest ≤ 0 → agreeing prefix rest ≡ 0
agreeing-none [] rest h = refl
agreeing-none (x ∷ prefix) [] h = refl
agreeing-none (x ∷ prefix) (y ∷ rest) h = absurd (omega (arith, h))

-- nothing agrees past the end of the key
pub agreeing-end : (prefix rest : List ℕ) (at : ℕ) → length rest ≤ at → agreeing (drop at prefix) (drop at rest) ≡ 0
agreeing-end prefix rest at h = agreeing-none (drop at prefix) (drop at rest) (simp length-drop (omega arith))

pub ruleset agreements = (agreeing-end)

word : (n : ℕ) (xs ys : List ℕ) → take n xs ≡ take n ys → n ≤ length xs → n + agreeing (drop n xs) (drop n ys) ≡ agreeing xs ys
word zero xs ys same within = omega arith
word (suc n) [] ys same within = absurd (omega (arith, within))
word (suc n) (x ∷ xs) [] same within = absurd cc
word (suc n) (x ∷ xs) (y ∷ ys) same within = elim (eqb_tells x y) [
  | inl yes_it ↦
      let rest = word n xs ys (ap (λ l. drop 1 l) same) (omega (arith, within)) in
      rw yes_it.0 (omega (arith, rest))
  | inr no_it ↦ absurd (no_it.1 (ap (λ l. get_or l 0 0) same))
]

-- so many bytes that are equal agree
pub agreeing-word : (n at : ℕ) (prefix rest : List ℕ) → take n (drop at prefix) ≡ take n (drop at rest) → at + n ≤ length prefix → n + agreeing (drop (at + n) prefix) (drop (at + n) rest) ≡ agreeing (drop at prefix) (drop at rest)
agreeing-word n at prefix rest same within = rw (← drop-drop n at prefix, ← drop-drop n at rest) (word n (drop at prefix) (drop at rest) same (simp length-drop (omega (arith, within))))
