-- A proper front and a conflict of byte strings, told by their tests.
use Rattle.std.proofs.Common.{◌≡◌, ℕ, ◌<◌, true, List, [], ◌∷◌, ◌++◌, length, drop, sym, ap, ◌∙◌, inl, inr, refl}
use Rattle.std.proofs.Common.{append-nil, length-append, arith, lt-ltb}
use Rattle.std.proofs.lemmas.Bool.{ltb-true, or_left, or_right, or_cases, and_from, and_parts}
use Rattle.std.proofs.lemmas.Bool.Decides.{Decides-eqb}
use Rattle.std.proofs.lemmas.Slice.Eq.{starts_is}
use Rattle.art_bytes.proofs.Terms.{IsProperFront, Conflict, is_proper_front, conflicts}
use Rattle.art_bytes.proofs.Order.{conflict_first, conflict_second}

front_told : (k l : List ℕ) → IsProperFront k l → is_proper_front k l ≡ true
front_told k l (b, r, e) =
    let len = ap length e in
    let longer : length k < length l = omega (arith, len, length-append k (b ∷ r)) in
    and_from _ _ (lt-ltb (length k) (length l) longer) ((starts_is Decides-eqb l k _ refl).1 (b ∷ r) e)

told_front : (k l : List ℕ) → is_proper_front k l ≡ true → IsProperFront k l
told_front k l h =
    let both = and_parts _ _ h in
    following (drop (length k) l) ((starts_is Decides-eqb l k _ refl).0 both.1) (ltb-true _ _ both.0)
  where
    following : (rest : List ℕ) → l ≡ k ++ rest → length k < length l → IsProperFront k l
    following [] e longer = let len = ap length (e ∙ append-nil k) in absurd (omega (arith, len))
    following (b ∷ r) e longer = (b, r, e)

pub conflict_told : (k l : List ℕ) → Conflict k l → conflicts k l ≡ true
conflict_told k l (n, inl ([], e)) = absurd (n (sym (e ∙ append-nil k)))
conflict_told k l (n, inl (b ∷ r, e)) = or_left _ _ (front_told k l (b, r, e))
conflict_told k l (n, inr ([], e)) = absurd (n (e ∙ append-nil l))
conflict_told k l (n, inr (b ∷ r, e)) = or_right _ _ (front_told l k (b, r, e))

pub told_conflict : (k l : List ℕ) → conflicts k l ≡ true → Conflict k l
told_conflict k l h =
    elim (or_cases _ _ h) [
      | inl e ↦ conflict_first k l (told_front k l e)
      | inr e ↦ conflict_second k l (told_front l k e)
    ]
