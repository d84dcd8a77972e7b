-- Worked examples of the words on byte strings, computed by the checker.
use Rattle.std.proofs.Common.{◌≡◌, ℕ, List, [], ◌∷◌, true, false, refl, inl, inr, lit<}
use Rattle.std.specs.declared.cmp.Ordering.TheVariants.{Less}
use Rattle.art_bytes.proofs.Terms.{bytes_cmp, is_below, is_proper_front, conflicts, BeginsWith, IsProperFront, IsBefore, common_prefix, shared_prefix, agreeing}

-- the first pair of different bytes decides, however long the keys are
first_difference : bytes_cmp (1 ∷ 2 ∷ 255 ∷ []) (1 ∷ 3 ∷ []) ≡ Less
first_difference = refl

-- a front comes before what it begins, and no bytes before any
front_first : bytes_cmp (1 ∷ 2 ∷ []) (1 ∷ 2 ∷ 0 ∷ []) ≡ Less
front_first = refl

none_first : is_below [] (0 ∷ []) ≡ true
none_first = refl

not_below_itself : is_below (7 ∷ []) (7 ∷ []) ≡ false
not_below_itself = refl

-- a key is a front of itself, but no proper one, and in no conflict with itself
own_front : BeginsWith (1 ∷ 2 ∷ []) (1 ∷ 2 ∷ [])
own_front = ([], refl)

no_proper_front : is_proper_front (1 ∷ 2 ∷ []) (1 ∷ 2 ∷ []) ≡ false
no_proper_front = refl

no_own_conflict : conflicts (1 ∷ 2 ∷ []) (1 ∷ 2 ∷ []) ≡ false
no_own_conflict = refl

-- 10 and 10 11 are in conflict, whichever is named first
proper_front : IsProperFront (10 ∷ []) (10 ∷ 11 ∷ [])
proper_front = (11, [], refl)

conflict : conflicts (10 ∷ []) (10 ∷ 11 ∷ []) ≡ true
conflict = refl

conflict_turned : conflicts (10 ∷ 11 ∷ []) (10 ∷ []) ≡ true
conflict_turned = refl

-- 10 11 and 10 12 diverge at their second byte, and agree on one
diverging : IsBefore (10 ∷ 11 ∷ []) (10 ∷ 12 ∷ [])
diverging = inr (refl, inl (lit< tt))

one_agrees : agreeing (10 ∷ 11 ∷ []) (10 ∷ 12 ∷ []) ≡ 1
one_agrees = refl

common_to_two : common_prefix (10 ∷ 11 ∷ 5 ∷ []) (10 ∷ 11 ∷ 6 ∷ 7 ∷ []) ≡ 10 ∷ 11 ∷ []
common_to_two = refl

-- the longest common prefix of three keys, of one key, and of none
abbrev key : List ℕ → List ℕ
key k = k

common_to_three : shared_prefix key ((10 ∷ 11 ∷ 5 ∷ []) ∷ (10 ∷ 11 ∷ 6 ∷ []) ∷ (10 ∷ 12 ∷ []) ∷ []) ≡ 10 ∷ []
common_to_three = refl

common_to_one : shared_prefix key ((10 ∷ 11 ∷ []) ∷ []) ≡ 10 ∷ 11 ∷ []
common_to_one = refl

common_to_none : shared_prefix key [] ≡ []
common_to_none = refl
