-- Lemmas on rows: items in the first places of an array, and searches that compare all bytes of one at once.
use Rattle.std.proofs.Common.{◌≡◌, ℕ, zero, suc, ◌+◌, ◌-◌, ◌<◌, ◌≤◌, ◌%◌, ◌^◌, min, leb, replicate, Bool, true, false, not, cond, List, [], ◌∷◌, ◌++◌, map, length, take, drop, w64, refl, sym, ap, ap₂, ◌∙◌, get_or, slice_get, slice_set, Some, arith, inl, inr}
use Rattle.std.specs.Int.{trailing_zeros}
use Rattle.std.specs.List.{insert, remove, copy_within, prefix_len, refill}
use Rattle.std.proofs.lemmas.Bool.{cases_eq}
use Rattle.std.proofs.lemmas.Bool.Decides.{leb_tells}
use Rattle.std.proofs.lemmas.List.{append_assoc, drop_at, length-append, length-drop, length-map, length-take, length-take-le, set_at, take_all, take_at, take-take, take_more}
use lib.Seq.{get_or-take, take-add, take-paste, take-set-lt}
use Rattle.std.proofs.lemmas.Option.{slice_get_read}
use Rattle.std.proofs.lemmas.Simd.{leading_from_mask_l, trailing_mask_l, tops_compared, splat_is_map, mask_l-mod}
use lib.Lanes.{mask_l, zip2, top}
use mir.Syntax.{Width}
use mir.Val.{bits, hbits}
use lib.Count.{count_trailing_zeros}
use Rattle.art_nodes.proofs.Terms.{place}

-- a word without a bit has 64 zeros
no_bit : trailing_zeros w64 0 ≡ 64
unfolding count_trailing_zeros
no_bit = refl

more : (b : Bool) (whole part n : ℕ) → part ≡ min whole n → cond b (1 + part) 0 ≡ min (cond b (1 + whole) 0) (suc n)
more true whole part n is = omega (arith, is)
more false whole part n is = omega arith

-- as many of the first n pass as pass at all, or n
prefix_len-take : {X : Type 0} (p : X → Bool) (xs : List X) (n : ℕ) → n ≤ length xs → prefix_len p (take n xs) ≡ min (prefix_len p xs) n
prefix_len-take p xs zero le = omega arith
prefix_len-take p [] (suc n) le = absurd (omega (arith, le))
prefix_len-take p (x ∷ xs) (suc n) le = more (p x) (prefix_len p xs) (prefix_len p (take n xs)) n (prefix_len-take p xs n (omega (arith, le)))

-- before the lowest bit that is set, of those in use
pub before_lowest : {X : Type 0} (t : X → Bool) (xs : List X) (used : ℕ) → length xs ≤ 64 → used ≤ length xs → min (trailing_zeros w64 (mask_l (map t xs))) used ≡ prefix_len (λ x. not (t x)) (take used xs)
before_lowest t xs used few le =
    let cut = prefix_len-take (λ x. not (t x)) xs used le in
    elim (cases_eq (mask_l (map t xs)) 0) [
      | inl none ↦
          let all = leading_from_mask_l t xs none in
          let zeros : trailing_zeros w64 (mask_l (map t xs)) ≡ 64 = ap (trailing_zeros w64) none ∙ no_bit in
          omega (arith, cut, all, zeros)
      | inr some ↦
          let first : trailing_zeros w64 (mask_l (map t xs)) ≡ prefix_len (λ x. not (t x)) xs = trailing_mask_l t 64 xs few (omega (arith, some)) in
          omega (arith, cut, first)
    ]

one_more : (n : ℕ) → 1 + n ≡ suc n
one_more n = omega arith

-- how many ascending bytes come before the first that isn't below the bound
pub place_is : (bound : ℕ) (keys : List ℕ) → prefix_len (λ key. not (leb bound key)) keys ≡ place keys bound
place_is bound [] = refl
place_is bound (key ∷ keys) = elim (leb_tells (suc key) bound) [
  | inl below ↦ elim (leb_tells bound key) [
    | inl yes_it ↦ absurd (omega (arith, below.1, yes_it.1))
    | inr no_it ↦ rw (no_it.0, below.0) (ap (λ n. 1 + n) (place_is bound keys) ∙ one_more (place keys bound))
  ]
  | inr above ↦ elim (leb_tells bound key) [
    | inl yes_it ↦ rw (yes_it.0, above.0) refl
    | inr no_it ↦ absurd (omega (arith, above.1, no_it.1))
  ]
]

-- a comparison of a splat with each lane
splat_left : (t : ℕ → ℕ → Bool) (xs : List ℕ) (y : ℕ) → zip2 t (map (λ _. y) xs) xs ≡ map (t y) xs
splat_left t [] y = refl
splat_left t (x ∷ xs) y = ap (λ rest. t y x ∷ rest) (splat_left t xs y)

-- `to_bitmask` of the comparison of a splat with a vector
pub bitmask_of_splat : (w : Width) (t : ℕ → ℕ → Bool) (xs : List ℕ) (n y : ℕ) → length xs ≡ n → n ≤ 64 → mask_l (map (top (hbits w)) (zip2 (λ a b. cond (t a b) (2 ^ bits w - 1) 0) (replicate n y) xs)) % 2 ^ 64 ≡ mask_l (map (t y) xs)
bitmask_of_splat w t xs n y long few =
    let lanes = tops_compared w t (replicate n y) xs ∙ ap (λ (ys : List ℕ). zip2 t ys xs) (splat_is_map xs n y long) ∙ splat_left t xs y in
    ap (λ ms. mask_l ms % 2 ^ 64) lanes ∙ mask_l-mod (map (t y) xs) 64 (omega (arith, long, few, length-map xs (t y)))

module _ {X : Type 0} (xs : List X) (at used : ℕ) where
  till : at ≤ used → used ≡ at + (used - at)
  till le = omega (arith, le)

  -- an item put in, those after its place moved up by one
  pub put_in : (x : X) → at ≤ used → used < length xs → take (used + 1) (slice_set (copy_within xs at used (at + 1)) at x) ≡ insert (take used xs) at x
  put_in x le less =
      let n = used - at in
      let front = take at xs in
      let back = take n (drop at xs) in
      let y = get_or xs at x in
      let long : length front ≡ at = length-take-le at xs (omega (arith, le, less)) in
      let moved : take (at + 1 + n) (copy_within xs at used (at + 1)) ≡ take (at + 1) xs ++ back = take-paste xs (at + 1) (drop at xs) n (omega (arith, le, less)) (omega (arith, le, less, length-drop at xs)) in
      let same : used + 1 ≡ at + 1 + n = omega (arith, le) in
      let parts : take (used + 1) (copy_within xs at used (at + 1)) ≡ front ++ y ∷ back =
      ap (λ k. take k (copy_within xs at used (at + 1))) same ∙ moved ∙ ap (λ (l : List X). l ++ back) (take_more xs at x (omega (arith, le, less))) ∙ append_assoc front (y ∷ []) back in
      let whole : take used xs ≡ front ++ back = ap (λ k. take k xs) (till le) ∙ take-add at n xs in
      let both : insert (front ++ back) at x ≡ front ++ x ∷ back = ap₂ (λ p q. p ++ x ∷ q) (take_at front back at long) (drop_at front back at long) in
      take-set-lt (used + 1) (copy_within xs at used (at + 1)) at x (omega (arith, le)) ∙ ap (λ (l : List X). slice_set l at x) parts ∙ set_at front y back x at long ∙ sym (ap (λ (l : List X). insert l at x) whole ∙ both)

  -- an item taken out, those after it moved down by one
  pub take_out : at < used → used ≤ length xs → take (used - 1) (copy_within xs (at + 1) used at) ≡ remove (take used xs) at
  take_out less le =
      let n = used - (at + 1) in
      let front = take (at + 1) xs in
      let back = take n (drop (at + 1) xs) in
      let long : length front ≡ suc at = length-take-le (at + 1) xs (omega (arith, le, less)) ∙ omega arith in
      let moved : take (at + n) (copy_within xs (at + 1) used at) ≡ take at xs ++ back = take-paste xs at (drop (at + 1) xs) n (omega (arith, le, less)) (omega (arith, le, less, length-drop (at + 1) xs)) in
      let same : used - 1 ≡ at + n = omega (arith, less) in
      let until : used ≡ at + 1 + n = omega (arith, less) in
      let whole : take used xs ≡ front ++ back = ap (λ k. take k xs) until ∙ take-add (at + 1) n xs in
      let rest : drop (suc at) (take used xs) ≡ back = ap (λ (l : List X). drop (suc at) l) whole ∙ drop_at front back (suc at) long in
      ap (λ k. take k (copy_within xs (at + 1) used at)) same ∙ moved ∙ sym (ap₂ (λ p q. p ++ q) (take-take at used xs (omega (arith, less))) rest)

-- an item in use, read from the whole row
pub read_in_use : {X : Type 0} (used : ℕ) (row : List X) (at : ℕ) (x : X) → at < length (take used row) → x ≡ get_or row at x → slice_get (take used row) at ≡ Some x
read_in_use used row at x less is =
    slice_get_read (take used row) (length (take used row)) at x refl less (is ∙ sym (get_or-take used row at x (omega (arith, less, length-take used row))))

-- a list written over as a whole
pub refilled : {X : Type 0} (xs ws : List X) → length ws ≡ length xs → refill (length xs) xs ws ≡ ws
refilled xs ws same = take_at ws (drop (length ws) xs) (length xs) same

-- a list after an item was put after it and moved to its place
pub pushed_in : {X : Type 0} (xs row : List X) (x : X) (at : ℕ) → take (length xs + 1) row ≡ insert (take (length xs) (xs ++ x ∷ [])) at x → length row ≡ length (xs ++ x ∷ []) → refill (length (xs ++ x ∷ [])) (xs ++ x ∷ []) row ≡ insert xs at x
pushed_in {X = X} xs row x at is same =
    refilled (xs ++ x ∷ []) row same ∙ sym (take_all (length xs + 1) row (omega (arith, same, length-append xs (x ∷ [])))) ∙ is ∙ ap (λ (l : List X). insert l at x) (take_at xs (x ∷ []) (length xs) refl)

-- a list after those after an item were moved over it, and the last cut off
pub taken_out : {X : Type 0} (xs row : List X) (at : ℕ) → take (length xs - 1) row ≡ remove (take (length xs) xs) at → length row ≡ length xs → take (length xs - 1) (refill (length xs) xs row) ≡ remove xs at
taken_out {X = X} xs row at is same =
    ap (λ (l : List X). take (length xs - 1) l) (refilled xs row same) ∙ is ∙ ap (λ (l : List X). remove l at) (take_all (length xs) xs (omega arith))
