-- Lemmas on places: children within bounds as a part of all, also of bytes and names side by side.
use Rattle.std.proofs.Common.{◌≡◌, ℕ, zero, suc, ◌+◌, ◌-◌, ◌<◌, ◌≤◌, nat_le, nat_lt, List, [], ◌∷◌, ◌++◌, get_or, length, take, drop, refl, ap, sym, ◌∙◌, inl, inr, arith, length-drop}
use Rattle.std.proofs.lemmas.List.{length-take, take_all, take_more, drop_more, get_or-drop}
use Rattle.std.specs.List.{zip}
use Rattle.std.specs.Range.Bound.{start_index, end_index}
use Rattle.std.specs.declared.ops.Bound.{Bound}
use Rattle.std.specs.declared.ops.Bound.TheVariants.{Included, Excluded, Unbounded}
use Rattle.std.proofs.lemmas.Bool.Decides.{leb_tells, nat_tests}
use Rattle.art_nodes.proofs.Terms.{IsAscendingFrom, is_from, is_to, children_between, AreValidBounds, place, children_within, bytes_within, IsFirstFrom, IsLastBelow, bytes_of}

pub place-le : (ks : List ℕ) (from to : ℕ) → from ≤ to → place ks from ≤ place ks to
place-le [] from to h = omega arith
place-le (k ∷ ks) from to h = elim (leb_tells (suc k) from) [
  | inl below ↦ elim (leb_tells (suc k) to) [
    | inl below_to ↦ rw (below.0, below_to.0) (omega (arith, place-le ks from to h))
    | inr past ↦ absurd (omega (arith, past.1, below.1))
  ]
  | inr above ↦ rw above.0 (omega arith)
]

pub place-within : (ks : List ℕ) (bound : ℕ) → place ks bound ≤ length ks
place-within [] bound = omega arith
place-within (k ∷ ks) bound = elim (leb_tells (suc k) bound) [
  | inl below ↦ rw below.0 (omega (arith, place-within ks bound))
  | inr above ↦ rw above.0 (omega arith)
]

-- so many bytes come from one bound up to another
pub length-within : (ks : List ℕ) (from to : ℕ) → length (bytes_within from to ks) ≡ place ks to - place ks from
length-within ks from to = simp (length-take, length-drop) (omega (arith, place-within ks to))

-- the bytes within bounds, without their first and without their last
pub next-within : (ks : List ℕ) (from to byte : ℕ) → IsFirstFrom ks from byte → 0 < length (bytes_within from to ks) → bytes_within from to ks ≡ byte ∷ bytes_within (byte + 1) to ks
next-within ks from to byte is some =
    let at = place ks from in
    let up : place ks (byte + 1) ≡ at + 1 = omega (arith, is.after) in
    let more : place ks to - at ≡ suc (place ks to - (at + 1)) = omega (arith, some, length-within ks from to) in
    let first : drop at ks ≡ byte ∷ drop (at + 1) ks = drop_more ks at 0 is.stands.within ∙ ap (λ b. b ∷ drop (at + 1) ks) is.stands.here in
    rw (up, more, first) refl

pub last-within : (ks : List ℕ) (from to byte : ℕ) → IsLastBelow ks to byte → 0 < length (bytes_within from to ks) → bytes_within from to ks ≡ bytes_within from byte ks ++ byte ∷ []
last-within ks from to byte is some =
    let at = place ks from in
    let m = place ks byte - at in
    let few : at ≤ place ks byte = omega (arith, some, length-within ks from to, is.before) in
    let more : place ks to - at ≡ m + 1 = omega (arith, few, is.before) in
    let within : m < length (drop at ks) = omega (arith, length-drop at ks, few, is.stands.within) in
    let whole : at + m ≡ place ks byte = omega (arith, few) in
    let last : get_or (drop at ks) m 0 ≡ byte = get_or-drop at ks m 0 ∙ ap (λ i. get_or ks i 0) whole ∙ is.stands.here in
    ap (λ n. take n (drop at ks)) more ∙ take_more (drop at ks) m 0 within ∙ ap (λ b. take m (drop at ks) ++ b ∷ []) last

pub ruleset places = (place-le, place-within)

-- no byte comes before the first of all
place-zero : (ks : List ℕ) → place ks 0 ≡ 0
place-zero [] = refl
place-zero (k ∷ ks) = elim (leb_tells (suc k) 0) [ inl yes_it ↦ absurd (omega (arith, yes_it.1)) | inr no_it ↦ rw no_it.0 refl ]

module _ {N : Type 0} where
  -- a bound before all children has the first place
  place-before : (low bound : ℕ) (cs : List (ℕ × N)) → bound ≤ low → IsAscendingFrom low cs → place (bytes_of cs) bound ≡ 0
  place-before low bound [] before rises = refl
  place-before low bound (c ∷ cs) before rises = elim (leb_tells (suc c.0) bound) [
    | inl below ↦ absurd (omega (arith, below.1, rises.0))
    | inr above ↦ rw above.0 refl
  ]

  -- the children within bounds are those between the bounds' places
  pub within-part : (low from to : ℕ) (cs : List (ℕ × N)) → from ≤ to → IsAscendingFrom low cs → children_within from to cs ≡ take (place (bytes_of cs) to - place (bytes_of cs) from) (drop (place (bytes_of cs) from) cs)
  within-part low from to [] forward rises = refl
  within-part low from to (c ∷ cs) forward rises =
      let ks = bytes_of cs in
      let rest = within-part (c.0 + 1) from to cs forward rises.2 in
      elim (leb_tells (suc c.0) from) [
        | inl below ↦ elim (leb_tells from c.0) [
          | inl yes_it ↦ absurd (omega (arith, yes_it.1, below.1))
          | inr no_it ↦ elim (leb_tells (suc c.0) to) [
            | inl below_to ↦ let e : suc (place ks to) - suc (place ks from) ≡ place ks to - place ks from = omega arith in rw (below.0, no_it.0, below_to.0, e) rest
            | inr past ↦ absurd (omega (arith, past.1, below.1))
          ]
        ]
        | inr above ↦ elim (leb_tells from c.0) [
          | inl yes_it ↦
              let none : place ks from ≡ 0 = place-before (c.0 + 1) from cs (omega (arith, yes_it.1)) rises.2 in
              elim (leb_tells (suc c.0) to) [
                | inl below_to ↦
                    let e : suc (place ks to) - 0 ≡ suc (place ks to - 0) = omega arith in
                    rw (above.0, yes_it.0, below_to.0, e) (ap (λ ds. c ∷ ds) (rw none at rest))
                | inr past ↦
                    let nothing : place ks to ≡ 0 = place-before (c.0 + 1) to cs (omega (arith, past.1)) rises.2 in
                    rw (above.0, yes_it.0, past.0) (rw (none, nothing) at rest)
              ]
          | inr no_it ↦ absurd (omega (arith, no_it.1, above.1))
        ]
      ]

  -- all ascending bytes come before the end of all bytes
  pub place-all : (low : ℕ) (ks : List ℕ) (ns : List N) → length ks ≡ length ns → IsAscendingFrom low (zip ks ns) → place ks 256 ≡ length ks
  place-all low [] ns e rises = refl
  place-all low (k ∷ ks) [] e rises = absurd (omega arith)
  place-all low (k ∷ ks) (n ∷ ns) e rises = elim (leb_tells (suc k) 256) [
    | inl below ↦ rw below.0 (ap suc (place-all (k + 1) ks ns (omega arith) rises.2))
    | inr past ↦ absurd (omega (arith, past.1, rises.1))
  ]

  -- all of them are within all bounds
  pub all_within : (ks : List ℕ) (ns : List N) → length ks ≡ length ns → IsAscendingFrom 0 (zip ks ns) → bytes_within 0 256 ks ≡ ks
  all_within ks ns e rises = let none = place-zero ks in let all = place-all 0 ks ns e rises in let from : length ks - 0 ≡ length ks = omega arith in rw (all, none, from) (take_all (length ks) ks (omega arith))

  bytes_of-zip : (ks : List ℕ) (ns : List N) → length ks ≡ length ns → bytes_of (zip ks ns) ≡ ks
  bytes_of-zip [] ns e = refl
  bytes_of-zip (k ∷ ks) [] e = absurd (omega arith)
  bytes_of-zip (k ∷ ks) (n ∷ ns) e = ap (λ ls. k ∷ ls) (bytes_of-zip ks ns (omega arith))

  drop-zip : (i : ℕ) (ks : List ℕ) (ns : List N) → length ks ≡ length ns → drop i (zip ks ns) ≡ zip (drop i ks) (drop i ns)
  drop-zip zero ks ns e = refl
  drop-zip (suc i) [] [] e = refl
  drop-zip (suc i) [] (n ∷ ns) e = absurd (omega arith)
  drop-zip (suc i) (k ∷ ks) [] e = absurd (omega arith)
  drop-zip (suc i) (k ∷ ks) (n ∷ ns) e = drop-zip i ks ns (omega arith)

  take-zip : (i : ℕ) (ks : List ℕ) (ns : List N) → take i (zip ks ns) ≡ zip (take i ks) (take i ns)
  take-zip zero ks ns = refl
  take-zip (suc i) [] ns = refl
  take-zip (suc i) (k ∷ ks) [] = refl
  take-zip (suc i) (k ∷ ks) (n ∷ ns) = ap (λ cs. (k, n) ∷ cs) (take-zip i ks ns)

  -- the children of bytes and names side by side within bounds are a part of both
  pub within-zip : (from to : ℕ) (ks : List ℕ) (ns : List N) → length ks ≡ length ns → from ≤ to → IsAscendingFrom 0 (zip ks ns) → zip (take (place ks to - place ks from) (drop (place ks from) ks)) (take (place ks to - place ks from) (drop (place ks from) ns)) ≡ children_within from to (zip ks ns)
  within-zip from to ks ns e forward rises =
      let n = place ks to - place ks from in
      let part : children_within from to (zip ks ns) ≡ take n (drop (place ks from) (zip ks ns)) = rw (bytes_of-zip ks ns e) at (within-part 0 from to (zip ks ns) forward rises) in
      sym (part ∙ ap (λ cs. take n cs) (drop-zip (place ks from) ks ns e) ∙ take-zip n (drop (place ks from) ks) (drop (place ks from) ns))

start_test : (start : Bound ℕ) (byte : ℕ) → is_from start byte ≡ nat_le (start_index start) byte
start_test (Included a) byte = refl
start_test (Excluded a) byte = grind (arith, nat_tests)
start_test Unbounded byte = grind (arith, nat_tests)

end_test : (end : Bound ℕ) (byte : ℕ) → byte < 256 → is_to end byte ≡ nat_lt byte (end_index end 256)
end_test (Included b) byte h = grind (arith, nat_tests)
end_test (Excluded b) byte h = refl
end_test Unbounded byte h = grind (arith, nat_tests)

-- the children between bounds are those from the start's first byte up to the end's last
pub children_between-within : {N : Type 0} (low : ℕ) (start end : Bound ℕ) (cs : List (ℕ × N)) → IsAscendingFrom low cs → children_between start end cs ≡ children_within (start_index start) (end_index end 256) cs
children_between-within low start end [] rises = refl
children_between-within low start end (c ∷ cs) rises =
    rw (start_test start c.0, end_test end c.0 rises.1, children_between-within (c.0 + 1) start end cs rises.2) refl

pub valid-forward : (start end : Bound ℕ) → AreValidBounds start end → start_index start ≤ 256 → start_index start ≤ end_index end 256
valid-forward (Included a) (Included b) h fits = omega (arith, h)
valid-forward (Included a) (Excluded b) h fits = h
valid-forward (Included a) Unbounded h fits = fits
valid-forward (Excluded a) (Included b) h fits = omega (arith, h)
valid-forward (Excluded a) (Excluded b) h fits = omega (arith, h)
valid-forward (Excluded a) Unbounded h fits = fits
valid-forward Unbounded end h fits = omega arith
