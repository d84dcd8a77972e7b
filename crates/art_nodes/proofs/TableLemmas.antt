-- Lemmas on children and their bytes: an edit of the children is one of the bytes, and those within bounds are a part
-- of them, by the places of the bounds.
use Rattle.std.proofs.Common.{◌≡◌, ◌≢◌, ℕ, zero, suc, ◌+◌, ◌-◌, ◌<◌, ◌≤◌, List, [], ◌∷◌, ◌++◌, length, take, drop, get_or, slice_index, Some, None, true, false, eqb, leb, refl, ap, ap₂, sym, ◌∙◌, ◌⊎◌, inl, inr, arith}
use Rattle.std.specs.List.{insert, remove}
use Rattle.std.proofs.lemmas.Bool.Decides.{eqb_tells, leb_tells}
use Rattle.std.proofs.lemmas.List.{length-map, length-take, length-drop, take_more, drop_more, get_or-drop}
use Rattle.art_nodes.proofs.Terms.{IsAscendingFrom, child_at, with_child, without_child, place, children_within, StandsAt, BelongsAt, IsFirstFrom, IsLastBelow, bytes_of}
use Rattle.art_nodes.proofs.ChildLemmas.{child_at-above}
use Rattle.art_nodes.proofs.PlaceLemmas.{place-le, place-within, within-part}

-- what stands at a bound's place is not below the bound
place-at : (ks : List ℕ) (bound : ℕ) → place ks bound < length ks → bound ≤ slice_index ks (place ks bound)
place-at [] bound within = absurd (omega (arith, within))
place-at (k ∷ ks) bound within = elim (leb_tells (suc k) bound) [
  | inl below ↦ rw below.0 (place-at ks bound (let w = rw below.0 at within in omega (arith, w)))
  | inr above ↦ rw above.0 (omega (arith, above.1))
]

module _ {N : Type 0} where
  pub length-bytes_of : (cs : List (ℕ × N)) → length (bytes_of cs) ≡ length cs
  length-bytes_of cs = length-map cs (λ c. c.0)

  -- where a child stands under a byte of ascending children, it is the first, or stands among those after
  which : (low : ℕ) (c : ℕ × N) (cs : List (ℕ × N)) (byte : ℕ) {old : N} → IsAscendingFrom low (c ∷ cs) → child_at (c ∷ cs) byte ≡ Some old
      → ((eqb c.0 byte ≡ true) × (leb (suc c.0) byte ≡ false) × (c.0 ≡ byte) × (c.1 ≡ old)) ⊎ ((eqb c.0 byte ≡ false) × (leb (suc c.0) byte ≡ true) × (child_at cs byte ≡ Some old))
  which low c cs byte rises some = elim (eqb_tells c.0 byte) [
    | inl same ↦ elim (leb_tells (suc c.0) byte) [
      | inl below ↦ absurd (omega (arith, below.1, same.1))
      | inr above ↦ inl (same.0, above.0, same.1, (let e = rw same.0 at some in cc))
    ]
    | inr other ↦ elim (leb_tells (suc c.0) byte) [
      | inl below ↦ inr (other.0, below.0, rw other.0 at some)
      | inr above ↦ absurd (let e = child_at-above (c.0 + 1) cs byte (omega (arith, above.1, other.1)) rises.2 in let f = rw other.0 at some in cc)
    ]
  ]

  -- the bytes after an edit
  pub bytes-new : (cs : List (ℕ × N)) (byte : ℕ) (name : N) → child_at cs byte ≡ None → bytes_of (with_child cs byte name) ≡ insert (bytes_of cs) (place (bytes_of cs) byte) byte
  bytes-new [] byte name none = refl
  bytes-new (c ∷ cs) byte name none = elim (eqb_tells c.0 byte) [
    | inl same ↦ absurd (let e = rw same.0 at none in cc)
    | inr other ↦ elim (leb_tells (suc c.0) byte) [
      | inl below ↦ rw below.0 (ap (λ ks. c.0 ∷ ks) (bytes-new cs byte name (rw other.0 at none)))
      | inr above ↦ rw (above.0, other.0) refl
    ]
  ]

  pub bytes-held : (low : ℕ) (cs : List (ℕ × N)) (byte : ℕ) (name old : N) → IsAscendingFrom low cs → child_at cs byte ≡ Some old → bytes_of (with_child cs byte name) ≡ bytes_of cs
  bytes-held low [] byte name old rises some = absurd (cc)
  bytes-held low (c ∷ cs) byte name old rises some = elim (which low c cs byte rises some) [
    | inl here ↦ rw (here.1, here.0) (ap (λ k. k ∷ bytes_of cs) (sym here.2))
    | inr later ↦ rw later.1 (ap (λ ks. c.0 ∷ ks) (bytes-held (c.0 + 1) cs byte name old rises.2 later.2))
  ]

  pub bytes-removed : (low : ℕ) (cs : List (ℕ × N)) (byte : ℕ) (old : N) → IsAscendingFrom low cs → child_at cs byte ≡ Some old → bytes_of (without_child cs byte) ≡ remove (bytes_of cs) (place (bytes_of cs) byte)
  bytes-removed low [] byte old rises some = absurd (cc)
  bytes-removed low (c ∷ cs) byte old rises some = elim (which low c cs byte rises some) [
    | inl here ↦ rw (here.1, here.0) refl
    | inr later ↦ rw (later.1, later.0) (ap (λ ks. c.0 ∷ ks) (bytes-removed (c.0 + 1) cs byte old rises.2 later.2))
  ]

  -- a byte with a child stands among the bytes, and one without belongs there
  pub byte-stands : (low : ℕ) (cs : List (ℕ × N)) (byte : ℕ) (name : N) → IsAscendingFrom low cs → child_at cs byte ≡ Some name → StandsAt (bytes_of cs) byte (place (bytes_of cs) byte)
  byte-stands low [] byte name rises some = absurd (cc)
  byte-stands low (c ∷ cs) byte name rises some = elim (which low c cs byte rises some) [
    | inl here ↦ record { is_place = refl; within = rw here.1 (omega arith); here = rw here.1 here.2 }
    | inr later ↦
        let following = byte-stands (c.0 + 1) cs byte name rises.2 later.2 in
        record { is_place = refl; within = rw later.1 (omega (arith, following.within)); here = rw later.1 following.here }
  ]

  pub byte-apart : (cs : List (ℕ × N)) (byte : ℕ) → child_at cs byte ≡ None → (at : ℕ) → at < length (bytes_of cs) → slice_index (bytes_of cs) at ≢ byte
  byte-apart [] byte none at within same = absurd (omega (arith, within))
  byte-apart (c ∷ cs) byte none zero within same = elim (eqb_tells c.0 byte) [
    | inl yes_it ↦ absurd (let e = rw yes_it.0 at none in cc)
    | inr other ↦ other.1 same
  ]
  byte-apart (c ∷ cs) byte none (suc at) within same = elim (eqb_tells c.0 byte) [
    | inl yes_it ↦ absurd (let e = rw yes_it.0 at none in cc)
    | inr other ↦ byte-apart cs byte (rw other.0 at none) at (omega (arith, within)) same
  ]

  pub byte-belongs : (cs : List (ℕ × N)) (byte : ℕ) → child_at cs byte ≡ None → BelongsAt (bytes_of cs) byte (place (bytes_of cs) byte)
  byte-belongs cs byte none = record { is_place = refl; apart = byte-apart cs byte none (place (bytes_of cs) byte) }

  -- the child under a byte stands at the byte's place
  child-there : (low : ℕ) (cs : List (ℕ × N)) (byte : ℕ) (name : N) → IsAscendingFrom low cs → child_at cs byte ≡ Some name → get_or cs (place (bytes_of cs) byte) (byte, name) ≡ (byte, name)
  child-there low [] byte name rises some = refl
  child-there low (c ∷ cs) byte name rises some = elim (which low c cs byte rises some) [
    | inl here ↦ rw here.1 (ap₂ (λ b n. (b, n)) here.2 here.3)
    | inr later ↦ rw later.1 (child-there (c.0 + 1) cs byte name rises.2 later.2)
  ]

  -- all of them are within the bounds of all bytes
  pub all_within_bytes : (low : ℕ) (cs : List (ℕ × N)) → IsAscendingFrom low cs → children_within 0 256 cs ≡ cs
  all_within_bytes low [] rises = refl
  all_within_bytes low (c ∷ cs) rises = elim (leb_tells 0 c.0) [
    | inl yes_it ↦ elim (leb_tells (suc c.0) 256) [
      | inl below ↦ rw (yes_it.0, below.0) (ap (λ ds. c ∷ ds) (all_within_bytes (c.0 + 1) cs rises.2))
      | inr past ↦ absurd (omega (arith, past.1, rises.1))
    ]
    | inr no_it ↦ absurd (omega (arith, no_it.1))
  ]

  module _ (from to : ℕ) (cs : List (ℕ × N)) (forward : from ≤ to) (rises : IsAscendingFrom 0 cs) where
    abbrev bytes : List ℕ
    bytes = bytes_of cs

    pub length-children_within : length (children_within from to cs) ≡ place bytes to - place bytes from
    length-children_within = rw (within-part 0 from to cs forward rises) (simp (length-take, length-drop) (omega (arith, place-within bytes to, length-bytes_of cs)))

    -- none where the bounds have one place
    pub none_within : place bytes to ≤ place bytes from → children_within from to cs ≡ []
    none_within le = let e : place bytes to - place bytes from ≡ 0 = omega (arith, le) in rw (within-part 0 from to cs forward rises, e) refl

    pub none_from : (byte : ℕ) → IsFirstFrom bytes from byte → to ≤ byte → children_within from to cs ≡ []
    none_from byte is past = none_within (omega (arith, place-le bytes to byte past, is.stands.is_place))

    pub none_to : (byte : ℕ) → IsLastBelow bytes to byte → byte < from → children_within from to cs ≡ []
    none_to byte is before = elim (leb_tells (place bytes to) (place bytes from)) [
      | inl le ↦ none_within le.1
      | inr more ↦
          let one : place bytes from ≡ place bytes byte = omega (arith, more.1, is.before, place-le bytes byte from (omega (arith, before))) in
          let high = rw (one, is.stands.here) at (place-at bytes from (omega (arith, one, is.stands.within))) in
          absurd (omega (arith, high, before))
    ]

    -- the first and the last of them
    pub first_within : (byte : ℕ) (name : N) → IsFirstFrom bytes from byte → byte < to → child_at cs byte ≡ Some name → children_within from to cs ≡ (byte, name) ∷ children_within (byte + 1) to cs
    first_within byte name is less some =
        let at = place bytes from in
        let up : place bytes (byte + 1) ≡ at + 1 = omega (arith, is.after) in
        let more : place bytes to - at ≡ suc (place bytes to - (at + 1)) = omega (arith, up, place-le bytes (byte + 1) to (omega (arith, less))) in
        let here : get_or cs at (byte, name) ≡ (byte, name) = ap (λ i. get_or cs i (byte, name)) is.stands.is_place ∙ child-there 0 cs byte name rises some in
        let first : drop at cs ≡ (byte, name) ∷ drop (at + 1) cs = drop_more cs at (byte, name) (omega (arith, is.stands.within, length-bytes_of cs)) ∙ ap (λ c. c ∷ drop (at + 1) cs) here in
        rw (within-part 0 from to cs forward rises, within-part 0 (byte + 1) to cs (omega (arith, less)) rises, up, more, first) refl

    pub last_within : (byte : ℕ) (name : N) → IsLastBelow bytes to byte → from ≤ byte → child_at cs byte ≡ Some name → children_within from to cs ≡ children_within from byte cs ++ (byte, name) ∷ []
    last_within byte name is above some =
        let at = place bytes from in
        let m = place bytes byte - at in
        let few : at ≤ place bytes byte = place-le bytes from byte above in
        let more : place bytes to - at ≡ m + 1 = omega (arith, few, is.before) in
        let within : m < length (drop at cs) = omega (arith, length-drop at cs, few, is.stands.within, length-bytes_of cs) in
        let whole : at + m ≡ place bytes byte = omega (arith, few) in
        let last : get_or (drop at cs) m (byte, name) ≡ (byte, name) = get_or-drop at cs m (byte, name) ∙ ap (λ i. get_or cs i (byte, name)) whole ∙ child-there 0 cs byte name rises some in
        rw (within-part 0 from to cs forward rises, within-part 0 from byte cs above rises, more) (take_more (drop at cs) m (byte, name) within ∙ ap (λ c. take m (drop at cs) ++ c ∷ []) last)
