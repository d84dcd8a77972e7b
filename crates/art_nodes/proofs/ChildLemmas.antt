-- Lemmas on children as bytes and names side by side, by ascending byte.
use Rattle.std.proofs.Common.{◌≡◌, ℕ, suc, ◌+◌, ◌<◌, ◌≤◌, ◌==◌, ◌≢◌, slice_get, slice_set, slice_index, IsTrue, List, [], ◌∷◌, ◌++◌, length, take, drop, Some, None, refl, ap, inl, inr, arith}
use Rattle.std.specs.List.{zip, insert, remove}
use Rattle.art_nodes.proofs.Terms.{IsAscendingFrom, child_at, with_child, without_child, last_child, names_of, place}
use Rattle.std.proofs.lemmas.List.{length-drop, length-take}
use Rattle.std.proofs.lemmas.Bool.Decides.{eqb_tells, leb_tells, nat_tests}

-- a test that answers whether two numbers are equal
pub is_true-eq : (a b : ℕ) → (IsTrue (a == b) → a ≡ b) × (a ≡ b → IsTrue (a == b))
is_true-eq a b = (λ h. grind (arith, nat_tests, h), λ h. grind (arith, nat_tests, h))

pub last_child-snoc : {N : Type 0} (cs : List (ℕ × N)) (c : ℕ × N) → last_child (cs ++ c ∷ []) ≡ Some c
last_child-snoc [] c = refl
last_child-snoc (d ∷ []) c = refl
last_child-snoc (d ∷ e ∷ cs) c = last_child-snoc (e ∷ cs) c

pub zip-snoc : {A B : Type 0} (xs : List A) (ys : List B) (a : A) (b : B) → length xs ≡ length ys → zip (xs ++ a ∷ []) (ys ++ b ∷ []) ≡ zip xs ys ++ (a, b) ∷ []
zip-snoc [] [] a b e = refl
zip-snoc [] (y ∷ ys) a b e = absurd (omega arith)
zip-snoc (x ∷ xs) [] a b e = absurd (omega arith)
zip-snoc (x ∷ xs) (y ∷ ys) a b e = ap (λ cs. (x, y) ∷ cs) (zip-snoc xs ys a b (omega arith))

-- parts of lists of one length
pub length-part : {A B : Type 0} (n m : ℕ) (xs : List A) (ys : List B) → length xs ≡ length ys → length (take n (drop m xs)) ≡ length (take n (drop m ys))
length-part n m xs ys same = simp (length-take, length-drop) (omega (arith, same))

-- the names beside bytes
pub names_of-zip : {N : Type 0} (keys : List ℕ) (names : List N) → length keys ≡ length names → names_of (zip keys names) ≡ names
names_of-zip [] [] same = refl
names_of-zip [] (n ∷ names) same = absurd (omega arith)
names_of-zip (k ∷ keys) [] same = absurd (omega arith)
names_of-zip (k ∷ keys) (n ∷ names) same = ap (λ ns. n ∷ ns) (names_of-zip keys names (omega arith))

pub length-zip_same : {A B : Type 0} (xs : List A) (ys : List B) → length xs ≡ length ys → length (zip xs ys) ≡ length xs
length-zip_same [] ys e = refl
length-zip_same (x ∷ xs) [] e = absurd (omega arith)
length-zip_same (x ∷ xs) (y ∷ ys) e = ap (λ n. suc n) (length-zip_same xs ys (omega arith))

pub ruleset lasts = (last_child-snoc)

pub ruleset zips = (zip-snoc, length-zip_same)

module _ {N : Type 0} where
  pub IsAscendingFrom-with_child : (low : ℕ) (cs : List (ℕ × N)) (byte : ℕ) (name : N) → low ≤ byte → byte < 256 → IsAscendingFrom low cs → IsAscendingFrom low (with_child cs byte name)
  IsAscendingFrom-with_child low [] byte name above fits rises = (above, fits, tt)
  IsAscendingFrom-with_child low (c ∷ rest) byte name above fits rises =
      let later : c.0 < byte → IsAscendingFrom (c.0 + 1) (with_child rest byte name) = λ below. IsAscendingFrom-with_child (c.0 + 1) rest byte name (omega arith) fits rises.2 in
      elim (leb_tells (suc c.0) byte) [
        | inl below ↦ rw below.0 (rises.0, rises.1, later below.1)
        | inr above_it ↦ elim (eqb_tells c.0 byte) [
          | inl same ↦ rw (above_it.0, same.0) (above, fits, rw same.1 at rises.2)
          | inr other ↦ let less : byte + 1 ≤ c.0 = omega (arith, other.1, above_it.1) in rw (above_it.0, other.0) (above, fits, (less, rises.1, rises.2))
        ]
      ]

  pub IsAscendingFrom-lower : (low more : ℕ) (cs : List (ℕ × N)) → low ≤ more → IsAscendingFrom more cs → IsAscendingFrom low cs
  IsAscendingFrom-lower low more [] h rises = tt
  IsAscendingFrom-lower low more (c ∷ cs) h rises = (omega (arith, rises.0), rises.1, rises.2)

  pub IsAscendingFrom-without_child : (low : ℕ) (cs : List (ℕ × N)) (byte : ℕ) → IsAscendingFrom low cs → IsAscendingFrom low (without_child cs byte)
  IsAscendingFrom-without_child low [] byte rises = tt
  IsAscendingFrom-without_child low (c ∷ rest) byte rises = elim (eqb_tells c.0 byte) [
    | inl same ↦ rw same.0 (IsAscendingFrom-lower low (c.0 + 1) rest (omega (arith, rises.0)) rises.2)
    | inr other ↦ rw other.0 (rises.0, rises.1, IsAscendingFrom-without_child (c.0 + 1) rest byte rises.2)
  ]

  pub child_at-above : (low : ℕ) (cs : List (ℕ × N)) (byte : ℕ) → byte < low → IsAscendingFrom low cs → child_at cs byte ≡ None
  child_at-above low [] byte lt rises = refl
  child_at-above low (c ∷ rest) byte lt rises = elim (eqb_tells c.0 byte) [
    | inl same ↦ absurd (omega (arith, same.1, rises.0))
    | inr other ↦ rw other.0 (child_at-above (c.0 + 1) rest byte (omega (arith, rises.0, lt)) rises.2)
  ]

  pub without_child-above : (low : ℕ) (cs : List (ℕ × N)) (byte : ℕ) → byte < low → IsAscendingFrom low cs → without_child cs byte ≡ cs
  without_child-above low [] byte lt rises = refl
  without_child-above low (c ∷ rest) byte lt rises = elim (eqb_tells c.0 byte) [
    | inl same ↦ absurd (omega (arith, same.1, rises.0))
    | inr other ↦ rw other.0 (ap (λ cs. c ∷ cs) (without_child-above (c.0 + 1) rest byte (omega (arith, rises.0, lt)) rises.2))
  ]

  -- what the map says of a byte that stands among the bytes
  pub record StandsAmong (keys : List ℕ) (names : List N) (byte : ℕ) : Type 0 where
    pub found : child_at (zip keys names) byte ≡ slice_get names (place keys byte)
    pub written : (name : N) → with_child (zip keys names) byte name ≡ zip keys (slice_set names (place keys byte) name)
    pub removed : without_child (zip keys names) byte ≡ zip (remove keys (place keys byte)) (remove names (place keys byte))

  pub held : (low : ℕ) (keys : List ℕ) (names : List N) (byte : ℕ) → length keys ≡ length names → IsAscendingFrom low (zip keys names) → place keys byte < length keys → slice_index keys (place keys byte) ≡ byte → StandsAmong keys names byte
  held low [] names byte same rises within here = absurd (omega (arith, within))
  held low (k ∷ keys) [] byte same rises within here = absurd (omega arith)
  held low (k ∷ keys) (n ∷ names) byte same rises within here = elim (leb_tells (suc k) byte) [
    | inl below ↦ elim (eqb_tells k byte) [
      | inl equal ↦ absurd (omega (arith, below.1, equal.1))
      | inr other ↦
          let later = held (k + 1) keys names byte (omega arith) rises.2 (let w = rw below.0 at within in omega (arith, w)) (rw below.0 at here) in
          record {
            found = rw (below.0, other.0) later.found;
            written = λ name. rw below.0 (ap (λ cs. (k, n) ∷ cs) (later.written name));
            removed = rw (below.0, other.0) (ap (λ cs. (k, n) ∷ cs) later.removed);
          }
    ]
    | inr above ↦
        let equal : k ≡ byte = rw above.0 at here in
        elim (eqb_tells k byte) [
          | inl yes_it ↦ record {
            found = rw (above.0, yes_it.0) refl;
            written = λ name. rw (above.0, yes_it.0, equal) refl;
            removed = rw (above.0, yes_it.0) refl;
          }
          | inr other ↦ absurd (other.1 equal)
        ]
  ]

  -- what the map says of a byte that doesn't
  pub record Absent (keys : List ℕ) (names : List N) (byte : ℕ) : Type 0 where
    pub found : child_at (zip keys names) byte ≡ None
    pub written : (name : N) → with_child (zip keys names) byte name ≡ zip (insert keys (place keys byte) byte) (insert names (place keys byte) name)
    pub removed : without_child (zip keys names) byte ≡ zip keys names

  pub absent : (low : ℕ) (keys : List ℕ) (names : List N) (byte : ℕ) → length keys ≡ length names → IsAscendingFrom low (zip keys names) → (place keys byte < length keys → slice_index keys (place keys byte) ≢ byte) → Absent keys names byte
  absent low [] [] byte same rises apart = record { found = refl; written = λ name. refl; removed = refl }
  absent low [] (n ∷ names) byte same rises apart = absurd (omega arith)
  absent low (k ∷ keys) [] byte same rises apart = absurd (omega arith)
  absent low (k ∷ keys) (n ∷ names) byte same rises apart = elim (leb_tells (suc k) byte) [
    | inl below ↦ elim (eqb_tells k byte) [
      | inl equal ↦ absurd (omega (arith, below.1, equal.1))
      | inr other ↦
          let further : place keys byte < length keys → slice_index keys (place keys byte) ≢ byte = λ w. (rw below.0 at apart) (omega (arith, w)) in
          let later = absent (k + 1) keys names byte (omega arith) rises.2 further in
          record {
            found = rw other.0 later.found;
            written = λ name. rw below.0 (ap (λ cs. (k, n) ∷ cs) (later.written name));
            removed = rw other.0 (ap (λ cs. (k, n) ∷ cs) later.removed);
          }
    ]
    | inr above ↦ elim (eqb_tells k byte) [
      | inl equal ↦ absurd ((rw above.0 at apart) (omega arith) equal.1)
      | inr other ↦
          let low_it : byte < k + 1 = omega (arith, above.1) in
          record {
            found = rw other.0 (child_at-above (k + 1) (zip keys names) byte low_it rises.2);
            written = λ name. rw (above.0, other.0) refl;
            removed = rw other.0 (ap (λ cs. (k, n) ∷ cs) (without_child-above (k + 1) (zip keys names) byte low_it rises.2));
          }
    ]
  ]

  -- there are no more children than bytes
  pub length-ascending : (low : ℕ) (cs : List (ℕ × N)) → low ≤ 256 → IsAscendingFrom low cs → length cs + low ≤ 256
  length-ascending low [] h rises = omega arith
  length-ascending low (c ∷ cs) h rises = omega (arith, rises.0, rises.1, length-ascending (c.0 + 1) cs (omega (arith, rises.1)) rises.2)

  pub without_child-none : (cs : List (ℕ × N)) (byte : ℕ) → child_at cs byte ≡ None → without_child cs byte ≡ cs
  without_child-none [] byte none = refl
  without_child-none (c ∷ cs) byte none = elim (eqb_tells c.0 byte) [
    | inl same ↦ absurd (let e = rw same.0 at none in cc)
    | inr other ↦ rw other.0 (ap (λ ds. c ∷ ds) (without_child-none cs byte (rw other.0 at none)))
  ]

  -- a child after all others
  low-le : (low : ℕ) (ys rest : List (ℕ × N)) (byte : ℕ) (name : N) → IsAscendingFrom low (ys ++ (byte, name) ∷ rest) → low ≤ byte
  low-le low [] rest byte name rises = rises.0
  low-le low (c ∷ ys) rest byte name rises = omega (arith, rises.0, low-le (c.0 + 1) ys rest byte name rises.2)

  pub with_child-after : (low : ℕ) (ys rest : List (ℕ × N)) (byte : ℕ) (name : N) → IsAscendingFrom low (ys ++ (byte, name) ∷ rest) → with_child ys byte name ≡ ys ++ (byte, name) ∷ []
  with_child-after low [] rest byte name rises = refl
  with_child-after low (c ∷ ys) rest byte name rises = elim (leb_tells (suc c.0) byte) [
    | inl below ↦ rw below.0 (ap (λ cs. c ∷ cs) (with_child-after (c.0 + 1) ys rest byte name rises.2))
    | inr above ↦ absurd (omega (arith, above.1, low-le (c.0 + 1) ys rest byte name rises.2))
  ]
