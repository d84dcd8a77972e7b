-- Decimal digits that a text begins with.
use Rattle.std.specs.Prelude.{◌≡◌, ℕ, ◌+◌, ◌*◌, ◌%◌, ◌<◌, ◌≤◌, List, [], ◌∷◌, length, take, slice_index}
use Rattle.std.specs.Str.Parse.{digits_value}

-- a byte is a digit; and a digit stands at a place
abbrev pub IsDigit : ℕ → Type 0
IsDigit byte = (48 ≤ byte) × (byte ≤ 57)

abbrev pub IsDigitAt : List ℕ → ℕ → Type 0
IsDigitAt text at = (at < length text) × IsDigit (slice_index text at)

-- The first so many bytes of a text are digits, and show this number.
pub record AreFirstDigits (text : List ℕ) (len number : ℕ) : Type 0 where
  pub within : len ≤ length text
  pub digits : (k : ℕ) → k < len → IsDigitAt text k
  pub shown : digits_value 10 (take len text) ≡ number

-- what digits with these values show, two by two
abbrev pub pairs_shown : List ℕ → List ℕ
pairs_shown (ten ∷ one ∷ values) = (ten * 10 + one) % 256 ∷ pairs_shown values
pairs_shown values = []
