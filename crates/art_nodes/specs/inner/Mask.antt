-- A set of bytes, as a bit for each in words of 64.
use Rattle.std.specs.Prelude.{ℕ, zero, suc, ◌/◌, ◌%◌, ◌==◌, Bool, if◌then◌else◌, List, [], ◌∷◌, slice_index}
use Rattle.std.specs.Int.{bit_at}

-- those of the `n` numbers from `first` on that pass, ascending
unfoldable pub those_passing : (ℕ → Bool) → ℕ → ℕ → List ℕ
those_passing p first zero = []
those_passing p first (suc n) = if p first then first ∷ those_passing p (suc first) n else those_passing p (suc first) n

-- whether this bit of a word is set
abbrev pub is_set : ℕ → ℕ → Bool
is_set word bit = bit_at word bit == 1

-- whether a byte is marked: bit `byte % 64` of word `byte / 64` is set
abbrev pub is_marked : List ℕ → ℕ → Bool
is_marked words byte = is_set (slice_index words (byte / 64)) (byte % 64)

-- the marked bytes, ascending
abbrev pub marked : List ℕ → List ℕ
marked words = those_passing (is_marked words) 0 256
