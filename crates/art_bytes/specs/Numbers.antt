-- Numbers as bytes.
use Rattle.std.specs.Prelude.{ℕ, ℤ, ◌+◌, ◌-◌, ◌*◌, ◌^◌, List, [], ◌∷◌, length, bit_xor}
use Rattle.std.specs.Int.{Width, byte_len, bytes_high_first, cast_unsigned}

-- the lowest `width` bytes of n, the highest of them first
abbrev pub big_endian : ℕ → ℕ → List ℕ
big_endian width n = bytes_high_first width n

-- the number that bytes spell, the highest first
abbrev pub number_of : List ℕ → ℕ
number_of [] = 0
number_of (b ∷ rest) = b * 256 ^ length rest + number_of rest

-- the top bit of a number of this width
abbrev pub top_bit : Width → ℕ
top_bit w = 2 ^ (8 * byte_len w - 1)

-- a signed number's two's complement with its top bit flipped
abbrev pub flipped : Width → ℤ → ℕ
flipped w z = bit_xor (cast_unsigned w z) (top_bit w)
