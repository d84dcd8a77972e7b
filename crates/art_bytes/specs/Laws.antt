-- The laws that functions of the module `laws` carry.
use Rattle.std.specs.Prelude.{ℕ, ℤ, ◌++◌, List}
use Rattle.std.specs.Int.{w64}
use Rattle.art_bytes.specs.Numbers.{big_endian, flipped}

-- four big-endian bytes of t, then eight of n with the top bit flipped
abbrev pub pair_key : ℕ × ℤ → List ℕ
pair_key p = big_endian 4 p.0 ++ big_endian 8 (flipped w64 p.1)
