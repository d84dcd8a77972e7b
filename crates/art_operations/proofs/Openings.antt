-- How much is read at the ends of a range, told by the length of a bound too.
use Rattle.std.proofs.Common.{ℕ, ◌+◌, arith}
use Rattle.std.proofs.Math.Nat.{mul-le-mul_right}
use Rattle.art_operations.proofs.Terms.{OpeningReads, SpanReads}

-- six times the bytes of the longest key and two are at most as many times as the bound has bytes, and six
pub opening_of : (longest len old new : ℕ) → SpanReads longest old new → OpeningReads longest len old new
opening_of longest len old new reads =
    let products = mul-le-mul_right {m = 6} {n = len + 6} (longest + 2) (omega arith) in omega (arith, reads, products)
