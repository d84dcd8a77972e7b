-- That the keys of a tenant's numbers are unique, all of twelve bytes, and in the order of the pairs. Nothing here is a
-- definition.
use Rattle.std.proofs.Common.{ℕ, ℤ, ◌<◌, ◌^◌, lit<}
use Rattle.std.specs.Ordering.{nat_cmp, int_cmp, ordering_then}
use Rattle.std.specs.Int.{w64}
use Rattle.std.specs.Int.RustNames.{FitsSigned}
use Rattle.art_bytes.specs.Numbers.{flipped}
use Rattle.art_bytes.specs.Laws.{pair_key}
use Rattle.art_bytes.specs.lemmas.FlipLaws.{flipped-injective, int_cmp-flipped}
use Rattle.art_bytes.specs.Mappings.{HaveFixedBytes}
use Rattle.art_bytes.specs.lemmas.FixedLaws.{unsigned_bytes, stored_bytes}
use Rattle.art_bytes.specs.lemmas.ConcatLaws.{pair_bytes}

pub pair_keys : HaveFixedBytes {V = ℕ × ℤ} 12
    (λ p. (p.0 < 256 ^ 4) × (FitsSigned w64 p.1 × (flipped w64 p.1 < 256 ^ 8))) pair_key
    (λ p q. ordering_then (nat_cmp p.0 q.0) (int_cmp p.1 q.1))
pair_keys =
    pair_bytes 4 8 _ _ _ _ _ _ (unsigned_bytes 4 (lit< tt))
    (stored_bytes (flipped w64) (FitsSigned w64) int_cmp 8 _ _ _ (flipped-injective w64) (int_cmp-flipped w64)
    (unsigned_bytes 8 (lit< tt)))
