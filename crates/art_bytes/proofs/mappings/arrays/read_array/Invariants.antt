-- Each element so far has its part of the bytes.
use Rattle.std.proofs.Common.{◌≡◌, ◌<◌, ℕ, length, get_or}
use Rattle.art_bytes.specs.Lists.{part_at}
use Rattle.art_bytes.proofs.mappings.arrays.read_array.Given as goal

abbrev pub invariant-loop-index : goal.invariant-loop-index
invariant-loop-index g l = record {
  count : length l.array ≡ g.row.N;
  parts : (k : ℕ) (d : g.row.E.Denot) → k < l.index
      → g.E.FixedBytes.is_value (get_or l.array k d) × (g.E.FixedBytes.fixed_bytes (get_or l.array k d) ≡ part_at g.E.FixedBytes.WIDTH l.bytes k);
}
