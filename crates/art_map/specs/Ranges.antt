-- The pairs between two bounds.
use Rattle.std.specs.Prelude.{ℕ, List, filter}
use Rattle.std.specs.BTreeMap.Range.{range_contains}
use Rattle.std.specs.declared.ops.Bound.{Bound}
use Rattle.art_bytes.specs.Keys.{bytes_cmp}

-- those whose keys' bytes are inside the start bound and inside the end bound
abbrev pub pairs_between : {K V : Type 0} → (K → List ℕ) → Bound (List ℕ) → Bound (List ℕ) → List (K × V) → List (K × V)
pairs_between bytes start end pairs = filter (λ p. range_contains bytes_cmp start end (bytes p.0)) pairs
