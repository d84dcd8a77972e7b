-- What a mapping of values to bytes keeps.
use Rattle.std.specs.Prelude.{◌≡◌, ◌<◌, ℕ, List, length}
use Rattle.std.specs.declared.cmp.Ordering.{Ordering}
use Rattle.art_bytes.specs.Keys.{AreBytes, bytes_cmp}

-- each value of a type has its own bytes, all have as many, and their order is the order of the values
pub record HaveFixedBytes {V : Type 0} (width : ℕ) (IsValue : V → Type 0) (bytes_of : V → List ℕ)
    (cmp : V → V → Ordering) : Type 0 where
  pub positive : 0 < width
  pub long : (v : V) → IsValue v → length (bytes_of v) ≡ width
  pub fit : (v : V) → IsValue v → AreBytes (bytes_of v)
  pub one_value : (v w : V) → IsValue v → IsValue w → bytes_of v ≡ bytes_of w → v ≡ w
  pub ordered : (v w : V) → IsValue v → IsValue w → cmp v w ≡ bytes_cmp (bytes_of v) (bytes_of w)
