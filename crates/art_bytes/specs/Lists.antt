-- Lists of values that have their own bytes.
use Rattle.std.specs.Prelude.{◌≡◌, ◌*◌, ℕ, List, take, drop}
use Rattle.std.specs.List.{AllByRecursion, flat_map}

-- these are the bytes of the values, one value's after the other's
abbrev pub HaveListBytes : {V : Type 0} → (V → Type 0) → (V → List ℕ) → List V → List ℕ → Type 0
HaveListBytes IsValue bytes_of xs bytes = AllByRecursion IsValue xs × (bytes ≡ flat_map bytes_of xs)

-- part k of bytes that are cut into parts of `width`
abbrev pub part_at : ℕ → List ℕ → ℕ → List ℕ
part_at width bytes k = take width (drop (k * width) bytes)

-- some value has these bytes
abbrev pub HasValue : {V : Type 0} → (V → Type 0) → (V → List ℕ) → List ℕ → Type 0
HasValue {V} IsValue bytes_of bytes = (v : V) × IsValue v × (bytes_of v ≡ bytes)
