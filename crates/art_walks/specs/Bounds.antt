-- Which bounds a range may be asked for.
use Rattle.std.specs.Prelude.{ℕ, List}
use Rattle.std.specs.BTreeMap.Range.{IsLeBy, IsLtBy}
use Rattle.std.specs.Range.Bound.{IsForward}
use Rattle.std.specs.declared.ops.Bound.{Bound}
use Rattle.art_bytes.specs.Keys.{bytes_cmp}

-- where both are named, the start isn't above the end, nor are they equal and both excluded
abbrev pub AreValidKeyBounds : Bound (List ℕ) → Bound (List ℕ) → Type 0
AreValidKeyBounds start end = IsForward (IsLeBy bytes_cmp) (IsLtBy bytes_cmp) start end
