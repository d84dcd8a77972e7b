-- The pair of a leaf that may be named.
use Rattle.std.specs.Prelude.{ℕ, Bool, true, Option, Some, None, is_some}
use Rattle.art_map.specs.Contents.{Contents}
use Rattle.art_map.specs.Found.{pair_under}

module _ {K V : Type 0} where
  -- the pair of a leaf, if one is named and has one
  abbrev pub pair_where : Contents K V → Option ℕ → Option (K × V)
  pair_where m None = None
  pair_where m (Some slot) = pair_under m slot

  -- where a leaf is named, it has a pair
  abbrev pub is_held_where : Contents K V → Option ℕ → Bool
  is_held_where m None = true
  is_held_where m (Some slot) = is_some (pair_under m slot)
