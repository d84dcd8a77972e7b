-- Places in an ascending list of children.
use Rattle.std.specs.Prelude.{◌≡◌, ◌≢◌, ℕ, suc, ◌+◌, ◌-◌, ◌<◌, ◌≤◌, nat_lt, nat_le, ◌&&◌, List, [], ◌∷◌, length}
use Rattle.std.specs.Prelude.{take, drop, filter, slice_index, if◌then◌else◌}

-- how many of these ascending bytes come before the bound
abbrev pub place : List ℕ → ℕ → ℕ
place [] bound = 0
place (key ∷ rest) bound = if nat_lt key bound then suc (place rest bound) else 0

-- the children whose bytes are at least `from` and below `to`
abbrev pub children_within : {N : Type 0} → ℕ → ℕ → List (ℕ × N) → List (ℕ × N)
children_within from to children = filter (λ c. nat_le from c.0 && nat_lt c.0 to) children

-- the byte stands at this place of the ascending bytes
pub record StandsAt (keys : List ℕ) (byte at : ℕ) : Type 0 where
  pub is_place : at ≡ place keys byte
  pub within : at < length keys
  pub here : slice_index keys at ≡ byte

-- the byte doesn't stand among the ascending bytes, and this is the place where it belongs
pub record BelongsAt (keys : List ℕ) (byte at : ℕ) : Type 0 where
  pub is_place : at ≡ place keys byte
  pub apart : at < length keys → slice_index keys at ≢ byte

-- the first of the ascending bytes that isn't below the bound
pub record IsFirstFrom (keys : List ℕ) (bound byte : ℕ) : Type 0 where
  pub stands : StandsAt keys byte (place keys bound)
  pub after : place keys (byte + 1) ≡ suc (place keys bound)

-- the last of the ascending bytes that is below the bound
pub record IsLastBelow (keys : List ℕ) (bound byte : ℕ) : Type 0 where
  pub stands : StandsAt keys byte (place keys byte)
  pub before : place keys bound ≡ suc (place keys byte)

-- the ascending bytes from one bound up to another
abbrev pub bytes_within : ℕ → ℕ → List ℕ → List ℕ
bytes_within from to keys = take (place keys to - place keys from) (drop (place keys from) keys)

-- a name for each of the ascending bytes from one bound up to another
pub record AreLeft {N : Type 0} (from to : ℕ) (keys : List ℕ) (names : List N) : Type 0 where
  pub from_fits : from ≤ 256
  pub to_fits : to ≤ 256
  pub same_length : length (bytes_within from to keys) ≡ length names
