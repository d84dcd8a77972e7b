-- Where the bytes of a byte string stand.
use Rattle.std.specs.Prelude.{ℕ, ◌<◌, ◌≤◌, List, length, take}
use Rattle.art_bytes.specs.Keys.{AreBytes}
use Rattle.art_c.specs.declared.bytes.Placed.{Placed}
use Rattle.art_c.specs.declared.bytes.Placed.TheVariants.{Short, Long}

-- these do not stand in place, but take a block of their own
abbrev pub IsLong : List ℕ → Type 0
IsLong bytes = 30 < length bytes

-- the bytes, in place or in a block of their own
abbrev pub placed_bytes : Placed → List ℕ
placed_bytes (Short room len) = take len room
placed_bytes (Long held) = held.items

-- they are bytes, and no more of those in place are in use than there are
abbrev pub ArePlaced : Placed → Type 0
ArePlaced (Short room len) = (len ≤ 30) × AreBytes (take len room)
ArePlaced (Long held) = AreBytes held.items
