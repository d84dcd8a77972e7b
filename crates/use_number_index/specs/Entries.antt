-- The entries of an index by time, and the earliest of them.
use Rattle.std.specs.Prelude.{◌≡◌, ◌≢◌, ℕ, ◌<◌, ◌≤◌, ◌^◌, ◌⊎◌, List, Option, Some, None}
use Rattle.std.specs.List.{AllByRecursion}
use Rattle.art_bytes.specs.Numbers.{big_endian}
use Rattle.art_arena.specs.tree.Changes.{IsIn}
use Rattle.use_number_index.specs.declared.Entry.{Entry}

-- an entry stands under its time: eight bytes, the highest first
abbrev pub IsKeyed : List ℕ × Entry → Type 0
IsKeyed p = (p.0 ≡ big_endian 8 p.1.time) × (p.1.time < 2 ^ 64)

-- each of them does
abbrev pub AreEntries : List (List ℕ × Entry) → Type 0
AreEntries pairs = AllByRecursion IsKeyed pairs

-- there is no entry; or this is one of them, and none has a lower time
abbrev pub IsEarliest : List Entry → Option Entry → Type 0
IsEarliest entries None = (other : Entry) → IsIn other entries → ⊥
IsEarliest entries (Some first) =
    IsIn first entries × ((other : Entry) → IsIn other entries → first.time ≤ other.time)

-- the entry is there, each of another time is there as before, and there are no others
abbrev pub IsEntryAdded : Entry → List Entry → List Entry → Type 0
IsEntryAdded entry old new =
    IsIn entry new
    × ((other : Entry) → other.time ≢ entry.time → IsIn other old → IsIn other new)
    × ((other : Entry) → IsIn other new → (other ≡ entry) ⊎ IsIn other old)
