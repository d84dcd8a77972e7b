-- Where a node of a kind fits in memory.
use Rattle.std.specs.Prelude.{ℕ, ◌<◌, ◌^◌, IsSome}
use Rattle.slab.specs.Slab.{Slab, get, HasRoomFor}

-- where a slab has a node, or room for one, the stored front of a prefix is so short that a node fits in memory
pub record FitsWhereUsed {T : Type 0} (P : ℕ) (nodes : Slab T) : Type 0 where
  pub held : (slot : ℕ) → IsSome (get nodes slot) → P < 2 ^ 62
  pub room : HasRoomFor nodes 1 → P < 2 ^ 62
