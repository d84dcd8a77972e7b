-- Room for nodes that a change leaves.
use Rattle.std.specs.Prelude.{ℕ, ◌+◌, Option, Some, None}
use Rattle.art_nodes.specs.declared.kind.NodeType.TheVariants.{Leaf}
use Rattle.art_arena.specs.arena.Arena.{Arena, HasRoomOf, KeepsRoomOf, UsesRoom}

-- where a key has this value, what room there was of each kind stays; where it has none, that of two nodes may be used
abbrev pub LeavesRoom : {K V : Type 0} → Option V → Arena K V → Arena K V → Type 0
LeavesRoom None old new = UsesRoom 2 old new
LeavesRoom (Some value) old new = KeepsRoomOf old new

-- of the room for leaves, that of so many may be used up
abbrev pub UsesLeafRoom : {K V : Type 0} → ℕ → Arena K V → Arena K V → Type 0
UsesLeafRoom used old new = (n : ℕ) → HasRoomOf old Leaf (n + used) → HasRoomOf new Leaf n
