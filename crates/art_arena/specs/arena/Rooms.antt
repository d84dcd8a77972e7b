-- What a change of inner nodes leaves of an arena: its leaves, and room by kind.
use Rattle.std.specs.Prelude.{◌≡◌, ◌≢◌, ℕ, suc, ◌+◌}
use Rattle.art_nodes.specs.declared.kind.NodeType.{NodeType}
use Rattle.art_arena.specs.arena.Arena.{Arena, held_at, HasRoomOf}
use Rattle.art_arena.specs.arena.Cells.{leaf_name}

-- of the room of this kind, that of one node may be used up, and none of the other kinds'
pub record UsesRoomOf {K V : Type 0} (kind : NodeType) (old new : Arena K V) : Type 0 where
  pub own : (n : ℕ) → HasRoomOf old kind (n + 1) → HasRoomOf new kind n
  pub others : (other : NodeType) → other ≢ kind → (n : ℕ) → HasRoomOf old other n → HasRoomOf new other n

-- there is room for one more node of this kind
abbrev pub FreesRoomOf : {K V : Type 0} → NodeType → Arena K V → Arena K V → Type 0
FreesRoomOf kind old new = (n : ℕ) → HasRoomOf old kind n → HasRoomOf new kind (suc n)

-- every leaf stands where it stood, with its links
abbrev pub SameLeaves : {K V : Type 0} → Arena K V → Arena K V → Type 0
SameLeaves old new = (slot : ℕ) → held_at new (leaf_name slot) ≡ held_at old (leaf_name slot)
