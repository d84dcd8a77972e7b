-- The room for nodes that a change leaves, and what takes memory beside it.
use Rattle.std.specs.Prelude.{◌≡◌, ◌⊎◌, ℕ, ◌-◌, List, length, Option, Some, None}
use Rattle.art_nodes.specs.declared.kind.NodeType.TheVariants.{Leaf}
use Rattle.art_arena.specs.arena.Arena.{HasRoom, KeepsRoomOf, UsesRoom}
use Rattle.art_arena.specs.arena.Rooms.{FreesRoomOf}
use Rattle.art_map.specs.Room.{UsesLeafRoom}
use Rattle.art_c.specs.Calls.{stored_value}
use Rattle.art_c.specs.Handles.{Map}
use Rattle.art_c.specs.Placed.{IsLong}

module _ {V : Type 0} where
  -- Of a put: where the key was new, room for two nodes may be used, and for as many leaves as pairs came; where it was
  -- stored, all room stays.
  abbrev pub PutLeavesRoom : Option V → Map V → Map V → Type 0
  PutLeavesRoom None old new =
      UsesRoom 2 old.nodes new.nodes × UsesLeafRoom (length new.pairs - length old.pairs) old.nodes new.nodes
  PutLeavesRoom (Some was) old new = KeepsRoomOf old.nodes new.nodes

  -- Of a put that finds no memory: its value is long; or its key is new, and is long if there is room for two nodes.
  abbrev pub NeedsMemory : List ℕ → List ℕ → Map V → Type 0
  NeedsMemory key text old = IsLong text ⊎ ((stored_value key old.pairs ≡ None) × (HasRoom old.nodes 2 → IsLong key))

  -- Of a removal: room for one node may be used, and there is room for a leaf more.
  abbrev pub RemovalLeavesRoom : Map V → Map V → Type 0
  RemovalLeavesRoom old new = UsesRoom 1 old.nodes new.nodes × FreesRoomOf Leaf old.nodes new.nodes

  -- Of a removal that finds no memory: all room stays, and there was none for a node of each kind.
  abbrev pub RemovalLacksRoom : Map V → Map V → Type 0
  RemovalLacksRoom old new = KeepsRoomOf old.nodes new.nodes × (HasRoom old.nodes 1 → ⊥)
