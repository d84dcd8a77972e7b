-- What an edit makes of an inner node.
use Rattle.std.specs.Prelude.{ℕ, Option, Some, None}
use Rattle.art_nodes.specs.InnerNode.{InnerNode, MayWrite, node_with, node_without, with_prefix_of}
use Rattle.art_arena.specs.declared.node_edits.NodeEdit.{NodeEdit}
use Rattle.art_arena.specs.declared.node_edits.NodeEdit.TheVariants.{Write, Remove, CopyPrefix, Free}

-- the node that stands there then, if there is one
abbrev pub edited : {P : ℕ} → NodeEdit P → InnerNode → Option InnerNode
edited (Write byte child) n = Some (node_with n byte child)
edited (Remove byte) n = Some (node_without n byte)
edited (CopyPrefix header) n = Some (with_prefix_of header.now n)
edited Free n = None

-- a write needs room, or a child that stands there
abbrev pub MayEdit : {P : ℕ} → ℕ → NodeEdit P → InnerNode → Type 0
MayEdit room (Write byte child) n = MayWrite room n.children byte
MayEdit room edit n = Unit {0}
