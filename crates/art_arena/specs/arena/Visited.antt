-- What a contract sees of a reader, and of a node that it lends.
use Rattle.std.specs.Prelude.{ℕ}
use Rattle.art_nodes.specs.declared.kind.NodeType.{NodeType}
use Rattle.art_nodes.specs.declared.kind.NodeType.TheVariants as kind
use Rattle.art_arena.specs.arena.Arena.{Held, leaf_held, inner_held}
use Rattle.art_arena.specs.declared.reader.Reader.{Reader}
use Rattle.art_arena.specs.declared.reader.VisitedNode.{VisitedNode}
use Rattle.art_arena.specs.declared.reader.VisitedNode.TheVariants as visited

-- what is read, and how many steps were made
abbrev pub arena_of : {T : Type 0} → Reader T → T
arena_of reader = reader.arena.now

abbrev pub count_of : {T : Type 0} → Reader T → ℕ
count_of reader = reader.count

-- the node that is lent, whatever its kind
abbrev pub held_of : {K V : Type 0} {P : ℕ} → VisitedNode K V P → Held K V
held_of (visited.Node4 node) = inner_held node.now
held_of (visited.Node16 node) = inner_held node.now
held_of (visited.Node32 node) = inner_held node.now
held_of (visited.Node48 node) = inner_held node.now
held_of (visited.Node256 node) = inner_held node.now
held_of (visited.Leaf node) = leaf_held node.now

-- its kind
abbrev pub kind_of : {K V : Type 0} {P : ℕ} → VisitedNode K V P → NodeType
kind_of (visited.Node4 node) = kind.Node4
kind_of (visited.Node16 node) = kind.Node16
kind_of (visited.Node32 node) = kind.Node32
kind_of (visited.Node48 node) = kind.Node48
kind_of (visited.Node256 node) = kind.Node256
kind_of (visited.Leaf node) = kind.Leaf
