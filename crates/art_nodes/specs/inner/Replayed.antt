-- What a contract sees of the node that a replay works on.
use Rattle.std.specs.Prelude.{ℕ, List}
use Rattle.art_nodes.specs.Name.{Name}
use Rattle.art_nodes.specs.declared.replaying.ReplayedNode.{ReplayedNode}
use Rattle.art_nodes.specs.declared.replaying.ReplayedNode.TheVariants.{Node4, Node16, Node32, Node48, Node256}

-- the children of a node in whichever kind it is
abbrev pub replayed_children : ReplayedNode → List (ℕ × Name)
replayed_children (Node4 node) = node.children
replayed_children (Node16 node) = node.children
replayed_children (Node32 node) = node.children
replayed_children (Node48 node) = node.children
replayed_children (Node256 node) = node.children
