-- The equality of kinds is the test of the specs.
use Rattle.std.proofs.Common.{◌≡◌, refl}
use Rattle.art_nodes.specs.declared.kind.NodeType.{NodeType}
use Rattle.art_nodes.specs.declared.kind.NodeType.TheVariants.{Node4, Node16, Node32, Node48, Node256, Leaf}
use Rattle.art_nodes.specs.contracts.kind.NodeTypePartialEq.TheImpl.{eq-value}
use Rattle.art_arena.proofs.Common.{same_kind}

pub kinds_told : (k l : NodeType) → eq-value.it k l ≡ same_kind k l
kinds_told Node4 Node4 = refl
kinds_told Node4 l = refl
kinds_told Node16 Node16 = refl
kinds_told Node16 l = refl
kinds_told Node32 Node32 = refl
kinds_told Node32 l = refl
kinds_told Node48 Node48 = refl
kinds_told Node48 l = refl
kinds_told Node256 Node256 = refl
kinds_told Node256 l = refl
kinds_told Leaf Leaf = refl
kinds_told Leaf l = refl
