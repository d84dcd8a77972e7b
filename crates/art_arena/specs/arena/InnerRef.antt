-- What a contract sees of an inner node that an arena lends.
use Rattle.std.specs.Prelude.{ℕ}
use Rattle.art_nodes.specs.declared.kind.NodeType.{NodeType}
use Rattle.art_nodes.specs.declared.kind.NodeType.TheVariants as kind
use Rattle.art_nodes.specs.InnerNode.{InnerNode}
use Rattle.art_arena.specs.declared.inner_ref.InnerArm.{InnerArm}
use Rattle.art_arena.specs.declared.inner_ref.InnerArm.TheVariants as arm

-- a node and its kind
pub record Inner : Type 0 where
  pub kind : NodeType
  pub node : InnerNode

abbrev pub arm_inner : {K V : Type 0} {P : ℕ} → InnerArm K V P → Inner
arm_inner (arm.Node4 node) = record { kind = kind.Node4; node = node.now }
arm_inner (arm.Node16 node) = record { kind = kind.Node16; node = node.now }
arm_inner (arm.Node32 node) = record { kind = kind.Node32; node = node.now }
arm_inner (arm.Node48 node) = record { kind = kind.Node48; node = node.now }
arm_inner (arm.Node256 node) = record { kind = kind.Node256; node = node.now }
