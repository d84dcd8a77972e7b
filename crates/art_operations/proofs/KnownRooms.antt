-- Room that was made before the arena was lent.
use Rattle.std.proofs.Common.{ℕ, List, [], ◌∷◌}
use mathlib.Core.Logic.{∥∥₁_elim}
use Rattle.std.proofs.Math.Bridge.{le_prop}
use Rattle.art_nodes.proofs.Common.{shrunk_kind}
use Rattle.art_nodes.specs.declared.kind.NodeType.{NodeType}
use Rattle.art_nodes.specs.declared.kind.NodeType.TheVariants.{Leaf, Node4, Node16, Node32, Node48, Node256}
use Rattle.art_arena.proofs.Common.{Arena, HasRoomOf, Step}
use Rattle.art_operations.proofs.Terms.{HasRoomAbove}

module _ {K V : Type 0} (arena : Arena K V) where
  one_room : (kind : NodeType) (n : ℕ) → IsProp (HasRoomOf arena kind n)
  one_room Leaf n = le_prop
  one_room Node4 n = le_prop
  one_room Node16 n = le_prop
  one_room Node32 n = le_prop
  one_room Node48 n = le_prop
  one_room Node256 n = le_prop

  above : (steps : List Step) → IsProp (HasRoomAbove arena steps)
  above [] = λ a b i. tt
  above (step ∷ more) = λ a b i n here can. one_room (shrunk_kind step.node.kind) 1 (a n here can) (b n here can) i

  -- where it is known that there is room, there is
  pub known-room : (steps : List Step) → ∥ HasRoomAbove arena steps ∥₁ → HasRoomAbove arena steps
  known-room steps known = ∥∥₁_elim known (above steps) (λ room. room)
