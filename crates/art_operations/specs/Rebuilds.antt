-- Leaves over which a tree is made, and room for its inner nodes.
use Rattle.std.specs.Prelude.{◌≡◌, ◌≢◌, ℕ, ◌*◌, ◌-◌, ◌<◌, List, Option, None}
use Rattle.art_nodes.specs.Kind.{row_of}
use Rattle.art_nodes.specs.declared.kind.NodeType.{NodeType}
use Rattle.art_nodes.specs.declared.kind.NodeType.TheVariants.{Leaf}
use Rattle.art_arena.specs.arena.Arena.{Arena, HasRoomOf}
use Rattle.art_arena.specs.arena.Linked.{first_slot}
use Rattle.art_arena.specs.arena.Shapes.{LeafAt, key_of, pairs_of}
use Rattle.art_arena.specs.tree.Order.{AscendsByKey}
use Rattle.art_operations.specs.LeafLists.{HoldsLeaves}

-- There is room for the inner nodes of any tree of so many leaves: for each number of nodes of a kind that such a tree
-- can have. A node takes as many parts as it has children, and leaves one.
abbrev pub HasInnerRoom : {K V : Type 0} → Arena K V → ℕ → Type 0
HasInnerRoom arena leaves =
    (kind : NodeType) → kind ≢ Leaf → (n : ℕ) → n * ((row_of kind).fewest - 1) < leaves → HasRoomOf arena kind n

-- what room there was for leaves stays
abbrev pub KeepsLeafRoom : {K V : Type 0} → Arena K V → Arena K V → Type 0
KeepsLeafRoom old new = (n : ℕ) → HasRoomOf old Leaf n → HasRoomOf new Leaf n

-- the arena holds these leaves, linked from this one on in the order of their keys, and nothing else
pub record HoldsInOrder {K V : Type 0} (bytes : K → List ℕ) (arena : Arena K V) (first : Option ℕ)
    (ls : List (LeafAt K V)) : Type 0 where
  pub holds : HoldsLeaves arena ls
  pub first_is : first_slot ls None ≡ first
  pub ascends : AscendsByKey (key_of bytes) (pairs_of ls)
