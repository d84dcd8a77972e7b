-- What a deletion leaves.
use Rattle.std.specs.Prelude.{◌≡◌, ℕ, List, [], ◌∷◌, ◌++◌, Option, Some, None}
use Rattle.art_nodes.specs.Name.{Name}
use Rattle.art_arena.specs.arena.Arena.{Arena, node_at}
use Rattle.art_arena.specs.arena.Shapes.{Shape, LeafAt, leaves}
use Rattle.art_arena.specs.arena.Cells.{Cell, HoldsOnly}
use Rattle.art_arena.specs.arena.Stores.{StoresBeside}
use Rattle.art_operations.specs.declared.delete.result.DeleteResult.{DeleteResult}

-- the leaf with this slab key is one of these
pub record IsAmong {K V : Type 0} (slot : ℕ) (ls : List (LeafAt K V)) : Type 0 where
  pub front : List (LeafAt K V)
  pub leaf : LeafAt K V
  pub back : List (LeafAt K V)
  pub is : ls ≡ front ++ leaf ∷ back
  pub slot_is : leaf.slot ≡ slot

module _ {K V : Type 0} (bytes : K → List ℕ) (P : ℕ) (arena : Arena K V) where
  -- beside the nodes of the list the arena holds nothing but the tree of these leaves, or nothing where there are none
  abbrev pub HasLeavesBeside : Option Name → List (LeafAt K V) → List (Name × Cell K V) → Type 0
  HasLeavesBeside None ls rest = (ls ≡ []) × HoldsOnly (node_at arena) rest
  HasLeavesBeside (Some root) ls rest =
      (s : Shape K V) × StoresBeside bytes P arena root rest s × (leaves s ≡ ls)

  abbrev pub HasLeaves : Option Name → List (LeafAt K V) → Type 0
  HasLeaves root ls = HasLeavesBeside root ls []

  -- beside these nodes the arena has these leaves without the one with this slab key, whose key and value are in the
  -- answer
  pub record IsDeletedBeside (rest : List (Name × Cell K V)) (s : Shape K V) (slot : ℕ) (result : DeleteResult K V)
      : Type 0 where
    pub front : List (LeafAt K V)
    pub back : List (LeafAt K V)
    pub was : leaves s
        ≡ front ++ record { slot = slot; key = result.deleted_leaf.key; value = result.deleted_leaf.value } ∷ back
    pub left : HasLeavesBeside result.new_root (front ++ back) rest
