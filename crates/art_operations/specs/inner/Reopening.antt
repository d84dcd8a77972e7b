-- A tree that is opened again at its last leaf, from the root down.
use Rattle.std.specs.Prelude.{◌≡◌, ℕ, ◌<◌, ◌≤◌, List, [], ◌∷◌, ◌++◌, length, vec_capacity}
use Rattle.art_nodes.specs.Name.{Name}
use Rattle.art_arena.specs.arena.Arena.{Arena, KeepsRoomOf}
use Rattle.art_arena.specs.arena.Rooms.{SameLeaves}
use Rattle.art_arena.specs.arena.Shapes.{LeafAt}
use Rattle.art_operations.specs.Rebuilds.{HasInnerRoom}
use Rattle.art_operations.specs.inner.Rebuilding.{HasSpineRoom}
use Rattle.art_operations.specs.inner.Spines.{IsSpine, begin_of}
use Rattle.art_operations.specs.inner.Unmade.{HasRoomAround}
use Rattle.art_operations.specs.declared.build.spine.Spine.{Spine}

-- The open nodes and this part are the tree of these leaves, and stand on the way to the last one's key. The arena
-- holds nothing else.
pub record OpensTo {K V : Type 0} (bytes : K → List ℕ) (P : ℕ) (arena : Arena K V) (spine : Spine) (part : Name)
    (leaf : LeafAt K V) (ls : List (LeafAt K V)) : Type 0 where
  pub front : List (LeafAt K V)
  pub ends : ls ≡ front ++ leaf ∷ []
  pub stands : IsSpine bytes P arena spine [] 0 part (bytes leaf.key) ls

-- there are places to note the nodes on the way to the last of so many leaves, with their children, and room for the
-- inner nodes over so many
pub record HasRoomToOpen {K V : Type 0} (arena : Arena K V) (spine : Spine) (leaves : ℕ) : Type 0 where
  pub stack : leaves ≤ vec_capacity spine.stack
  pub children : leaves ≤ vec_capacity spine.children
  pub nodes : HasInnerRoom arena leaves

-- what room there was stays, and each leaf stands as it stood
pub record KeepsOpenRoom {K V : Type 0} (old : Arena K V) (was : Spine) (new : Arena K V) (now : Spine) : Type 0 where
  pub to_open : (n : ℕ) → HasRoomToOpen old was n → HasRoomToOpen new now n
  pub around : (n : ℕ) → HasRoomAround old was n → HasRoomAround new now n
  pub room_of : KeepsRoomOf old new
  pub leaves : SameLeaves old new

module _ {K V : Type 0} (bytes : K → List ℕ) (P : ℕ) (old : Arena K V) (was : Spine) (part : Name) (new : Arena K V)
    (now : Spine) where
  -- the part is open, and this is its last child, to which so many bytes lead at most
  pub record HasOpened (most : ℕ) (child : Name) : Type 0 where
    pub stands : (leaf : LeafAt K V) (ls : List (LeafAt K V)) → OpensTo bytes P old was part leaf ls
        → OpensTo bytes P new now child leaf ls
    pub deeper : begin_of 0 was.stack.items < begin_of 0 now.stack.items
    pub within : begin_of 0 now.stack.items ≤ most
    pub room : HasSpineRoom new now 1

  -- the part isn't open, since there was no room for that
  pub record IsUnopened : Type 0 where
    pub stands : (leaf : LeafAt K V) (ls : List (LeafAt K V)) → OpensTo bytes P old was part leaf ls
        → OpensTo bytes P new now part leaf ls
    pub short : (leaf : LeafAt K V) (ls : List (LeafAt K V)) → OpensTo bytes P old was part leaf ls
        → HasRoomToOpen old was (length ls) → ⊥
    pub stack : now.stack.items ≡ was.stack.items
    pub room : (n : ℕ) → HasSpineRoom old was n → HasSpineRoom new now n
