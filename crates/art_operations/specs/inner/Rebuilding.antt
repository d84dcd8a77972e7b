-- Inner nodes that are made anew over leaves which stand linked: how far this is, and the room that it takes.
use Rattle.std.specs.Prelude.{◌≡◌, ℕ, ◌+◌, ◌≤◌, List, ◌∷◌, ◌++◌, length, vec_capacity}
use Rattle.art_arena.specs.arena.Arena.{Arena, node_at}
use Rattle.art_arena.specs.arena.Cells.{pair, leaf_name, Holds}
use Rattle.art_arena.specs.arena.Shapes.{LeafAt, key_of, pairs_of}
use Rattle.art_arena.specs.tree.Order.{AscendsByKey}
use Rattle.art_operations.specs.Frees.{leaf_cells}
use Rattle.art_operations.specs.Meetings.{PartAt}
use Rattle.art_operations.specs.Rebuilds.{HasInnerRoom}
use Rattle.art_operations.specs.inner.Spines.{Level, AreOpen, IsEmptySpine, open_cells, open_children, open_leaves}
use Rattle.art_operations.specs.inner.Spines.{opened}
use Rattle.art_operations.specs.declared.build.spine.Spine.{Spine}
use Rattle.art_operations.specs.declared.meeting.Parted.{Parted}

-- no node is open, and so many leaves can be passed without memory
pub record IsFresh (spine : Spine) (leaves : ℕ) : Type 0 where
  pub empty : IsEmptySpine spine
  pub stack : leaves ≤ vec_capacity spine.stack
  pub children : leaves ≤ vec_capacity spine.children

-- the open nodes and their children can be noted while so many leaves are passed
pub record HasPlaces (spine : Spine) (more : ℕ) : Type 0 where
  pub stack : length spine.stack.items + more ≤ vec_capacity spine.stack
  pub children : length spine.children.items + more ≤ vec_capacity spine.children

-- there is room for the inner nodes over so many leaves and over the children that are noted
abbrev pub HasNodeRoom : {K V : Type 0} → Arena K V → Spine → ℕ → Type 0
HasNodeRoom arena spine more = HasInnerRoom arena (length spine.children.items + more)

-- there are places, and room for the inner nodes over these leaves and over the children that are noted
pub record HasSpineRoom {K V : Type 0} (arena : Arena K V) (spine : Spine) (more : ℕ) : Type 0 where
  pub places : HasPlaces spine more
  pub nodes : HasInnerRoom arena (length spine.children.items + more)

module _ {K V : Type 0} (bytes : K → List ℕ) (P : ℕ) (arena : Arena K V) where
  -- The arena holds the parts of the tree that are made, the last leaf that was passed, and those still to come. All
  -- leaves are these.
  pub record RebuildsUpTo (spine : Spine) (last : ℕ) (rest ls : List (LeafAt K V)) : Type 0 where
    pub key : K
    pub value : V
    pub levels : List (Level K V)
    pub stack_is : spine.stack.items ≡ opened levels
    pub children_are : spine.children.items ≡ open_children levels
    pub holds : Holds (node_at arena) (open_cells P levels ++ (leaf_name last, pair key value) ∷ leaf_cells rest)
    pub ways : AreOpen bytes (bytes key) levels
    pub leaves_are : open_leaves levels ++ record { slot = last; key = key; value = value } ∷ rest ≡ ls

  -- the next leaf is this one, and these come after it
  pub record CanPass (spine : Spine) (last next : ℕ) (rest ls : List (LeafAt K V)) : Type 0 where
    pub leaf : LeafAt K V
    pub named : leaf.slot ≡ next
    pub up_to : RebuildsUpTo spine last (leaf ∷ rest) ls
    pub ascends : AscendsByKey (key_of bytes) (pairs_of ls)

  -- and their keys part so
  pub record CanPassAt (spine : Spine) (last next : ℕ) (parted : Parted) (rest ls : List (LeafAt K V)) : Type 0 where
    pub can : CanPass spine last next rest ls
    pub parts : PartAt (bytes can.up_to.key) (bytes can.leaf.key) parted
