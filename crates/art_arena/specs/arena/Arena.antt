-- What a contract sees of an arena: the nodes of each kind under their slab keys, and so one map from names to nodes.
use Rattle.std.specs.Prelude.{◌≡◌, ℕ, ◌+◌, ◌≤◌, List, length, Option, Some, None}
use Rattle.std.specs.List.{AllByRecursion}
use Rattle.slab.specs.Slab.{Slab, get, slab_len, HasRoomFor, with_value}
use Rattle.art_nodes.specs.declared.kind.NodeType.{NodeType}
use Rattle.art_nodes.specs.declared.kind.NodeType.TheVariants.{Node4, Node16, Node32, Node48, Node256, Leaf}
use Rattle.art_nodes.specs.declared.leaf.LeafNode.{LeafNode}
use Rattle.art_nodes.specs.InnerNode.{InnerNode}
use Rattle.art_nodes.specs.Name.{Name}
use Rattle.art_arena.specs.arena.Cells.{Cell, pair, branches, leaf_name, UpdatesAt}
use Rattle.art_arena.specs.arena.Linked.{Links}

-- the nodes of each kind under their slab keys
pub record Arena (K V : Type 0) : Type 0 where
  pub leaves : Slab (LeafNode K V)
  pub nodes4 : Slab InnerNode
  pub nodes16 : Slab InnerNode
  pub nodes32 : Slab InnerNode
  pub nodes48 : Slab InnerNode
  pub nodes256 : Slab InnerNode

-- a node of any kind
pub data Held (K V : Type 0) : Type 0 where
  leaf_held : LeafNode K V → Held K V
  inner_held : InnerNode → Held K V

module _ {K V : Type 0} where
  abbrev pub as_leaf : Option (LeafNode K V) → Option (Held K V)
  as_leaf None = None
  as_leaf (Some leaf) = Some (leaf_held leaf)

  abbrev pub as_inner : Option InnerNode → Option (Held K V)
  as_inner None = None
  as_inner (Some node) = Some (inner_held node)

  -- the node of this kind with this slab key
  abbrev pub held_as : Arena K V → NodeType → ℕ → Option (Held K V)
  held_as arena Leaf slot = as_leaf (get arena.leaves slot)
  held_as arena Node4 slot = as_inner (get arena.nodes4 slot)
  held_as arena Node16 slot = as_inner (get arena.nodes16 slot)
  held_as arena Node32 slot = as_inner (get arena.nodes32 slot)
  held_as arena Node48 slot = as_inner (get arena.nodes48 slot)
  held_as arena Node256 slot = as_inner (get arena.nodes256 slot)

  -- the node under this name
  abbrev pub held_at : Arena K V → Name → Option (Held K V)
  held_at arena n = held_as arena n.kind n.slot

  -- what stands there, the links of leaves aside
  abbrev pub cell_of : Option (Held K V) → Option (Cell K V)
  cell_of None = None
  cell_of (Some (leaf_held leaf)) = Some (pair leaf.key leaf.value)
  cell_of (Some (inner_held node)) = Some (branches node)

  -- the links of what stands there, if it is a leaf
  abbrev pub links_of : Option (Held K V) → Option Links
  links_of (Some (leaf_held leaf)) = Some (record { previous = leaf.previous; next = leaf.next })
  links_of held = None

  abbrev pub node_at : Arena K V → Name → Option (Cell K V)
  node_at arena n = cell_of (held_at arena n)

  abbrev pub links_at : Arena K V → ℕ → Option Links
  links_at arena slot = links_of (held_at arena (leaf_name slot))

  -- how many leaves the arena has
  abbrev pub leaves_held : Arena K V → ℕ
  leaves_held arena = slab_len arena.leaves

  -- how many leaves fit with no allocation, those that are held among them
  abbrev pub leaf_capacity : Arena K V → ℕ
  leaf_capacity arena = arena.leaves.capacity

  -- the node stands now under the name, which was vacant, and all others as they did
  pub record Allocates (old new : Arena K V) (n : Name) (node : Held K V) : Type 0 where
    pub vacant : held_at old n ≡ None
    pub updates : UpdatesAt (held_at old) (held_at new) n (Some node)

  -- one leaf has these links now, and nothing else changed
  pub record WritesLinks (old new : Arena K V) (slot : ℕ) (now : Links) : Type 0 where
    pub nodes : (n : Name) → node_at new n ≡ node_at old n
    pub links : UpdatesAt (links_at old) (links_at new) slot (Some now)

  -- every name has what it had
  abbrev pub SameNodes : Arena K V → Arena K V → Type 0
  SameNodes old new = (n : Name) → held_at new n ≡ held_at old n

  -- each of these names has what it had, a leaf its links too
  abbrev pub KeepsNodes : List (Name × Cell K V) → Arena K V → Arena K V → Type 0
  KeepsNodes rest old new = AllByRecursion (λ c. held_at new c.0 ≡ held_at old c.0) rest

  -- the arena with another node of a kind under a slab key
  abbrev pub with_leaf : Arena K V → ℕ → LeafNode K V → Arena K V
  with_leaf arena slot node = record arena { leaves = with_value arena.leaves slot node }

  abbrev pub with_inner : Arena K V → NodeType → ℕ → InnerNode → Arena K V
  with_inner arena Node4 slot node = record arena { nodes4 = with_value arena.nodes4 slot node }
  with_inner arena Node16 slot node = record arena { nodes16 = with_value arena.nodes16 slot node }
  with_inner arena Node32 slot node = record arena { nodes32 = with_value arena.nodes32 slot node }
  with_inner arena Node48 slot node = record arena { nodes48 = with_value arena.nodes48 slot node }
  with_inner arena Node256 slot node = record arena { nodes256 = with_value arena.nodes256 slot node }
  with_inner arena Leaf slot node = arena

  -- so many more nodes of any kinds take no memory
  pub record HasRoom (arena : Arena K V) (n : ℕ) : Type 0 where
    pub leaves : HasRoomFor arena.leaves n
    pub nodes4 : HasRoomFor arena.nodes4 n
    pub nodes16 : HasRoomFor arena.nodes16 n
    pub nodes32 : HasRoomFor arena.nodes32 n
    pub nodes48 : HasRoomFor arena.nodes48 n
    pub nodes256 : HasRoomFor arena.nodes256 n

  -- so many more nodes of this kind take no memory
  abbrev pub HasRoomOf : Arena K V → NodeType → ℕ → Type 0
  HasRoomOf arena Leaf n = HasRoomFor arena.leaves n
  HasRoomOf arena Node4 n = HasRoomFor arena.nodes4 n
  HasRoomOf arena Node16 n = HasRoomFor arena.nodes16 n
  HasRoomOf arena Node32 n = HasRoomFor arena.nodes32 n
  HasRoomOf arena Node48 n = HasRoomFor arena.nodes48 n
  HasRoomOf arena Node256 n = HasRoomFor arena.nodes256 n

  -- there is no room for a node of any kind
  abbrev pub HasNoRoom : Arena K V → Type 0
  HasNoRoom arena = (kind : NodeType) → HasRoomOf arena kind 1 → ⊥

  -- there is no room for a node of a kind of which none is held
  abbrev pub HasNoUnusedRoom : Arena K V → Type 0
  HasNoUnusedRoom arena =
      (kind : NodeType) → ((slot : ℕ) → held_as arena kind slot ≡ None) → HasRoomOf arena kind 1 → ⊥

  -- what room there was of each kind stays
  abbrev pub KeepsRoomOf : Arena K V → Arena K V → Type 0
  KeepsRoomOf old new = (kind : NodeType) (n : ℕ) → HasRoomOf old kind n → HasRoomOf new kind n

  -- what room there was stays
  abbrev pub KeepsRoom : Arena K V → Arena K V → Type 0
  KeepsRoom old new = (n : ℕ) → HasRoom old n → HasRoom new n

  -- of what room there was, so much may be used up
  abbrev pub UsesRoom : ℕ → Arena K V → Arena K V → Type 0
  UsesRoom used old new = (n : ℕ) → HasRoom old (n + used) → HasRoom new n

  -- every name has what it had, the links of leaves aside
  abbrev pub SameCells : Arena K V → Arena K V → Type 0
  SameCells old new = (n : Name) → node_at new n ≡ node_at old n

  -- how many slots an arena has: no list of its nodes, each once, is longer
  abbrev pub slots_of : Arena K V → ℕ
  slots_of arena =
      length arena.leaves.slots + (length arena.nodes4.slots + (length arena.nodes16.slots
      + (length arena.nodes32.slots + (length arena.nodes48.slots + length arena.nodes256.slots))))

  -- no arena with the same nodes has fewer slots
  abbrev pub IsTrimmed : Arena K V → Type 0
  IsTrimmed arena = (other : Arena K V) → SameNodes arena other → slots_of arena ≤ slots_of other
