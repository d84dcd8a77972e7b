-- A split: an inner node over a part of a tree and a new leaf, in the part's place.
use Rattle.std.specs.Prelude.{◌≡◌, ℕ, Bool, true, false, List, [], ◌∷◌, length, take, drop, Option, Some, None}
use Rattle.art_nodes.specs.Header.{Header}
use Rattle.art_nodes.specs.InnerNode.{InnerNode, with_child}
use Rattle.art_nodes.specs.Name.{Name}
use Rattle.art_arena.specs.arena.Arena.{Held, inner_held}
use Rattle.art_arena.specs.arena.Cells.{Cell, pair, branches, leaf_name}
use Rattle.art_arena.specs.arena.Linked.{first_slot, last_slot}
use Rattle.art_arena.specs.arena.Shapes.{Shape, leaf_at, inner_at, LeafAt, children_at, node_of}
use Rattle.art_operations.specs.declared.insert.point.InsertKind.{InsertKind}
use Rattle.art_operations.specs.declared.insert.point.InsertKind.TheVariants as kind
use Rattle.art_operations.specs.declared.meeting.Parted.{Parted}

-- the key parts from the node under this name, an inner node or a leaf
abbrev pub PartsFrom : InsertKind → Name → Parted → Type 0
PartsFrom (kind.MismatchPrefix name p) old parted = (name ≡ old) × (p ≡ parted)
PartsFrom (kind.SplitLeaf slot p) old parted = (leaf_name slot ≡ old) × (p ≡ parted)
PartsFrom (kind.IntoExisting name byte) old parted = ⊥
PartsFrom (kind.Exact slot) old parted = ⊥

module _ {K V : Type 0} where
  -- the part without so many bytes of its prefix, if it is an inner node
  abbrev pub trimmed : ℕ → Shape K V → Shape K V
  trimmed n (leaf_at slot k v) = leaf_at slot k v
  trimmed n (inner_at name prefix kids) = inner_at name (drop n prefix) kids

  -- the cell of the part's root
  abbrev pub root_cell : ℕ → Shape K V → Cell K V
  root_cell P (leaf_at slot k v) = pair k v
  root_cell P (inner_at name prefix kids) = node_of P prefix (children_at kids)

  -- the cell with the prefix of this header, if there is one
  abbrev pub with_prefix : Option Header → Cell K V → Cell K V
  with_prefix None cell = cell
  with_prefix (Some header) (pair k v) = pair k v
  with_prefix (Some header) (branches node) = branches
      (record node { header = record header { num_children = node.header.num_children } })

  -- the slab key is that of the leaf at one end of the list: the first, or else the last
  abbrev pub IsEnd : Bool → ℕ → List (LeafAt K V) → Type 0
  IsEnd true slot ls = first_slot ls None ≡ Some slot
  IsEnd false slot ls = last_slot None ls ≡ Some slot

  -- the place between two lists is before this leaf, the first of the second list, or else after it, the last of the
  -- first list
  abbrev pub IsBetween : Bool → ℕ → List (LeafAt K V) → List (LeafAt K V) → Type 0
  IsBetween true slot xs ys = first_slot ys None ≡ Some slot
  IsBetween false slot xs ys = last_slot None xs ≡ Some slot

-- an inner node of two children with this prefix
abbrev pub split_node : ℕ → List ℕ → ℕ → Name → ℕ → Name → InnerNode
split_node P prefix a x b y = record {
  header = record { num_children = 2; prefix_len = length prefix; stored = take P prefix };
  children = with_child ((a, x) ∷ []) b y;
}

-- that over the part under a name and over a leaf, which have different bytes
abbrev pub split_held : {K V : Type 0} → ℕ → List ℕ → Parted → Name → ℕ → Held K V
split_held P prefix parted old leaf =
    inner_held (split_node P prefix parted.old_byte old parted.new_byte (leaf_name leaf))
