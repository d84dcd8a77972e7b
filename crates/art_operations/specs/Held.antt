-- The node under a name in an arena, and an edit that leaves the links alone.
use Rattle.std.specs.Prelude.{◌≡◌, ℕ, Some}
use Rattle.art_nodes.specs.InnerNode.{InnerNode}
use Rattle.art_nodes.specs.Name.{Name}
use Rattle.art_nodes.specs.declared.leaf.LeafNode.{LeafNode}
use Rattle.art_arena.specs.arena.Arena.{Arena, held_at, inner_held, leaf_held, links_at}
use Rattle.art_arena.specs.arena.Cells.{leaf_name}

module _ {K V : Type 0} where
  -- this inner node stands under the name
  abbrev pub HasInner : Arena K V → Name → InnerNode → Type 0
  HasInner arena name node = held_at arena name ≡ Some (inner_held node)

  -- this leaf has the slab key
  abbrev pub HasLeaf : Arena K V → ℕ → LeafNode K V → Type 0
  HasLeaf arena slot leaf = held_at arena (leaf_name slot) ≡ Some (leaf_held leaf)

  -- every leaf has the links that it had
  abbrev pub SameLinks : Arena K V → Arena K V → Type 0
  SameLinks old new = (slot : ℕ) → links_at new slot ≡ links_at old slot
