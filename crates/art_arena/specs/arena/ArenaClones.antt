-- What a clone of an arena has under each name.
use Rattle.std.specs.Prelude.{◌≡◌, Option, Some, None}
use Rattle.slab.specs.Slab.{slab_len}
use Rattle.art_nodes.specs.Leaf.{IsLeafClone}
use Rattle.art_nodes.specs.Name.{Name}
use Rattle.art_nodes.specs.declared.leaf.LeafNode.{LeafNode}
use Rattle.art_arena.specs.arena.Arena.{Arena, Held, leaf_held, inner_held, held_at}

module _ {K V : Type 0} (KeyClone : K → K → Type 0) (ValueClone : V → V → Type 0) where
  -- what stands under a name of the clone, by what stands under it in the original: a clone of the leaf with the same
  -- neighbours, the same inner node, or nothing
  abbrev pub IsHeldClone : Option (Held K V) → Option (Held K V) → Type 0
  IsHeldClone None copy = copy ≡ None
  IsHeldClone (Some (leaf_held leaf)) copy =
      (twin : LeafNode K V) × (copy ≡ Some (leaf_held twin)) × IsLeafClone KeyClone ValueClone leaf twin
  IsHeldClone (Some (inner_held node)) copy = copy ≡ Some (inner_held node)

  -- so under every name
  abbrev pub IsArenaClone : Arena K V → Arena K V → Type 0
  IsArenaClone arena copy = (n : Name) → IsHeldClone (held_at arena n) (held_at copy n)

-- of each kind the copy has room for as many nodes as the arena holds, and for no more
pub record HasNoSpare {K V : Type 0} (arena copy : Arena K V) : Type 0 where
  pub leaves : copy.leaves.capacity ≡ slab_len arena.leaves
  pub nodes4 : copy.nodes4.capacity ≡ slab_len arena.nodes4
  pub nodes16 : copy.nodes16.capacity ≡ slab_len arena.nodes16
  pub nodes32 : copy.nodes32.capacity ≡ slab_len arena.nodes32
  pub nodes48 : copy.nodes48.capacity ≡ slab_len arena.nodes48
  pub nodes256 : copy.nodes256.capacity ≡ slab_len arena.nodes256
