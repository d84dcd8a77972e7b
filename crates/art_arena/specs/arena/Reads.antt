-- How many nodes a walk reads, told by the keys.
use Rattle.std.specs.Prelude.{◌≡◌, ℕ, ◌+◌, ◌-◌, ◌^◌, ◌≤◌, min, List, length, drop, if◌then◌else◌, Option, None, Some}
use Rattle.std.specs.List.{AllByRecursion}
use Rattle.art_nodes.specs.Name.{Name}
use Rattle.art_nodes.specs.InnerNode.{InnerNode}
use Rattle.art_nodes.specs.declared.leaf.LeafNode.{LeafNode}
use Rattle.art_arena.specs.arena.Arena.{Arena, Held, held_at, inner_held, leaf_held}
use Rattle.art_arena.specs.arena.Cells.{leaf_name}
use Rattle.art_arena.specs.arena.Linked.{first_slot}
use Rattle.art_arena.specs.arena.Shapes.{Shape, LeafAt, erase, leaves}
use Rattle.art_arena.specs.arena.Stores.{StoresAt}
use Rattle.art_arena.specs.tree.Paths.{path_of}
use Rattle.art_arena.specs.tree.Trees.{Tree}
use Rattle.art_arena.specs.tree.Ways.{is_cut, path_to_guide}

-- So many nodes were read at least. The greatest count stays, so a count never falls.
abbrev pub ReadsAtLeast : ℕ → ℕ → ℕ → Type 0
ReadsAtLeast n old new = min (old + n) (2 ^ 64 - 1) ≤ new

-- So many nodes were read, no more and no fewer. The greatest count stays.
abbrev pub ReadsExactly : ℕ → ℕ → ℕ → Type 0
ReadsExactly n old new = new ≡ min (old + n) (2 ^ 64 - 1)

-- what a descent by all bytes reads for a prefix at this part: if it isn't wholly stored, a guide, unless it has one
abbrev pub guide_cost : {X Y : Type 0} → Option X → ℕ → Tree Y → List ℕ → ℕ
guide_cost (Some guide) P t k = 0
guide_cost None P t k = if is_cut P t then length (path_to_guide t k) - 1 else 0

-- as many nodes were read as the key's path has after the first of them; the greatest count stays
abbrev pub ReadsAfter : {K V : Type 0} → List ℕ → Shape K V → ℕ → ℕ → Type 0
ReadsAfter key s old new = new ≡ min (old + (length (path_of (erase s) key) - 1)) (2 ^ 64 - 1)

-- A descent that ends after so many bytes of its key: a node for each of them, the node there, and one way down to a
-- leaf.
abbrev pub DescentReads : ℕ → ℕ → ℕ → ℕ → Type 0
DescentReads longest depth old new = new ≤ old + (depth + (longest + 1))

-- how much a descent may yet read for prefixes that aren't wholly stored: one way down to a leaf, until it has a guide
abbrev pub unguided : {X : Type 0} → Option X → ℕ → ℕ
unguided None longest = longest
unguided (Some guide) longest = 0

module _ {K V : Type 0} (bytes : K → List ℕ) where
  -- no leaf's key has more bytes than this
  abbrev pub KeysWithin : ℕ → List (LeafAt K V) → Type 0
  KeysWithin longest ls = AllByRecursion (λ l. length (bytes l.key) ≤ longest) ls

  -- the nodes after the root of this part were read on the way to its first leaf, that leaf among them
  abbrev pub ReadsToFirst : Arena K V → List ℕ → Shape K V → ℕ → ℕ → Type 0
  ReadsToFirst arena path s old new =
      (slot : ℕ) (leaf : LeafNode K V) → first_slot (leaves s) None ≡ Some slot
      → held_at arena (leaf_name slot) ≡ Some (leaf_held leaf)
      → ReadsAfter (drop (length path) (bytes leaf.key)) s old new

  module _ (P : ℕ) (arena : Arena K V) where
    -- this node was read, and is the root of this part, which is canonical under a path of so many bytes
    pub record IsVisitedAt (node : Held K V) (root : Name) (depth : ℕ) (path : List ℕ) (s : Shape K V) : Type 0 where
      pub stands : StoresAt bytes P arena root depth path s
      pub held : held_at arena root ≡ Some node

    -- so was this inner node
    abbrev pub IsReadAt : InnerNode → Name → ℕ → List ℕ → Shape K V → Type 0
    IsReadAt node root depth path s = IsVisitedAt (inner_held node) root depth path s
