-- Which leaf has a key, before a change and after it.
use Rattle.std.specs.Prelude.{◌≡◌, ℕ, List, Some}
use Rattle.art_arena.specs.arena.Arena.{Arena, node_at}
use Rattle.art_arena.specs.arena.Cells.{leaf_name, pair}
use Rattle.art_arena.specs.arena.Shapes.{key_of}
use Rattle.art_operations.specs.KeyedLists.{HasKey}

module _ {K V : Type 0} (bytes : K → List ℕ) where
  -- the leaf with this slab key has a key of these bytes
  abbrev pub HasKeyAt : Arena K V → ℕ → List ℕ → Type 0
  HasKeyAt arena slot key =
      (k : K) × (v : V) × (node_at arena (leaf_name slot) ≡ Some (pair k v)) × (bytes k ≡ key)

  -- each leaf of the second arena stands in the first one, with a key of the same bytes
  abbrev pub HasLeavesOf : Arena K V → Arena K V → Type 0
  HasLeavesOf one other = (slot : ℕ) (key : List ℕ) → HasKeyAt other slot key → HasKeyAt one slot key

  -- each leaf whose key one of these pairs still has keeps it
  abbrev pub KeepsLeavesOf : List (K × V) → Arena K V → Arena K V → Type 0
  KeepsLeavesOf left old new =
      (slot : ℕ) (key : List ℕ) → HasKeyAt old slot key → HasKey (key_of bytes) key left → HasKeyAt new slot key
