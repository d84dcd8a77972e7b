-- Which leaf of a map has a key, before a call and after it.
use Rattle.std.specs.Prelude.{◌≡◌, ℕ, List}
use Rattle.art_arena.specs.arena.Shapes.{key_of}
use Rattle.art_operations.specs.KeyedLists.{HasKey}
use Rattle.art_operations.specs.LeafNames.{HasKeyAt, HasLeavesOf, KeepsLeavesOf}
use Rattle.art_map.specs.Contents.{Contents}

module _ {K V : Type 0} (bytes : K → List ℕ) where
  -- each key that the map still has stands in the leaf that had it
  abbrev pub KeepsLeaves : Contents K V → Contents K V → Type 0
  KeepsLeaves old new = KeepsLeavesOf bytes new.pairs old.nodes new.nodes

  -- each leaf has the key that it had: none went
  abbrev pub KeepsAllLeaves : Contents K V → Contents K V → Type 0
  KeepsAllLeaves old new = HasLeavesOf bytes new.nodes old.nodes

  -- each leaf had the key that it has: none is new
  abbrev pub AddsNoLeaf : Contents K V → Contents K V → Type 0
  AddsNoLeaf old new = HasLeavesOf bytes old.nodes new.nodes

  -- each key stands in one leaf, and no leaf has another key
  pub record AreNamed (m : Contents K V) : Type 0 where
    pub stands : (key : List ℕ) → HasKey (key_of bytes) key m.pairs → (slot : ℕ) × HasKeyAt bytes m.nodes slot key
    pub once : (key : List ℕ) (a b : ℕ) → HasKeyAt bytes m.nodes a key → HasKeyAt bytes m.nodes b key → a ≡ b
    pub listed : (slot : ℕ) (key : List ℕ) → HasKeyAt bytes m.nodes slot key → HasKey (key_of bytes) key m.pairs
