-- Which leaf of a set has a key, before a call and after it; and a set whose nodes are what they were, or clones.
use Rattle.std.specs.Prelude.{◌≡◌, ℕ, List}
use Rattle.art_arena.specs.arena.Arena.{KeepsRoomOf, SameNodes}
use Rattle.art_arena.specs.arena.ArenaClones.{IsArenaClone}
use Rattle.art_operations.specs.KeyedLists.{HasKey}
use Rattle.art_operations.specs.LeafNames.{HasKeyAt, HasLeavesOf}
use Rattle.art_set.specs.Members.{Members}

module _ {K : Type 0} (bytes : K → List ℕ) where
  -- each leaf has the key that it had: none went
  abbrev pub KeepsAllNames : Members K → Members K → Type 0
  KeepsAllNames old new = HasLeavesOf bytes new.nodes old.nodes

  -- each key that the set still has stands in the leaf that had it
  abbrev pub KeepsNames : Members K → Members K → Type 0
  KeepsNames old new =
      (slot : ℕ) (key : List ℕ) → HasKeyAt bytes old.nodes slot key → HasKey bytes key new.keys
      → HasKeyAt bytes new.nodes slot key

-- every node of a set is what it was, and its root has the same name
abbrev pub HasSameSetNodes : {K : Type 0} → Members K → Members K → Type 0
HasSameSetNodes old new = SameNodes old.nodes new.nodes × (new.root ≡ old.root)

-- and what room there was for nodes of each kind stays
abbrev pub IsSetUntouched : {K : Type 0} → Members K → Members K → Type 0
IsSetUntouched old new = SameNodes old.nodes new.nodes × (new.root ≡ old.root) × KeepsRoomOf old.nodes new.nodes

-- the leaves of a set's copy have clones of its keys under the same names, its inner nodes are the same, and so is its
-- root
abbrev pub IsSetClone : {K : Type 0} → (K → K → Type 0) → Members K → Members K → Type 0
IsSetClone KeyClone old copy =
    IsArenaClone KeyClone (λ (v w : Unit {0}). w ≡ v) old.nodes copy.nodes × (copy.root ≡ old.root)
