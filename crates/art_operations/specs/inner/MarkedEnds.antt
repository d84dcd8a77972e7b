-- Candidates for the longest marked key: what a way down the tree by lengths alone comes by.
use Rattle.std.specs.Prelude.{◌≡◌, ℕ, ◌≤◌, List, [], ◌∷◌, ◌++◌, length, take, Option, Some, None}
use Rattle.art_bytes.specs.Keys.{BeginsWith}
use Rattle.art_arena.specs.arena.Shapes.{Shape, Branches, LeafAt, leaves, leaves_in}
use Rattle.art_arena.specs.tree.Changes.{IsIn}
use Rattle.art_operations.specs.Marked.{marked_key}

-- the key is so many bytes of the query, and the mark after them
abbrev pub IsMarkedBy : List ℕ → ℕ → ℕ → List ℕ → Type 0
IsMarkedBy query mark n key = (n ≤ length query) × (key ≡ marked_key query mark n)

-- the key is some bytes of the query, and the mark after them
abbrev pub IsMarked : List ℕ → ℕ → List ℕ → Type 0
IsMarked query mark key = (n : ℕ) × IsMarkedBy query mark n key

-- the key is so many bytes, and the mark after them
abbrev pub EndsAt : ℕ → ℕ → List ℕ → Type 0
EndsAt n mark key = (body : List ℕ) × (length body ≡ n) × (key ≡ body ++ mark ∷ [])

module _ {K V : Type 0} (bytes : K → List ℕ) where
  -- a leaf with this slab key is among these, and its key is so many bytes, and the mark after them
  pub record EndsAmong (ls : List (LeafAt K V)) (n mark slot : ℕ) : Type 0 where
    pub leaf : LeafAt K V
    pub among : IsIn leaf ls
    pub slot_is : leaf.slot ≡ slot
    pub ends : EndsAt n mark (bytes leaf.key)

  -- such a leaf below these branches, which stand after a path of so many bytes; or none has the path and the mark
  abbrev pub IsMarkedChild : List ℕ → Branches K V → ℕ → Option ℕ → Type 0
  IsMarkedChild path kids mark None =
      (l : LeafAt K V) → IsIn l (leaves_in kids) → bytes l.key ≡ path ++ mark ∷ [] → ⊥
  IsMarkedChild path kids mark (Some slot) = EndsAmong (leaves_in kids) (length path) mark slot

  module _ (query : List ℕ) (mark : ℕ) (s : Shape K V) where
    -- no leaf's key is some bytes of the query and the mark
    abbrev pub NoneMarked : Type 0
    NoneMarked = (l : LeafAt K V) (n : ℕ) → IsIn l (leaves s) → IsMarkedBy query mark n (bytes l.key) → ⊥

    -- A leaf with this slab key, whose key ends with the mark after no more bytes than the query has. It begins with
    -- the bytes of each that is marked.
    pub record IsDeepest (slot : ℕ) : Type 0 where
      pub leaf : LeafAt K V
      pub among : IsIn leaf (leaves s)
      pub slot_is : leaf.slot ≡ slot
      pub len : ℕ
      pub short : len ≤ length query
      pub ends : EndsAt len mark (bytes leaf.key)
      pub begins : (l : LeafAt K V) (n : ℕ) → IsIn l (leaves s) → IsMarkedBy query mark n (bytes l.key)
          → BeginsWith (take n query) (bytes leaf.key)
