-- Which block of a table holds an address.
use Rattle.std.specs.Prelude.{◌≡◌, ℕ, Bool, true, false, List, Option, Some, None}
use Rattle.std.specs.Global.{Vec}
use Rattle.art_bytes.specs.Keys.{BeginsWith, Conflict}
use Rattle.art_arena.specs.tree.Changes.{IsIn}
use Rattle.art_operations.specs.Pairs.{with_pair_put}

-- a block by its first octets, and its owner
module _ {Owner : Type 0} where
  -- the address begins with the block's octets
  abbrev pub Covers : Vec ℕ × Owner → List ℕ → Type 0
  Covers block address = BeginsWith block.0.items address

  -- no block of the table holds the address, or this one does and no other
  abbrev pub IsBlockOf : List ℕ → List (Vec ℕ × Owner) → Option (Vec ℕ × Owner) → Type 0
  IsBlockOf address blocks None = (block : Vec ℕ × Owner) → IsIn block blocks → Covers block address → ⊥
  IsBlockOf address blocks (Some found) =
      IsIn found blocks × Covers found address
      × ((block : Vec ℕ × Owner) → IsIn block blocks → Covers block address → block ≡ found)

  -- The block was added, in the place of the one of its octets if there was one, every other stays, no other comes,
  -- and each address that it holds is its own; or nothing was changed, since a block of the table holds it, or it holds
  -- one.
  abbrev pub IsBlockAdded : Bool → Vec ℕ × Owner → List (Vec ℕ × Owner) → List (Vec ℕ × Owner) → Type 0
  IsBlockAdded true block old new =
      (new ≡ with_pair_put (λ k. k.items) block.0 block.1 old)
      × ((address : List ℕ) → Covers block address → IsBlockOf address new (Some block))
  IsBlockAdded false block old new =
      (new ≡ old) × (other : Vec ℕ × Owner) × IsIn other old × Conflict block.0.items other.0.items
