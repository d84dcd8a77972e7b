-- When a removal makes a node smaller, by the keys alone.
use Rattle.std.specs.Prelude.{◌≡◌, ◌≢◌, ℕ, zero, suc, ◌≤◌, Bool, if◌then◌else◌, List, length}
use Rattle.art_bytes.specs.Keys.{BeginsWith, common_prefix}
use Rattle.art_arena.specs.tree.Changes.{IsIn}
use Rattle.art_arena.specs.tree.Kinds.{IsLimit}
use Rattle.art_arena.specs.tree.Fronts.{width_of}

-- m is the longest front that k shares with another key
abbrev pub IsMeeting : {X : Type 0} → (X → List ℕ) → List X → List ℕ → List ℕ → Type 0
IsMeeting {X} key xs k m =
    ((y : X) × IsIn y xs × (key y ≢ k) × (common_prefix k (key y) ≡ m))
    × ((z : X) → IsIn z xs → key z ≢ k → length (common_prefix k (key z)) ≤ length m)

-- the longest front that k shares with another key has a width of which the loss of one changes the kind
abbrev pub Shrinks : {X : Type 0} → (X → List ℕ) → List X → List ℕ → Type 0
Shrinks key xs k = (m : List ℕ) × IsMeeting key xs k m × IsLimit (width_of key xs m)

-- m is the longest front that the front shares with a key that doesn't begin with it
abbrev pub IsCrossing : {X : Type 0} → (X → List ℕ) → List X → List ℕ → List ℕ → Type 0
IsCrossing {X} key xs front m =
    ((y : X) × IsIn y xs × (BeginsWith front (key y) → ⊥) × (common_prefix front (key y) ≡ m))
    × ((z : X) → IsIn z xs → (BeginsWith front (key z) → ⊥) → length (common_prefix front (key z)) ≤ length m)

-- 1 where the test holds
abbrev pub one_if : Bool → ℕ
one_if b = if b then 1 else 0

-- whether what is left of a node of n children without one of them passes the test: nothing is left of a node of two
abbrev pub one_fewer : (ℕ → Bool) → ℕ → ℕ
one_fewer test zero = 0
one_fewer test (suc zero) = 0
one_fewer test (suc (suc zero)) = 0
one_fewer test (suc (suc (suc n))) = one_if (test (suc (suc n)))
