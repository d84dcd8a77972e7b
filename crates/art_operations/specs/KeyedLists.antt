-- Lists of items with keys.
use Rattle.std.specs.Prelude.{◌≡◌, ℕ, Bool, ◌||◌, List, filter, not, bytes_eq}
use Rattle.art_bytes.specs.Keys.{Conflict}
use Rattle.art_arena.specs.tree.Changes.{IsIn}
use Rattle.art_arena.specs.tree.Tenants.{begins_with}

-- the items that have the key, and those that do not
abbrev pub with_key : {X : Type 0} → (X → List ℕ) → List ℕ → List X → List X
with_key key k xs = filter (λ x. bytes_eq (key x) k) xs

abbrev pub without_key : {X : Type 0} → (X → List ℕ) → List ℕ → List X → List X
without_key key k xs = filter (λ x. not (bytes_eq (key x) k)) xs

-- some item has the key
abbrev pub HasKey : {X : Type 0} → (X → List ℕ) → List ℕ → List X → Type 0
HasKey {X} key k xs = (x : X) × IsIn x xs × (key x ≡ k)

-- the key of some item is a front of the key, or this one of that
abbrev pub IsBlocked : {X : Type 0} → (X → List ℕ) → List ℕ → List X → Type 0
IsBlocked {X} key k xs = (x : X) × IsIn x xs × Conflict k (key x)

-- the test that two keys overlap: they are the same, or one is a front of the other
abbrev pub overlaps : List ℕ → List ℕ → Bool
overlaps k l = begins_with k l || begins_with l k

-- the items whose keys overlap the key, and those whose keys do not
abbrev pub overlapping : {X : Type 0} → (X → List ℕ) → List ℕ → List X → List X
overlapping key k xs = filter (λ x. overlaps k (key x)) xs

abbrev pub without_overlapping : {X : Type 0} → (X → List ℕ) → List ℕ → List X → List X
without_overlapping key k xs = filter (λ x. not (overlaps k (key x))) xs
