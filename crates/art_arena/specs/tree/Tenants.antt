-- A part of the keys: those that begin with a front, as those of one tenant do.
use Rattle.std.specs.Prelude.{ℕ, ◌==◌, ◌&&◌, not, bytes_eq, Bool, true, false, List, [], ◌∷◌, length, map, filter}
use Rattle.art_arena.specs.tree.Fronts.{distinct}
use Rattle.art_bytes.specs.Keys.{common_prefix}

-- the test that k begins with the front
abbrev pub begins_with : List ℕ → List ℕ → Bool
begins_with [] k = true
begins_with (a ∷ front) [] = false
begins_with (a ∷ front) (b ∷ k) = (a == b) && begins_with front k

-- the items whose keys begin with the front
abbrev pub with_front : {X : Type 0} → (X → List ℕ) → List ℕ → List X → List X
with_front key front xs = filter (λ x. begins_with front (key x)) xs

-- the items whose keys do not
abbrev pub without_front : {X : Type 0} → (X → List ℕ) → List ℕ → List X → List X
without_front key front xs = filter (λ x. not (begins_with front (key x))) xs

-- how many different longest common fronts the front has with the other keys
abbrev pub crossings : {X : Type 0} → (X → List ℕ) → List ℕ → List X → ℕ
crossings key front xs =
    length (distinct bytes_eq (map (λ x. common_prefix front (key x)) (without_front key front xs)))
