-- The fronts that keys share, and how wide they are: what the inner nodes are, told without any tree.
use Rattle.std.specs.Prelude.{ℕ, ◌==◌, nat_eq, bytes_eq, Bool, if◌then◌else◌, List, [], ◌∷◌, length, count_by, map}
use Rattle.std.specs.Prelude.{Option, Some, None}
use Rattle.std.specs.List.{list_any, filter_map}
use Rattle.art_bytes.specs.Keys.{common_prefix}

-- each element once
abbrev pub distinct : {A : Type 0} → (A → A → Bool) → List A → List A
distinct same [] = []
distinct same (x ∷ xs) = if list_any (same x) xs then distinct same xs else x ∷ distinct same xs

-- the longest common front of each two neighbours
abbrev pub neighbour_fronts : {X : Type 0} → (X → List ℕ) → List X → List (List ℕ)
neighbour_fronts key [] = []
neighbour_fronts key (x ∷ []) = []
neighbour_fronts key (x ∷ y ∷ ys) = common_prefix (key x) (key y) ∷ neighbour_fronts key (y ∷ ys)

-- the different longest common fronts of neighbours
abbrev pub fronts_of : {X : Type 0} → (X → List ℕ) → List X → List (List ℕ)
fronts_of key xs = distinct bytes_eq (neighbour_fronts key xs)

-- the byte after the front, where k goes on after it
abbrev pub byte_after : List ℕ → List ℕ → Option ℕ
byte_after [] [] = None
byte_after [] (b ∷ k) = Some b
byte_after (a ∷ front) [] = None
byte_after (a ∷ front) (b ∷ k) = if a == b then byte_after front k else None

-- the bytes after the front, one for each key that goes on after it
abbrev pub bytes_after : {X : Type 0} → (X → List ℕ) → List ℕ → List X → List ℕ
bytes_after key front xs = filter_map (λ x. byte_after front (key x)) xs

-- how many different bytes follow the front
abbrev pub width_of : {X : Type 0} → (X → List ℕ) → List X → List ℕ → ℕ
width_of key xs front = length (distinct nat_eq (bytes_after key front xs))

-- how many fronts have a width that passes the test
abbrev pub fronts_with : {X : Type 0} → (ℕ → Bool) → (X → List ℕ) → List X → ℕ
fronts_with test key xs = count_by (λ front. test (width_of key xs front)) (fronts_of key xs)

-- the different longest common fronts of k with the keys
abbrev pub meetings_of : {X : Type 0} → (X → List ℕ) → List ℕ → List X → List (List ℕ)
meetings_of key k xs = distinct bytes_eq (map (λ x. common_prefix k (key x)) xs)
