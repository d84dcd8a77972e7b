-- Byte strings, of which keys are made: their order, fronts and conflicts, and how far two of them agree.
use Rattle.std.specs.Prelude.{◌≡◌, ◌≢◌, ℕ, suc, ◌<◌, ◌⊎◌, ◌==◌, nat_eq, nat_lt, Bool, ◌&&◌, ◌||◌, if◌then◌else◌}
use Rattle.std.specs.Prelude.{List, [], ◌∷◌, ◌++◌, length, All}
use Rattle.std.specs.declared.cmp.Ordering.{Ordering}
use Rattle.std.specs.List.{AllByRecursion, starts_with}
use Rattle.std.specs.Ordering.{nat_cmp, is_lt}
use Rattle.std.specs.Cmp.Lexicographic.{slice_cmp}

-- each is a byte, below 256
abbrev pub AreBytes : List ℕ → Type 0
AreBytes bytes = All (λ b. b < 256) bytes

-- none is zero
abbrev pub HasNoZero : List ℕ → Type 0
HasNoZero bytes = AllByRecursion (λ b. b ≢ 0) bytes

-- byte order: the first pair of different bytes decides, and else a shorter front comes first
abbrev pub bytes_cmp : List ℕ → List ℕ → Ordering
bytes_cmp k l = slice_cmp nat_cmp k l

-- k is below l in byte order
abbrev pub is_below : List ℕ → List ℕ → Bool
is_below k l = is_lt (bytes_cmp k l)

-- k is front, and then more bytes or none
abbrev pub BeginsWith : List ℕ → List ℕ → Type 0
BeginsWith front k = (rest : List ℕ) × (k ≡ front ++ rest)

-- new is old, and then a front of these bytes
abbrev pub AppendsFrontOf : List ℕ → List ℕ → List ℕ → Type 0
AppendsFrontOf bytes old new = (front : List ℕ) × BeginsWith front bytes × (new ≡ old ++ front)

-- l is k, and then one byte or more
abbrev pub IsProperFront : List ℕ → List ℕ → Type 0
IsProperFront k l = (byte : ℕ) × (rest : List ℕ) × (l ≡ k ++ byte ∷ rest)

-- two different keys, one of which is a front of the other
abbrev pub Conflict : List ℕ → List ℕ → Type 0
Conflict k l = (k ≢ l) × (BeginsWith k l ⊎ BeginsWith l k)

-- the same two as tests: k is a front of l, and l is longer; one of both is a proper front of the other
abbrev pub is_proper_front : List ℕ → List ℕ → Bool
is_proper_front k l = nat_lt (length k) (length l) && starts_with nat_eq l k

abbrev pub conflicts : List ℕ → List ℕ → Bool
conflicts k l = is_proper_front k l || is_proper_front l k

-- k and l diverge, and k goes on by the smaller byte: after a front that both have, both have a byte
abbrev pub IsBefore : List ℕ → List ℕ → Type 0
IsBefore [] l = ⊥
IsBefore (a ∷ k) [] = ⊥
IsBefore (a ∷ k) (b ∷ l) = (a < b) ⊎ ((a ≡ b) × IsBefore k l)

-- the longest common prefix of two: the longest front that both have
abbrev pub common_prefix : List ℕ → List ℕ → List ℕ
common_prefix [] l = []
common_prefix (a ∷ k) [] = []
common_prefix (a ∷ k) (b ∷ l) = if a == b then a ∷ common_prefix k l else []

-- the longest common prefix of all: of the keys of these items, and of none nothing
abbrev pub shared_prefix : {X : Type 0} → (X → List ℕ) → List X → List ℕ
shared_prefix key [] = []
shared_prefix key (x ∷ []) = key x
shared_prefix key (x ∷ y ∷ ys) = common_prefix (key x) (shared_prefix key (y ∷ ys))

-- how many bytes two agree on from the front: where they diverge, or where one of them ends
abbrev pub agreeing : List ℕ → List ℕ → ℕ
agreeing [] l = 0
agreeing (a ∷ k) [] = 0
agreeing (a ∷ k) (b ∷ l) = if a == b then suc (agreeing k l) else 0
