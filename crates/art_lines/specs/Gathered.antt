-- Text that is gathered in a room before it is written.
use Rattle.std.specs.Prelude.{◌≡◌, ℕ, ◌+◌, ◌≤◌, List, [], ◌∷◌, ◌++◌, length, take, codes, decimal}

-- A text was put at a place: what stands before it stayed, and this is the place after it.
pub record Puts (next at : ℕ) (text old new : List ℕ) : Type 0 where
  pub next_is : next ≡ at + length text
  pub output : take next new ≡ take at old ++ text

-- Of a text, a part was taken and a rest is left.
pub record IsPartTaken (before now rest text : List ℕ) : Type 0 where
  pub begun : List ℕ
  pub parts : begun ++ rest ≡ text
  pub output : now ≡ before ++ begun

-- what the lines of a tenant's records begin with
abbrev pub head_of : ℕ → List ℕ
head_of tenant = codes "put " ++ decimal tenant ++ 32 ∷ []

-- The first so many of these bytes are what the lines of a tenant's records begin with.
pub record IsHead (tenant : ℕ) (text : List ℕ) (len : ℕ) : Type 0 where
  pub long : length text ≡ 16
  pub fits : len ≤ 16
  pub output : take len text ≡ head_of tenant
