-- Children in a table: a place for each byte, and a mark for each byte that has a child.
use Rattle.std.specs.Prelude.{◌≡◌, ℕ, zero, suc, ◌+◌, ◌≤◌, List, [], ◌∷◌, length, map, Option, Some, None}
use Rattle.art_nodes.specs.Header.{Header}
use Rattle.art_nodes.specs.Name.{Name}

-- the children in a table whose first place is that of the byte `first`
abbrev pub children_from : {N : Type 0} → ℕ → List (Option N) → List (ℕ × N)
children_from first [] = []
children_from first (None ∷ rest) = children_from (first + 1) rest
children_from first (Some name ∷ rest) = (first, name) ∷ children_from (first + 1) rest

-- what stands at a place of a table: nothing past its end
abbrev pub entry_at : {N : Type 0} → List (Option N) → ℕ → Option N
entry_at [] i = None
entry_at (x ∷ rest) zero = x
entry_at (x ∷ rest) (suc i) = entry_at rest i

-- the bytes of children
abbrev pub bytes_of : {N : Type 0} → List (ℕ × N) → List ℕ
bytes_of children = map (λ c. c.0) children

-- a place for each byte, and those are marked whose places hold a name
pub record IsMarkedTable (marks : List ℕ) (slots : List (Option Name)) : Type 0 where
  pub whole : length slots ≡ 256
  pub marked : marks ≡ bytes_of (children_from 0 slots)

-- the header counts them
pub record IsCountedTable (header : Header) (marks : List ℕ) (slots : List (Option Name)) : Type 0 where
  pub table : IsMarkedTable marks slots
  pub counts : header.num_children ≡ length marks

-- such a table, and bounds that lie within it
pub record IsPartOfTable (from to : ℕ) (marks : List ℕ) (slots : List (Option Name)) : Type 0 where
  pub forward : from ≤ to
  pub fits : to ≤ 256
  pub table : IsMarkedTable marks slots
