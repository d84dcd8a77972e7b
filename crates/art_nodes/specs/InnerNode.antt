-- What a contract sees of an inner node of any kind: a header, and a finite map from byte to name, as a list by
-- ascending byte.
use Rattle.std.specs.Prelude.{◌≡◌, ℕ, ◌+◌, ◌<◌, ◌≤◌, ◌⊎◌, ◌==◌, nat_lt, nat_le, Bool, true, ◌&&◌, if◌then◌else◌}
use Rattle.std.specs.Prelude.{List, [], ◌∷◌, length, map, filter, Option, Some, None, IsSome}
use Rattle.std.specs.Range.Bound.{IsForward}
use Rattle.std.specs.declared.ops.Bound.{Bound}
use Rattle.std.specs.declared.ops.Bound.TheVariants.{Included, Excluded, Unbounded}
use Rattle.art_nodes.specs.Header.{Header, IsHeader}
use Rattle.art_nodes.specs.Name.{Name}

module _ {N : Type 0} where
  -- each byte is a byte, at least `low`, and below the next
  abbrev pub IsAscendingFrom : ℕ → List (ℕ × N) → Type 0
  IsAscendingFrom low [] = Unit {0}
  IsAscendingFrom low (c ∷ rest) = (low ≤ c.0) × (c.0 < 256) × IsAscendingFrom (c.0 + 1) rest

  abbrev pub IsAscending : List (ℕ × N) → Type 0
  IsAscending children = IsAscendingFrom 0 children

  -- the child under a byte
  abbrev pub child_at : List (ℕ × N) → ℕ → Option N
  child_at [] byte = None
  child_at (c ∷ rest) byte = if c.0 == byte then Some c.1 else child_at rest byte

  -- the children with this one under the byte, in place of one that stood there
  abbrev pub with_child : List (ℕ × N) → ℕ → N → List (ℕ × N)
  with_child [] byte name = (byte, name) ∷ []
  with_child (c ∷ rest) byte name =
      if nat_lt c.0 byte then c ∷ with_child rest byte name
      else if c.0 == byte then (byte, name) ∷ rest
      else (byte, name) ∷ c ∷ rest

  -- the children without the one under the byte
  abbrev pub without_child : List (ℕ × N) → ℕ → List (ℕ × N)
  without_child [] byte = []
  without_child (c ∷ rest) byte = if c.0 == byte then rest else c ∷ without_child rest byte

  -- a child may be written under the byte: there is room for one more, or one stands there
  abbrev pub MayWrite : ℕ → List (ℕ × N) → ℕ → Type 0
  MayWrite room children byte = (length children < room) ⊎ IsSome (child_at children byte)

  -- the names of the children, by ascending byte
  abbrev pub names_of : List (ℕ × N) → List N
  names_of children = map (λ c. c.1) children

  -- the child under the smallest byte, with its byte
  abbrev pub first_child : List (ℕ × N) → Option (ℕ × N)
  first_child [] = None
  first_child (c ∷ rest) = Some c

  -- the child under the greatest byte, with its byte
  abbrev pub last_child : List (ℕ × N) → Option (ℕ × N)
  last_child [] = None
  last_child (c ∷ rest) = last_or c rest
    where
      last_or : ℕ × N → List (ℕ × N) → Option (ℕ × N)
      last_or c [] = Some c
      last_or c (d ∷ rest) = last_or d rest

-- the byte is not before this start, not past this end
abbrev pub is_from : Bound ℕ → ℕ → Bool
is_from (Included a) byte = nat_le a byte
is_from (Excluded a) byte = nat_lt a byte
is_from Unbounded byte = true

abbrev pub is_to : Bound ℕ → ℕ → Bool
is_to (Included b) byte = nat_le byte b
is_to (Excluded b) byte = nat_lt byte b
is_to Unbounded byte = true

-- the children whose bytes lie between two bounds
abbrev pub children_between : {N : Type 0} → Bound ℕ → Bound ℕ → List (ℕ × N) → List (ℕ × N)
children_between start end children = filter (λ c. is_from start c.0 && is_to end c.0) children

-- bounds that may be asked for: where both are named, the start isn't above the end, nor are they equal and both
-- excluded
abbrev pub AreValidBounds : Bound ℕ → Bound ℕ → Type 0
AreValidBounds start end = IsForward (λ a b. a ≤ b) (λ a b. a < b) start end

pub record InnerNode : Type 0 where
  pub header : Header
  pub children : List (ℕ × Name)

-- a node of these children, and the rest of its header as it was
abbrev pub with_children : InnerNode → List (ℕ × Name) → InnerNode
with_children node children =
    record { header = record node.header { num_children = length children }; children = children }

-- a node of no children with this header
abbrev pub childless : Header → InnerNode
childless header = record { header = header; children = [] }

-- the node with this child under the byte, in place of one that stood there
abbrev pub node_with : InnerNode → ℕ → Name → InnerNode
node_with node byte name = with_children node (with_child node.children byte name)

-- the node without the child under the byte
abbrev pub node_without : InnerNode → ℕ → InnerNode
node_without node byte = with_children node (without_child node.children byte)

-- the node with the prefix of this header
abbrev pub with_prefix_of : Header → InnerNode → InnerNode
with_prefix_of prefix node = record node { header = record prefix { num_children = node.header.num_children } }

-- what holds of each inner node: the header counts the children, they ascend, and there is room for them
pub record IsInnerNode (prefix_room room : ℕ) (node : InnerNode) : Type 0 where
  pub header : IsHeader prefix_room node.header
  pub counts : node.header.num_children ≡ length node.children
  pub ascending : IsAscending node.children
  pub fits : length node.children ≤ room
