-- The table of kinds: what an inner node of each kind holds, and the kinds beside it.
use Rattle.std.specs.Prelude.{ℕ, ◌≤◌, Some, None, IsSomeAnd, unwrap_or}
use Rattle.art_nodes.specs.declared.kind.NodeType.{NodeType}
use Rattle.art_nodes.specs.declared.kind.NodeType.TheVariants.{Node4, Node16, Node32, Node48, Node256, Leaf}
use Rattle.art_nodes.specs.declared.kind.KindRow.{KindRow}

-- the fewest and the most children in a canonical tree, the next larger and the next smaller kind
abbrev pub row_of : NodeType → KindRow
row_of Node4 = record { fewest = 2; most = 4; larger = Some Node16; smaller = None }
row_of Node16 = record { fewest = 5; most = 16; larger = Some Node32; smaller = Some Node4 }
row_of Node32 = record { fewest = 17; most = 32; larger = Some Node48; smaller = Some Node16 }
row_of Node48 = record { fewest = 33; most = 48; larger = Some Node256; smaller = Some Node32 }
row_of Node256 = record { fewest = 49; most = 256; larger = None; smaller = Some Node48 }
row_of Leaf = record { fewest = 0; most = 0; larger = None; smaller = None }

-- the kind that a node grows into, and the one that it shrinks into: its own where the table names none
abbrev pub grown_kind : NodeType → NodeType
grown_kind kind = unwrap_or (row_of kind).larger kind

abbrev pub shrunk_kind : NodeType → NodeType
shrunk_kind kind = unwrap_or (row_of kind).smaller kind

-- there is a next smaller kind, and it has room for so many children
abbrev pub CanShrink : NodeType → ℕ → Type 0
CanShrink kind children = IsSomeAnd (row_of kind).smaller (λ smaller. children ≤ (row_of smaller).most)
