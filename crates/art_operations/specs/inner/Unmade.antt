-- The nodes that are open: of which kind each will be, and room for them.
use Rattle.std.specs.Prelude.{ℕ, suc, ◌+◌, ◌-◌, nat_le, if◌then◌else◌, List, [], ◌∷◌, length}
use Rattle.art_nodes.specs.Kind.{row_of}
use Rattle.art_nodes.specs.declared.kind.NodeType.{NodeType}
use Rattle.art_nodes.specs.declared.kind.NodeType.TheVariants.{Node4, Node16, Node32, Node48, Node256}
use Rattle.art_arena.specs.arena.Arena.{Arena, HasRoomOf}
use Rattle.art_arena.specs.arena.Cells.{same_kind}
use Rattle.art_operations.specs.declared.build.spine.Open.{Open}
use Rattle.art_operations.specs.declared.build.spine.Spine.{Spine}

-- the smallest kind that has room for so many children
abbrev pub kind_over : ℕ → NodeType
kind_over n =
    if nat_le n (row_of Node4).most then Node4 else
    (if nat_le n (row_of Node16).most then Node16 else
    (if nat_le n (row_of Node32).most then Node32 else
    (if nat_le n (row_of Node48).most then Node48 else Node256)))

-- one if a node of so many children is of this kind, else none
abbrev pub one_of : NodeType → ℕ → ℕ
one_of kind n = if same_kind kind (kind_over n) then 1 else 0

-- how many children are noted before those of the first of these nodes: all of them if there is none
abbrev pub noted_before : ℕ → List Open → ℕ
noted_before noted [] = noted
noted_before noted (o ∷ rest) = o.first

-- how many of these nodes will be of a kind, if each gets its last child and no other. So many children are noted.
abbrev pub unmade : NodeType → ℕ → List Open → ℕ
unmade kind noted [] = 0
unmade kind noted (o ∷ rest) = one_of kind (suc (noted_before noted rest - o.first)) + unmade kind noted rest

-- beside the open nodes there is room for so many more of each kind
abbrev pub HasRoomAround : {K V : Type 0} → Arena K V → Spine → ℕ → Type 0
HasRoomAround arena spine n =
    (kind : NodeType) → HasRoomOf arena kind (n + unmade kind (length spine.children.items) spine.stack.items)
