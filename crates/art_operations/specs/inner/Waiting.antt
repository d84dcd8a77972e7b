-- A leaf beside a tree, which is about to go under an inner node of it.
use Rattle.std.specs.Prelude.{◌≡◌, ℕ, ◌+◌, ◌≤◌, List, ◌∷◌, ◌++◌, Some, None, IsSome}
use Rattle.art_bytes.specs.Keys.{BeginsWith}
use Rattle.art_nodes.specs.Kind.{row_of}
use Rattle.art_nodes.specs.Name.{Name}
use Rattle.art_nodes.specs.declared.kind.NodeType.{NodeType}
use Rattle.art_arena.specs.arena.Arena.{Arena, node_at, links_at}
use Rattle.art_arena.specs.arena.Cells.{Cell, pair, leaf_name, Holds}
use Rattle.art_arena.specs.arena.Context.{Frame, path_to, root_of, leaves_before, leaves_after, cells_before}
use Rattle.art_arena.specs.arena.Context.{cells_after, AreAround, AreBelow}
use Rattle.art_arena.specs.arena.Linked.{IsBeside, first_slot, last_slot}
use Rattle.art_arena.specs.arena.Shapes.{LeafAt, join, children_at, width, node_of, cells_in, AreUnder}
use Rattle.art_operations.specs.declared.insert.into_existing.Neighbours.{Neighbours}
use Rattle.art_operations.specs.declared.insert.into_existing.Neighbours.TheVariants.{One, Both}
use Rattle.art_operations.specs.inner.Splits.{IsBetween}

-- the place between two lists is beside these leaves: one of them, or the last of the first list and the first of the
-- second
abbrev pub AreNeighbours : {K V : Type 0} → Neighbours → List (LeafAt K V) → List (LeafAt K V) → Type 0
AreNeighbours (One leaf) xs ys = IsBetween leaf.is_before leaf.leaf xs ys
AreNeighbours (Both previous next) xs ys = (last_slot None xs ≡ Some previous) × (first_slot ys None ≡ Some next)

-- a node of this kind with so many children has no room, and there is a larger kind
abbrev pub MustGrow : NodeType → ℕ → Type 0
MustGrow kind n = (n ≡ (row_of kind).most) × IsSome (row_of kind).larger

-- Beside these nodes the arena holds a leaf and a canonical tree with this root. An inner node of the tree has no child
-- under the byte with which the leaf's key goes on there: it is the frame's node with nothing at the frame's place.
pub record AwaitsLeaf {K V : Type 0} (bytes : K → List ℕ) (P : ℕ) (arena : Arena K V) (rest : List (Name × Cell K V))
    (root node : Name) (byte leaf : ℕ) (f : Frame K V) (outer : List (Frame K V)) (l : LeafAt K V) : Type 0 where
  pub named : root_of outer f.name ≡ root
  pub node_is : f.name ≡ node
  pub byte_is : f.byte ≡ byte
  pub leaf_is : l.slot ≡ leaf
  pub holds : Holds (node_at arena) (cells_before P outer f.name
      ++ ((f.name, node_of P f.prefix (children_at (join f.before f.after)))
      ∷ (cells_in P f.before
      ++ ((leaf_name l.slot, pair l.key l.value) ∷ (cells_after P (f ∷ outer) ++ rest)))))
  pub beside : IsBeside (links_at arena) (leaves_before (f ∷ outer) ++ leaves_after (f ∷ outer)) l.slot
  pub around : AreAround bytes outer
  pub two : 2 ≤ width f.before + width f.after
  pub before_under : AreUnder bytes (path_to outer ++ f.prefix) 0 f.before
  pub below : AreBelow f.byte f.before
  pub after_under : AreUnder bytes (path_to outer ++ f.prefix) (f.byte + 1) f.after
  pub begins : BeginsWith (path_to (f ∷ outer)) (bytes l.key)
