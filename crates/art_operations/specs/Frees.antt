-- What is freed, and what stays.
use Rattle.std.specs.Prelude.{◌≡◌, ℕ, ◌+◌, Bool, false, if◌then◌else◌, List, [], ◌∷◌, ◌++◌, map, Option, Some, None}
use Rattle.art_nodes.specs.Name.{Name}
use Rattle.art_nodes.specs.declared.kind.NodeType.TheVariants.{Leaf}
use Rattle.art_arena.specs.arena.Arena.{Arena, node_at, links_at, held_at, HasRoomOf}
use Rattle.art_arena.specs.arena.Cells.{Cell, pair, leaf_name, copies, Holds}
use Rattle.art_arena.specs.arena.Linked.{AreLinked, first_slot, last_slot}
use Rattle.art_arena.specs.arena.Shapes.{Shape, Branches, leaf_at, inner_at, no_branch, branch, LeafAt, name_of}
use Rattle.art_arena.specs.arena.Shapes.{children_at, node_of, cells}

module _ {K V : Type 0} where
  -- the cells that the leaves take
  abbrev pub leaf_cells : List (LeafAt K V) → List (Name × Cell K V)
  leaf_cells ls = map (λ l. (leaf_name l.slot, pair l.key l.value)) ls

  -- each name that isn't one of these cells' has the node that it had, a leaf its links too
  abbrev pub KeepsAllBut : List (Name × Cell K V) → Arena K V → Arena K V → Type 0
  KeepsAllBut cs old new = (n : Name) → copies n cs ≡ 0 → held_at new n ≡ held_at old n

  -- there is room for so many more leaves than before
  abbrev pub FreesLeaves : ℕ → Arena K V → Arena K V → Type 0
  FreesLeaves count old new = (n : ℕ) → HasRoomOf old Leaf n → HasRoomOf new Leaf (n + count)

  -- of the room for leaves, that of so many is used up, and there is room for so many more
  abbrev pub SwapsLeaves : ℕ → ℕ → Arena K V → Arena K V → Type 0
  SwapsLeaves used freed old new = (n : ℕ) → HasRoomOf old Leaf (n + used) → HasRoomOf new Leaf (n + freed)

module _ {K V : Type 0} (P : ℕ) where
  -- the cells that the shape's nodes take, those of its leaves among them or not
  abbrev mutual
    pub cells_with : Bool → Shape K V → List (Name × Cell K V)
    cells_with leaves (leaf_at slot k v) = if leaves then (leaf_name slot, pair k v) ∷ [] else []
    cells_with leaves (inner_at n prefix kids) = (n, node_of P prefix (children_at kids)) ∷ cells_with_in leaves kids

    pub cells_with_in : Bool → Branches K V → List (Name × Cell K V)
    cells_with_in leaves no_branch = []
    cells_with_in leaves (branch byte s rest) = cells_with leaves s ++ cells_with_in leaves rest

  -- the cells of its inner nodes
  abbrev pub inner_cells : Shape K V → List (Name × Cell K V)
  inner_cells s = cells_with false s

module _ {K V : Type 0} (P : ℕ) (arena : Arena K V) (root : Name) where
  -- the name is the root of this shape, whose nodes the arena holds, these cells beside them, and nothing else
  pub record HoldsBeside (s : Shape K V) (rest : List (Name × Cell K V)) : Type 0 where
    pub named : name_of s ≡ root
    pub holds : Holds (node_at arena) (cells P s ++ rest)

  -- of its nodes the arena holds the inner ones, these cells beside them, and nothing else
  pub record HoldsInnerBeside (s : Shape K V) (rest : List (Name × Cell K V)) : Type 0 where
    pub named : name_of s ≡ root
    pub holds : Holds (node_at arena) (inner_cells P s ++ rest)

-- The arena holds these leaves, in order linked from the first to the last, these cells beside them, and nothing else.
-- At the ends the links may lead anywhere.
pub record HoldsRun {K V : Type 0} (arena : Arena K V) (first last : ℕ) (ls : List (LeafAt K V))
    (rest : List (Name × Cell K V)) : Type 0 where
  pub before : Option ℕ
  pub after : Option ℕ
  pub linked : AreLinked (links_at arena) before ls after
  pub first_is : first_slot ls None ≡ Some first
  pub last_is : last_slot None ls ≡ Some last
  pub holds : Holds (node_at arena) (leaf_cells ls ++ rest)
