-- A shape with a place for a part: what stands around the place.
use Rattle.std.specs.Prelude.{ℕ, suc, ◌+◌, ◌<◌, List, [], ◌∷◌, ◌++◌}
use Rattle.art_nodes.specs.Name.{Name}
use Rattle.art_arena.specs.tree.Kinds.{IsKindOf}
use Rattle.art_arena.specs.arena.Cells.{Cell}
use Rattle.art_arena.specs.arena.Shapes.{Shape, Branches, inner_at, no_branch, branch, LeafAt, join, children_at}
use Rattle.art_arena.specs.arena.Shapes.{node_of}
use Rattle.art_arena.specs.arena.Shapes.{cells_in, leaves_in, width, AreUnder}

-- an inner node with a place among its branches
pub record Frame (K V : Type 0) : Type 0 where
  pub name : Name
  pub prefix : List ℕ
  pub before : Branches K V
  pub byte : ℕ
  pub after : Branches K V

module _ {K V : Type 0} where
  -- the frame's node with the shape at its place
  abbrev pub fill : Frame K V → Shape K V → Shape K V
  fill f s = inner_at f.name f.prefix (join f.before (branch f.byte s f.after))

  -- the shape at the place that the frames lead to, from the place up to the root
  abbrev pub plug : List (Frame K V) → Shape K V → Shape K V
  plug [] s = s
  plug (f ∷ outer) s = plug outer (fill f s)

  -- the bytes from the root to the place
  abbrev pub path_to : List (Frame K V) → List ℕ
  path_to [] = []
  path_to (f ∷ outer) = path_to outer ++ f.prefix ++ f.byte ∷ []

  -- the leaves before the place, and those after it
  abbrev pub leaves_before : List (Frame K V) → List (LeafAt K V)
  leaves_before [] = []
  leaves_before (f ∷ outer) = leaves_before outer ++ leaves_in f.before

  abbrev pub leaves_after : List (Frame K V) → List (LeafAt K V)
  leaves_after [] = []
  leaves_after (f ∷ outer) = leaves_in f.after ++ leaves_after outer

  -- the name of the whole, where the place has this name
  abbrev pub root_of : List (Frame K V) → Name → Name
  root_of [] n = n
  root_of (f ∷ outer) n = root_of outer f.name

module _ {K V : Type 0} (P : ℕ) where
  -- the cell of the frame, where the place has this name
  abbrev pub frame_cell : Frame K V → Name → Name × Cell K V
  frame_cell f n = (f.name, node_of P f.prefix (children_at f.before ++ (f.byte, n) ∷ children_at f.after))

  -- the cells of the whole before those of the place, and those after them
  abbrev pub cells_before : List (Frame K V) → Name → List (Name × Cell K V)
  cells_before [] n = []
  cells_before (f ∷ outer) n = cells_before outer f.name ++ frame_cell f n ∷ cells_in P f.before

  abbrev pub cells_after : List (Frame K V) → List (Name × Cell K V)
  cells_after [] = []
  cells_after (f ∷ outer) = cells_in P f.after ++ cells_after outer

module _ {K V : Type 0} where
  -- the bytes of the branches are below this one
  abbrev pub AreBelow : ℕ → Branches K V → Type 0
  AreBelow byte no_branch = Unit {0}
  AreBelow byte (branch b s rest) = (b < byte) × AreBelow byte rest

module _ {K V : Type 0} (bytes : K → List ℕ) where
  -- what stands around the place is canonical, and leaves room for the place's byte
  abbrev pub AreAround : List (Frame K V) → Type 0
  AreAround [] = Unit {0}
  AreAround (f ∷ outer) =
      IsKindOf f.name.kind (suc (width f.before + width f.after))
      × AreUnder bytes (path_to outer ++ f.prefix) 0 f.before
      × AreBelow f.byte f.before
      × AreUnder bytes (path_to outer ++ f.prefix) (f.byte + 1) f.after
      × AreAround outer
