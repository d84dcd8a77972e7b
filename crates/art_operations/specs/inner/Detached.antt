-- A part that stands apart from the tree of the others.
use Rattle.std.specs.Prelude.{◌≡◌, ℕ, List, [], ◌∷◌, ◌++◌, Option, Some, None}
use Rattle.art_nodes.specs.Name.{Name}
use Rattle.art_arena.specs.arena.Arena.{Arena, node_at}
use Rattle.art_arena.specs.arena.Cells.{Cell, Holds}
use Rattle.art_arena.specs.arena.Context.{Frame, plug, path_to, leaves_before, leaves_after, cells_before}
use Rattle.art_arena.specs.arena.Context.{cells_after, AreAround}
use Rattle.art_arena.specs.arena.Meaning.{IsNodesBeside}
use Rattle.art_arena.specs.arena.Shapes.{Shape, name_of, leaves, leaves_in, cells, IsUnder}

module _ {K V : Type 0} (bytes : K → List ℕ) (P : ℕ) (arena : Arena K V) (rest : List (Name × Cell K V)) where
  -- the arena's nodes are these and those of this canonical tree, and no other
  abbrev pub StoresNodes : Name → Shape K V → Type 0
  StoresNodes root s = IsNodesBeside bytes P (node_at arena) root rest s

  -- beside these nodes the arena holds nothing but a canonical tree, in which the part stands at this place
  pub record IsHeldAt (ctx : List (Frame K V)) (part : Shape K V) : Type 0 where
    pub holds : Holds (node_at arena) (rest ++ cells P (plug ctx part))
    pub around : AreAround bytes ctx
    pub under_path : IsUnder bytes (path_to ctx) part

  -- so does a part of this name, below this node under this byte
  pub record IsChildPart (parent : Name) (byte : ℕ) (child : Name) : Type 0 where
    pub frame : Frame K V
    pub outer : List (Frame K V)
    pub part : Shape K V
    pub held : IsHeldAt (frame ∷ outer) part
    pub named : frame.name ≡ parent
    pub under : frame.byte ≡ byte
    pub child_is : name_of part ≡ child

  -- it holds the part apart, and below this name what is left of the frame's node, to which the frames above don't
  -- point yet
  pub record StandsFor (f : Frame K V) (outer : List (Frame K V)) (part : Shape K V) (other : Name) : Type 0 where
    pub remains : Shape K V
    pub named : name_of remains ≡ other
    pub holds : Holds (node_at arena) (cells_before P outer f.name
        ++ (cells P remains ++ (cells_after P outer ++ (cells P part ++ rest))))
    pub under : IsUnder bytes (path_to outer) remains
    pub left : leaves remains ≡ leaves_in f.before ++ leaves_in f.after

  -- it holds the part apart, and the canonical tree of what was around it below this name
  pub record IsApart (ctx : List (Frame K V)) (part : Shape K V) (root : Name) : Type 0 where
    pub remains : Shape K V
    pub named : name_of remains ≡ root
    pub holds : Holds (node_at arena) (cells P remains ++ (cells P part ++ rest))
    pub under : IsUnder bytes [] remains
    pub left : leaves remains ≡ leaves_before ctx ++ leaves_after ctx

  -- it holds the part apart, and the tree of what was around it, if anything was
  abbrev pub IsDetached : List (Frame K V) → Shape K V → Option Name → Type 0
  IsDetached ctx part None = (ctx ≡ []) × Holds (node_at arena) (cells P part ++ rest)
  IsDetached ctx part (Some root) = IsApart ctx part root
