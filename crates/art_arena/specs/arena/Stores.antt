-- What an arena stores below a name: the words of contracts, over the arena itself rather than over its two views, that
-- of nodes and that of links.
use Rattle.std.specs.Prelude.{ℕ, List, []}
use Rattle.art_nodes.specs.Name.{Name}
use Rattle.art_arena.specs.arena.Arena.{Arena, node_at, links_at}
use Rattle.art_arena.specs.arena.Cells.{Cell}
use Rattle.art_arena.specs.arena.Meaning.{IsSubtree, IsAtDepth, IsTreeBeside, Means}
use Rattle.art_arena.specs.arena.Shapes.{Shape}
use Rattle.art_arena.specs.tree.Trees.{Tree}

module _ {K V : Type 0} (bytes : K → List ℕ) (P : ℕ) (arena : Arena K V) (root : Name) where
  -- the name is the root of a canonical tree of this shape; other nodes may stand beside it
  abbrev pub Stores : Shape K V → Type 0
  Stores s = IsSubtree bytes P (node_at arena) root [] s

  -- the name is the root of this part, which is canonical under the path
  abbrev pub StoresBelow : List ℕ → Shape K V → Type 0
  StoresBelow path s = IsSubtree bytes P (node_at arena) root path s

  -- and the path has so many bytes
  abbrev pub StoresAt : ℕ → List ℕ → Shape K V → Type 0
  StoresAt depth path s = IsAtDepth bytes P (node_at arena) root depth path s

  -- the name is the root of a canonical tree of this shape, whose leaves are linked in order, with open ends; beside it
  -- the arena holds these nodes, and no other
  abbrev pub StoresBeside : List (Name × Cell K V) → Shape K V → Type 0
  StoresBeside rest s = IsTreeBeside bytes P (node_at arena) root (links_at arena) rest s

  -- and the arena holds no node beside it
  abbrev pub StoresOnly : Shape K V → Type 0
  StoresOnly s = StoresBeside [] s

  -- the name means this tree
  abbrev pub IsMeant : Tree (K × V) → Type 0
  IsMeant t = Means bytes P (node_at arena) root (links_at arena) t
