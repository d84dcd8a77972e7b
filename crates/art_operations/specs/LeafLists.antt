-- Leaves that an arena holds with no inner node over them.
use Rattle.std.specs.Prelude.{List, None}
use Rattle.art_arena.specs.arena.Arena.{Arena, node_at, links_at}
use Rattle.art_arena.specs.arena.Cells.{Holds}
use Rattle.art_arena.specs.arena.Linked.{AreLinked}
use Rattle.art_arena.specs.arena.Shapes.{LeafAt}
use Rattle.art_operations.specs.Frees.{leaf_cells}

-- the arena holds these leaves, linked in this order, and nothing else
pub record HoldsLeaves {K V : Type 0} (arena : Arena K V) (ls : List (LeafAt K V)) : Type 0 where
  pub holds : Holds (node_at arena) (leaf_cells ls)
  pub linked : AreLinked (links_at arena) None ls None
