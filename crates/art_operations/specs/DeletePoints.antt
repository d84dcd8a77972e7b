-- The place of a leaf that is to be deleted.
pub use Rattle.art_arena.specs.arena.EndLeaves.{IsLeafPlace}
use Rattle.std.specs.Prelude.{List, [], ◌∷◌, Option, Some, None}
use Rattle.art_arena.specs.arena.Found.{Found}
use Rattle.art_arena.specs.arena.Steps.{steps_of}
use Rattle.art_operations.specs.declared.delete.point.DeletePoint.{DeletePoint}

-- the leaf that a point names, and the last steps to it
abbrev pub leaf_of : Option DeletePoint → List Found
leaf_of None = []
leaf_of (Some point) = (point.leaf_node_ptr, steps_of point.path) ∷ []
