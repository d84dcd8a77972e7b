-- The walk over all pairs of a map.
use Rattle.std.specs.Prelude.{◌≡◌, List, length}
use Rattle.art_arena.specs.arena.Arena.{Arena}
use Rattle.art_arena.specs.arena.Shapes.{pairs_of}
use Rattle.art_walks.specs.Runs.{Ends}
use Rattle.art_walks.specs.Walked.{IsCounted}

-- the walk between these ends has these pairs
pub record IsWalkOf {K V : Type 0} (arena : Arena K V) (ends : Ends) (pairs : List (K × V)) : Type 0 where
  pub run : IsCounted arena ends (length pairs)
  pub pairs_are : pairs_of run.leaves ≡ pairs
