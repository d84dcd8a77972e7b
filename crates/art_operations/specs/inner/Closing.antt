-- What stays where open nodes are made.
use Rattle.std.specs.Prelude.{ℕ, suc}
use Rattle.art_arena.specs.arena.Arena.{Arena}
use Rattle.art_operations.specs.Rebuilds.{KeepsLeafRoom}
use Rattle.art_operations.specs.inner.Rebuilding.{HasNodeRoom, HasSpineRoom}
use Rattle.art_operations.specs.inner.Unmade.{HasRoomAround}
use Rattle.art_operations.specs.declared.build.spine.Spine.{Spine}

-- what room there was stays
pub record KeepsSpineRoom {K V : Type 0} (old : Arena K V) (was : Spine) (new : Arena K V) (now : Spine) : Type 0 where
  -- that to pass so many leaves, and one more
  pub spine : (more : ℕ) → HasSpineRoom old was (suc more) → HasSpineRoom new now (suc more)
  -- that for so many nodes of each kind beside the open ones
  pub around : (n : ℕ) → HasRoomAround old was n → HasRoomAround new now n
  -- that for the inner nodes over those leaves and over the children that are noted
  pub nodes : (more : ℕ) → HasNodeRoom old was (suc more) → HasNodeRoom new now (suc more)
  -- that for leaves
  pub leaves : KeepsLeafRoom old new
