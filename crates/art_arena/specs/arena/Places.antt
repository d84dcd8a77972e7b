-- A place in a tree, and a place on the way to a key. Look-up, insertion and deletion stand on these.
use Rattle.std.specs.Prelude.{◌≡◌, ℕ, List, length, take}
use Rattle.art_bytes.specs.Keys.{BeginsWith}
use Rattle.art_arena.specs.arena.Shapes.{Shape, IsUnder}
use Rattle.art_arena.specs.arena.Context.{Frame, plug, path_to, AreAround}
use Rattle.art_arena.specs.arena.Steps.{Step, steps_to}

module _ {K V : Type 0} (bytes : K → List ℕ) where
  -- the part stands at this place of the whole, and what stands around it is canonical, as it is itself
  pub record IsPlace (whole : Shape K V) (ctx : List (Frame K V)) (part : Shape K V) : Type 0 where
    pub is : whole ≡ plug ctx part
    pub around : AreAround bytes ctx
    pub under : IsUnder bytes (path_to ctx) part

  -- and it stands after a front of the key of so many bytes, the last steps to it being these
  pub record IsToward (key : List ℕ) (whole : Shape K V) (ctx : List (Frame K V)) (part : Shape K V) (last : List Step)
      (depth : ℕ) : Type 0 where
    pub place : IsPlace whole ctx part
    pub steps : take 2 (steps_to ctx) ≡ last
    pub depth_is : length (path_to ctx) ≡ depth
    pub begins : BeginsWith (path_to ctx) key
