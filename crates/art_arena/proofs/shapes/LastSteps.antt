-- The last two steps of a way, with one more.
use Rattle.std.proofs.Common.{◌≡◌, List, [], ◌∷◌, take, refl}
use Rattle.art_arena.proofs.Terms.{Step}

pub last_two : (step : Step) (xs : List Step) → take 2 (step ∷ xs) ≡ take 2 (step ∷ take 2 xs)
last_two step [] = refl
last_two step (x ∷ xs) = refl
