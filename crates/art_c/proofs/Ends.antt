-- What a walk gives from its end is the last item.
use Rattle.std.proofs.Common.{◌≡◌, List, Option, Some, None}
use Rattle.std.specs.Prelude.{option_map}
use Rattle.std.specs.Map.Iter.{TakesLast}
use Rattle.art_map.proofs.Extractions.{last-shown}
use Rattle.art_map.proofs.Common.{last_item}

pub last-taken : {A X : Type 0} (shows : A → X) (xs : List X) (r : Option A) (rest : List X) → TakesLast shows xs r rest → option_map shows r ≡ last_item xs
last-taken shows xs None rest is = last-shown shows xs None is.0
last-taken shows xs (Some y) rest is = last-shown shows xs (Some y) (rest, is)
