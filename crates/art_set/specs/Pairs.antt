-- The pairs of the map that holds a set's keys.
use Rattle.std.specs.Prelude.{List, map}

-- each key beside the unit
abbrev pub pairs_of_keys : {K : Type 0} → List K → List (K × Unit {0})
pairs_of_keys keys = map (λ k. (k, tt)) keys
