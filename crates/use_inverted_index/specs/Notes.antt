-- Which notes a word stands in.
use Rattle.std.specs.Prelude.{ℕ, List, [], Option, bytes_eq}
use Rattle.std.specs.Map.{lookup}
use Rattle.std.specs.Option.{option_map, unwrap_or}
use Rattle.art_set.specs.Members.{Members}

-- a number's bytes are its key
abbrev pub number_bytes : List ℕ → List ℕ
number_bytes number = number

-- the numbers of a set, if there is one
abbrev pub numbers_in : Option (Members (List ℕ)) → List (List ℕ)
numbers_in set = unwrap_or (option_map (λ s. s.keys) set) []

-- the numbers beside a word, of a list of words with their sets; none where it isn't there
abbrev pub numbers_of : List ℕ → List (List ℕ × Members (List ℕ)) → List (List ℕ)
numbers_of word entries = numbers_in (lookup (λ other. bytes_eq other word) entries)
