-- The words of replies.
use Rattle.std.specs.Prelude.{ℕ, ℤ, Bool, true, false, List, [], ◌∷◌, ◌++◌, length, map, codes, Option, Some, None}
use Rattle.art_lines.specs.Words.{Word, name, natural, signed, bytes}

-- the word for what was found and its bytes, or the word for nothing
abbrev pub found_or : Option (List ℕ) → List ℕ → List ℕ → List Word
found_or (Some value) found absent = name found ∷ bytes value ∷ []
found_or None found absent = name absent ∷ []

-- A put is answered by the old value; where there is none, by whether the key conflicts with another of the tenant's.
abbrev pub put_reply : Option (List ℕ) → Bool → List Word
put_reply (Some old) conflict = name (codes "old") ∷ bytes old ∷ []
put_reply None true = name (codes "conflict") ∷ []
put_reply None false = name (codes "new") ∷ []

-- A find is answered by the key that was found and its value.
abbrev pub find_reply : Option (List ℕ × List ℕ) → List Word
find_reply (Some pair) = name (codes "at") ∷ bytes pair.0 ∷ bytes pair.1 ∷ []
find_reply None = name (codes "none") ∷ []

-- what ends a list: how many there were
abbrev pub end_words : ℕ → List Word
end_words count = name (codes "end") ∷ natural count ∷ []

-- a line for each pair, whose key is shown as a word of this kind, and then their number
abbrev pub words_as : {K : Type 0} → (K → Word) → K × List ℕ → List Word
words_as word pair = word pair.0 ∷ bytes pair.1 ∷ []

abbrev pub listed_as : {K : Type 0} → (K → Word) → List (K × List ℕ) → List (List Word)
listed_as word pairs = map (words_as word) pairs ++ end_words (length pairs) ∷ []

-- so under keys, and under numbers
abbrev pub pair_words : List ℕ × List ℕ → List Word
pair_words pair = words_as bytes pair

abbrev pub listed : List (List ℕ × List ℕ) → List (List Word)
listed pairs = listed_as bytes pairs

abbrev pub number_words : ℤ × List ℕ → List Word
number_words pair = words_as signed pair

abbrev pub numbers_listed : List (ℤ × List ℕ) → List (List Word)
numbers_listed pairs = listed_as signed pairs
