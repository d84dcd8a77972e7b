-- What a call gives that looks many keys up.
use Rattle.std.specs.Prelude.{◌≡◌, ◌⊎◌, ℕ, ◌<◌, List, [], ◌∷◌, ◌++◌, length, map, Option, Some, None}
use Rattle.art_c.specs.Calls.{stored_value}
use Rattle.art_c.specs.Copies.{word_out, written}
use Rattle.art_c.specs.Handles.{Pairs}
use Rattle.art_c.specs.Layouts.{end_to_end, no_text, items_of_pairs, words_pair}
use Rattle.art_c.specs.declared.code.Code.{Code}
use Rattle.art_c.specs.declared.code.Code.TheVariants.{Done, NoRoom, CutOff}
use Rattle.art_c.specs.declared.value.WordsPair.{WordsPair}

-- 1 where a word was found, and 0 where none was
abbrev pub found_flag : Option ℕ → ℕ
found_flag None = 0
found_flag (Some word) = 1

module _ (pairs : Pairs ℕ) where
  -- each of these keys with its word, or with the word that it had here where no pair has the key
  abbrev pub with_words : Pairs ℕ → Pairs ℕ
  with_words asked = map (λ p. (p.0, word_out (stored_value p.0 pairs) p.1)) asked

  -- whether each was found
  abbrev pub found_flags : Pairs ℕ → List ℕ
  found_flags asked = map (λ p. found_flag (stored_value p.0 pairs)) asked

-- how it ends after so many keys: there is no other, or the bytes end before it does, or no place is left for its flag
abbrev pub GetEnds : ℕ → List ℕ → List WordsPair → ℕ → Code → Type 0
GetEnds count more [] places code = code ≡ Done
GetEnds count more (is ∷ left) places code =
    ((code ≡ CutOff) × (length more < is.key_len)) ⊎ ((code ≡ NoRoom) × (count ≡ places))

-- The keys that lie first in the buffer were looked up. Each has its word in its pair, and its flag. So many they are,
-- and after them it ended so.
abbrev pub IsManyGot : List ℕ → Pairs ℕ → (List WordsPair × List ℕ) × ℕ → Code → (List WordsPair × List ℕ) × ℕ → Type 0
IsManyGot keys pairs x code y =
    (asked : Pairs ℕ) × (more : List ℕ) × (left : List WordsPair)
    × (keys ≡ end_to_end no_text asked ++ more) × (x.0.0 ≡ items_of_pairs words_pair asked ++ left)
    × (y.0.0 ≡ written (items_of_pairs words_pair (with_words pairs asked)) x.0.0)
    × (y.0.1 ≡ written (found_flags pairs asked) x.0.1) × (y.1 ≡ length asked)
    × GetEnds (length asked) more left (length x.0.1) code
