-- Many pairs in one buffer, as C has them: the bytes of keys, and of values, end to end, and an item for each pair.
use Rattle.std.specs.Prelude.{ℕ, List, [], ◌∷◌, ◌++◌, length, map}
use Rattle.art_c.specs.Handles.{Pairs}
use Rattle.art_c.specs.declared.value.BytesPair.{BytesPair}
use Rattle.art_c.specs.declared.value.WordsPair.{WordsPair}

-- how a pair of words is told, and one of bytes
abbrev pub words_pair : List ℕ → ℕ → WordsPair
words_pair key word = record { key_len = length key; word = word }

abbrev pub bytes_pair : List ℕ → List ℕ → BytesPair
bytes_pair key value = record { key_len = length key; value_len = length value }

-- how long the key of such a pair is, and what else stands in the buffer: nothing of a word, and the bytes of a value
abbrev pub word_key_len : WordsPair → ℕ
word_key_len item = item.key_len

abbrev pub word_text_len : WordsPair → ℕ
word_text_len item = 0

abbrev pub no_text : ℕ → List ℕ
no_text word = []

abbrev pub bytes_key_len : BytesPair → ℕ
bytes_key_len item = item.key_len

abbrev pub bytes_text_len : BytesPair → ℕ
bytes_text_len item = item.value_len

module _ {V : Type 0} where
  -- what tells these pairs
  abbrev pub items_of_pairs : {I : Type 0} → (List ℕ → V → I) → Pairs V → List I
  items_of_pairs item pairs = map (λ p. item p.0 p.1) pairs

  -- their bytes, end to end: those of the key, and those of the value
  abbrev pub end_to_end : (V → List ℕ) → Pairs V → List ℕ
  end_to_end text [] = []
  end_to_end text (p ∷ ps) = p.0 ++ (text p.1 ++ end_to_end text ps)

-- the first of some places with this item, if there is a place
abbrev pub with_first : {I : Type 0} → I → List I → List I
with_first item [] = []
with_first item (_ ∷ places) = item ∷ places
