-- A pair in a buffer is told by the lengths that it was cut by.
use Rattle.std.proofs.Common.{◌≡◌, ℕ, List, length, sym}
use Rattle.art_c.specs.Layouts.{words_pair}
use Rattle.art_c.specs.declared.value.WordsPair.{WordsPair}

pub word_told : (item : WordsPair) (key : List ℕ) → length key ≡ item.key_len → item ≡ words_pair key item.word
word_told item key h = λ i. record { key_len = sym h i; word = item.word }
