-- The lines of replies as the parts that are written one after another.
use Rattle.std.proofs.Common.{◌≡◌, ℕ, ℤ, ◌+◌, List, [], ◌∷◌, ◌++◌, length, ap, sym, ◌∙◌, arith, append_assoc, length-append}
use Rattle.std.specs.Prelude.{codes, decimal}
use Rattle.std.specs.Fmt.{signed_decimal}
use Rattle.art_lines.specs.Words.{Word}
use Rattle.art_lines.proofs.Terms.{name, natural, signed, bytes, shown, text_of, line_of, put_words, nput_words, end_words, pair_words, number_words}

pub line_more : (w v : Word) (ws : List Word) → shown w ++ 32 ∷ line_of (v ∷ ws) ≡ line_of (w ∷ v ∷ ws)
line_more w v ws = sym (append_assoc (shown w) (32 ∷ text_of (v ∷ ws)) (10 ∷ []))

-- a word and bytes
pub found_parts : (word value : List ℕ) → word ++ (32 ∷ [] ++ (shown (bytes value) ++ 10 ∷ [])) ≡ line_of (name word ∷ bytes value ∷ [])
found_parts word value = line_more (name word) (bytes value) []

-- a key and a value
pub pair_parts : (key value : List ℕ) → shown (bytes key) ++ (32 ∷ [] ++ (shown (bytes value) ++ 10 ∷ [])) ≡ line_of (pair_words (key, value))
pair_parts key value = line_more (bytes key) (bytes value) []

-- the line that makes a record, with the tenant as it is written
pub put_parts : (number tenant : ℕ) (key value : List ℕ) → number ≡ tenant
    → codes "put " ++ (decimal number ++ (32 ∷ [] ++ (shown (bytes key) ++ (32 ∷ [] ++ (shown (bytes value) ++ 10 ∷ []))))) ≡ line_of (put_words tenant key value)
put_parts number tenant key value same =
    ap (λ t. codes "put " ++ (decimal number ++ 32 ∷ t)) (line_more (bytes key) (bytes value) [])
    ∙ ap (λ t. codes "put " ++ t) (line_more (natural number) (bytes key) (bytes value ∷ []))
    ∙ line_more (name (codes "put")) (natural number) (bytes key ∷ bytes value ∷ [])
    ∙ ap (λ n. line_of (put_words n key value)) same

-- a number and a value, and the line that makes a record of them
pub number_parts : (number : ℤ) (value : List ℕ) → signed_decimal number ++ (32 ∷ [] ++ (shown (bytes value) ++ 10 ∷ [])) ≡ line_of (number_words (number, value))
number_parts number value = line_more (signed number) (bytes value) []

pub nput_parts : (tenant : ℕ) (number : ℤ) (value : List ℕ) → codes "nput " ++ (decimal tenant ++ (32 ∷ [] ++ line_of (number_words (number, value)))) ≡ line_of (nput_words tenant number value)
nput_parts tenant number value =
    ap (λ t. codes "nput " ++ t) (line_more (natural tenant) (signed number) (bytes value ∷ []))
    ∙ line_more (name (codes "nput")) (natural tenant) (signed number ∷ bytes value ∷ [])

-- how long a line of a key and a value is
pub length-pair : (key value : List ℕ) → length (line_of (pair_words (key, value))) ≡ length (shown (bytes key)) + 1 + length (shown (bytes value)) + 1
length-pair key value =
    let whole = ap length (pair_parts key value) in
    let first = length-append (shown (bytes key)) (32 ∷ (shown (bytes value) ++ 10 ∷ [])) in
    let second = length-append (shown (bytes value)) (10 ∷ []) in
    omega arith

-- what ends a list
pub end_parts : (count : ℕ) → line_of (end_words count) ≡ codes "end " ++ (decimal count ++ 10 ∷ [])
end_parts count = sym (line_more (name (codes "end")) (natural count) [])
