-- Texts that are put into a room one after another.
use Rattle.std.proofs.Common.{◌≡◌, ℕ, ◌+◌, ◌*◌, ◌≤◌, List, [], ◌∷◌, ◌++◌, length, take, codes, refl, ap, sym, ◌∙◌, subst, arith, append_assoc, length-append}
use Rattle.std.specs.Prelude.{decimal}
use Rattle.std.proofs.lemmas.List.{take-take, length-take-le}
use Rattle.std.proofs.Math.Seq.{take-append-add}
use Rattle.std.proofs.lemmas.Slice.{take-put_mid}
use borrow.Rule.Slice.PartMut.{put_mid}
use Rattle.hex.specs.Hex.{encode_lower, lower_digits}
use Rattle.hex.proofs.HexLemmas.{length-encode_with}
use Rattle.art_lines.proofs.Terms.{shown, name, bytes, line_of, put_words, Puts, IsHead, head_of, pair_words}
use Rattle.art_lines.proofs.ReplyLines.{found_parts, put_parts, length-pair}

-- a text that was copied
pub text_put : (room text part : List ℕ) (at k : ℕ) → part ≡ text → at + length text ≤ length room → Puts (at + length text) at text room (put_mid at k room part)
text_put room text part at k same fits =
    let long = ap length same in
    record { next_is = refl; output = take-put_mid at k room part (at + length text) (omega arith) (omega arith) ∙ ap (λ t. take at room ++ t) same }

-- the digits of bytes
pub digits_put : (room value part : List ℕ) (at k : ℕ) → part ≡ encode_lower value → at + 2 * length value ≤ length room
    → Puts (at + 2 * length value) at (encode_lower value) room (put_mid at k room part)
digits_put room value part at k same fits =
    let long = length-encode_with lower_digits value in
    let next : at + length (encode_lower value) ≡ at + 2 * length value = omega arith in
    subst (λ (n : ℕ). Puts n at (encode_lower value) room (put_mid at k room part)) next (text_put room (encode_lower value) part at k same (omega arith))

-- a text after another
pub puts_then : (next mid at : ℕ) (a b old between new : List ℕ) → Puts mid at a old between → Puts next mid b between new → Puts next at (a ++ b) old new
puts_then next mid at a b old between new p q =
    let long = length-append a b in let first = p.next_is in let second = q.next_is in
    record { next_is = omega arith; output = q.output ∙ ap (λ t. t ++ b) p.output ∙ append_assoc (take at old) a b }

-- a text that is written in another way
pub puts_same : (next at : ℕ) (text text' old new : List ℕ) → text ≡ text' → Puts next at text old new → Puts next at text' old new
puts_same next at text text' old new e p = subst (λ t. Puts next at t old new) e p

-- a head that was put with the bytes after it
pub head_put : (tenant len at following : ℕ) (text old new : List ℕ) → at + 16 ≤ length old → IsHead tenant text len → Puts following at text old new → Puts (at + len) at (head_of tenant) old new
head_put tenant len at following text old new room head put =
    let front : List ℕ = take at old in
    let far = length-take-le at old (omega arith) in
    let whole = head.long in let fits = head.fits in let next = put.next_is in
    let long = length-take-le len text (omega arith) in
    let few = ap length head.output in
    let shorter = take-take (at + len) following new in
    let seam = take-append-add front text len in
    let here : length front + len ≡ at + len = omega arith in
    record {
      next_is = omega arith;
      output = sym (shorter (omega arith)) ∙ ap (take (at + len)) put.output ∙ ap (λ n. take n (front ++ text)) (sym here) ∙ seam ∙ ap (λ t. front ++ t) head.output;
    }

-- the line of a record, by its head
pub line_by_head : (tenant : ℕ) (key value : List ℕ) → head_of tenant ++ (shown (bytes key) ++ (32 ∷ [] ++ (shown (bytes value) ++ 10 ∷ []))) ≡ line_of (put_words tenant key value)
line_by_head tenant key value = ap (λ t. codes "put " ++ t) (append_assoc (decimal tenant) (32 ∷ []) _) ∙ put_parts tenant tenant key value refl

-- how long a line of a word and bytes is
pub length-found : (word value : List ℕ) → length (line_of (name word ∷ bytes value ∷ [])) ≡ length word + 1 + length (shown (bytes value)) + 1
length-found word value =
    let whole = ap length (found_parts word value) in
    let first = length-append word (32 ∷ (shown (bytes value) ++ 10 ∷ [])) in
    let second = length-append (shown (bytes value)) (10 ∷ []) in
    omega arith

-- and how long bytes are as they are shown
pub length-shown : (value : List ℕ) → length (shown (bytes value)) ≤ 2 * length value + 1
length-shown [] = omega arith
length-shown (b ∷ bs) = let long = length-encode_with lower_digits (b ∷ bs) in omega arith

pub length-shown-least : (value : List ℕ) → 2 * length value ≤ length (shown (bytes value))
length-shown-least [] = omega arith
length-shown-least (b ∷ bs) = let long = length-encode_with lower_digits (b ∷ bs) in omega arith

-- A line takes so many bytes, or up to two fewer.
pub record IsAbout (len line : ℕ) : Type 0 where
  pub most : line ≤ len
  pub least : len ≤ line + 2

-- the line of a pair, and that of a word and bytes
pub length-about : (key value : List ℕ) → IsAbout (2 * (length key + length value) + 4) (length (line_of (pair_words (key, value))))
length-about key value =
    let whole = length-pair key value in let k = length-shown key in let v = length-shown value in
    let k' = length-shown-least key in let v' = length-shown-least value in
    record { most = omega arith; least = omega arith }

pub found-about : (word value : List ℕ) → IsAbout (length word + 2 * length value + 3) (length (line_of (name word ∷ bytes value ∷ [])))
found-about word value =
    let whole = length-found word value in let v = length-shown value in let v' = length-shown-least value in
    record { most = omega arith; least = omega arith }
