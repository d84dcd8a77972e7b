-- What a room holds between two places.
use Rattle.std.proofs.Common.{◌≡◌, ℕ, ◌≤◌, ◌+◌, ◌++◌, List, length, take, drop, sym, ◌∙◌, ap, arith, append_assoc, subst}
use Rattle.std.specs.List.{between}
use Rattle.std.proofs.Math.Seq.{take-add}
use Rattle.std.proofs.lemmas.Slice.{between_is, between_to_end}
use Rattle.std.proofs.lemmas.List.{take-append-drop, drop-drop, drop-append-le, take-append-le, take-take, length-take-le, length-drop}

-- the first bytes of a part, and the part after them
pub part_in_two : (room : List ℕ) (from to n : ℕ) → take n (between from to room) ++ between (from + n) to room ≡ between from to room
part_in_two room from to n =
    let held : List ℕ = drop from (take to room) in
    ap (λ p. take n p ++ between (from + n) to room) (between_is room from to)
    ∙ ap (λ p. take n held ++ p) (between_is room (from + n) to ∙ sym (drop-drop n from (take to room)))
    ∙ take-append-drop n held
    ∙ sym (between_is room from to)

-- once they are sent
pub sent_on : (room before after : List ℕ) (from to n : ℕ) → after ≡ before ++ take n (between from to room)
    → after ++ between (from + n) to room ≡ before ++ between from to room
sent_on room before after from to n output =
    ap (λ t. t ++ between (from + n) to room) output
    ∙ append_assoc before (take n (between from to room)) (between (from + n) to room)
    ∙ ap (λ p. before ++ p) (part_in_two room from to n)

-- a room with a text put after what it holds
pub put_after : (old items new piece : List ℕ) (len from to next : ℕ) → take next new ≡ take to old ++ piece → from ≤ to → to ≤ length old → next ≤ length new → next ≤ len
    → between from next (take len (new ++ items)) ≡ between from to old ++ piece
put_after old items new piece len from to next output begins fits within whole =
    let long = length-take-le to old fits in
    between_is (take len (new ++ items)) from next
    ∙ ap (λ p. drop from p) (take-take next len (new ++ items) whole ∙ take-append-le next new items within ∙ output)
    ∙ drop-append-le from (take to old) piece (omega arith)
    ∙ ap (λ p. p ++ piece) (sym (between_is old from to))

-- a piece more is written of some bytes
pub written_on : (bytes before now after : List ℕ) (at n : ℕ) → at ≤ length bytes → now ≡ before ++ take at bytes
    → n ≤ length (between at (length bytes) bytes) → after ≡ now ++ take n (between at (length bytes) bytes)
    → (at + n ≤ length bytes) × (after ≡ before ++ take (at + n) bytes)
written_on bytes before now after at n within done bound output =
    let rest = between_to_end bytes at (length bytes) (omega arith) in
    let long = length-drop at bytes in
    let fits : n ≤ length (drop at bytes) = subst (λ r. n ≤ length r) rest bound in (
      omega arith,
      output
          ∙ ap (λ r. now ++ take n r) rest
          ∙ ap (λ t. t ++ take n (drop at bytes)) done
          ∙ append_assoc before (take at bytes) (take n (drop at bytes))
          ∙ ap (λ r. before ++ r) (sym (take-add at n bytes)),
    )
