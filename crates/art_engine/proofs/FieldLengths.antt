-- How long a field is beside what it is read as.
use Rattle.std.proofs.Common.{◌≡◌, ℕ, ℤ, ◌^◌, ◌<◌, List, [], ◌∷◌, length, refl, ap, sym, ◌∙◌, arith, length-append}
use Rattle.std.specs.Prelude.{map, codes, FitsSigned}
use Rattle.std.specs.Int.{w64}
use Rattle.std.specs.List.{AllZip, join_with_byte}
use Rattle.hex.specs.Hex.{lower_digits, IsBytes}
use Rattle.art_lines.specs.Words.{Word}
use Rattle.art_lines.proofs.Common.{name, natural, signed, bytes, shown, Reads, text_of, Command, of_tenant, put, over, nput, words_of, fields_of, Spells}
use Rattle.hex.proofs.HexLemmas.{decode_of-ok, length-encode_with}
use Rattle.std.proofs.lemmas.List.Splits.{join_with_byte-slice_split}
use Rattle.art_engine.proofs.Terms.{KeyFits, NumberFits}

length-read : (field : List ℕ) (w : Word) → Reads field w → length (shown w) ≡ length field
length-read field (name text) h = ap length (sym h)
length-read field (natural n) h = ap length (sym h.0)
length-read field (signed n) h = ap length (sym h.0)
length-read field (bytes []) h = ap length (sym h)
length-read field (bytes (b ∷ bs)) h = let decoded = (decode_of-ok field (b ∷ bs) h).2 in length-encode_with lower_digits (b ∷ bs) ∙ sym decoded

length-joined : (fields : List (List ℕ)) (ws : List Word) → AllZip Reads fields ws → length (join_with_byte 32 (map shown ws)) ≡ length (join_with_byte 32 fields)
length-joined [] [] h = refl
length-joined (f ∷ []) (w ∷ []) h = length-read f w h.0
length-joined (f ∷ g ∷ fs) (w ∷ x ∷ ws) h =
    let first = length-read f w h.0 in
    let ih = length-joined (g ∷ fs) (x ∷ ws) h.1 in
    let left = length-append (shown w) (32 ∷ join_with_byte 32 (map shown (x ∷ ws))) in
    let right = length-append f (32 ∷ join_with_byte 32 (g ∷ fs)) in
    omega arith
length-joined fields ws h = absurd assumption

-- the text of a command is as long as a line that spells it
pub length-spelled : (line : List ℕ) (c : Command) → Spells line c → length (text_of (words_of c)) ≡ length line
length-spelled line c h = length-joined (fields_of line) (words_of c) h.read ∙ ap length (join_with_byte-slice_split 32 line)

bytes_read : (field bs : List ℕ) → Reads field (bytes bs) → IsBytes bs
bytes_read field [] h = λ k. omega arith
bytes_read field (b ∷ bs) h = (decode_of-ok field (b ∷ bs) h).3

-- what a line with a key and a value says of them
parts_fit : (word : List ℕ) (t : ℕ) (k v : List ℕ) (fields : List (List ℕ)) → AllZip Reads fields (name word ∷ natural t ∷ bytes k ∷ bytes v ∷ []) → (t < 2 ^ 32) × IsBytes k × IsBytes v
parts_fit word t k v (f ∷ g ∷ i ∷ j ∷ fs) r = (r.1.0.1, bytes_read i k r.1.1.0, bytes_read j v r.1.1.1.0)
parts_fit word t k v fields r = absurd assumption

-- so a record that a line puts fits
pub put_fits : (line : List ℕ) (t : ℕ) (k v : List ℕ) → Spells line (of_tenant t (put k v)) → KeyFits (record { tenant = t; key = k; value = v })
put_fits line t k v h =
    let same = length-spelled line (of_tenant t (put k v)) h in let short = h.short in let parts = parts_fit (codes "put") t k v (fields_of line) h.read in
    record { tenant_fits = parts.0; key_fits = parts.1; value_fits = parts.2; line_fits = omega arith }

pub over_fits : (line : List ℕ) (t : ℕ) (k v : List ℕ) → Spells line (of_tenant t (over k v)) → KeyFits (record { tenant = t; key = k; value = v })
over_fits line t k v h =
    let same = length-spelled line (of_tenant t (over k v)) h in let short = h.short in let parts = parts_fit (codes "over") t k v (fields_of line) h.read in
    record { tenant_fits = parts.0; key_fits = parts.1; value_fits = parts.2; line_fits = omega arith }

-- likewise under a number
number_parts_fit : (t : ℕ) (n : ℤ) (v : List ℕ) (fields : List (List ℕ)) → AllZip Reads fields (name (codes "nput") ∷ natural t ∷ signed n ∷ bytes v ∷ []) → (t < 2 ^ 32) × FitsSigned w64 n × IsBytes v
number_parts_fit t n v (f ∷ g ∷ i ∷ j ∷ fs) r = (r.1.0.1, r.1.1.0.1, bytes_read j v r.1.1.1.0)
number_parts_fit t n v fields r = absurd assumption

pub nput_fits : (line : List ℕ) (t : ℕ) (n : ℤ) (v : List ℕ) → Spells line (of_tenant t (nput n v)) → NumberFits (record { tenant = t; key = n; value = v })
nput_fits line t n v h =
    let same = length-spelled line (of_tenant t (nput n v)) h in let short = h.short in let parts = number_parts_fit t n v (fields_of line) h.read in
    record { tenant_fits = parts.0; number_fits = parts.1; value_fits = parts.2; line_fits = omega arith }
