-- Pairs that an index may be made of: under full keys of bytes that ascend, each with a line that is short enough.
use Rattle.std.proofs.Common.{◌≡◌, ℕ, ℤ, ◌-◌, min, length-drop, ◌+◌, ◌*◌, ◌<◌, ◌≤◌, ◌^◌, List, [], ◌∷◌, ◌++◌, length, take, drop, map, get_or, refl, ap, sym, ◌∙◌, subst, false, arith, length-append}
use Rattle.std.specs.Prelude.{◌==◌, decimal, FitsSigned, bit_xor}
use Rattle.std.specs.Fmt.{signed_decimal}
use Rattle.std.specs.List.{AllByRecursion}
use Rattle.std.specs.Int.{to_be_bytes, from_be_bytes, w32, w64}
use Rattle.std.proofs.lemmas.Int.{of_z-to_z}
use borrow.Author.Gap.{read_sfits}
use Rattle.std.proofs.lemmas.Nat.{be_bytes_8, xor_lt}
use Rattle.std.proofs.lemmas.Bool.{true≢false}
use Rattle.std.proofs.lemmas.List.{get_or-drop}
use Rattle.art_bytes.proofs.Common.{pair_key, flipped, top_bit}
use Rattle.art_arena.proofs.Common.{AscendsByKey, all_weaker}
use Rattle.art_lines.proofs.Common.{full_key, nput_words, number_words, bytes, shown, text_of, line_of, nput_parts, number_parts}
use Rattle.art_engine.proofs.Terms.{IsShortRecord, IsShortNumber, IsRecordIn, IsNumberRecordIn, number_of_bytes, KeyFits, NumberFits, Pair, NumberPair, record_of, number_record_of, IsFull, IsOfTenant, ArePairs, IsNumberPair, AreNumberPairs}
use Rattle.art_engine.proofs.Conflicts.{bytes_of}
use Rattle.hex.specs.Hex.{lower_digits}
use Rattle.hex.proofs.HexLemmas.{length-encode_with}
use Rattle.art_arena.proofs.tree.Paths.{all_map}
use Rattle.art_engine.proofs.KeyKinds.{are_full, keys_stand}
use Rattle.art_engine.proofs.NumberKeys.{flip_back}
use Rattle.art_lines.proofs.FullKeys.{full_key_again, tenant_small}

-- a pair under a full key, whose record fits
abbrev pub IsRecord : Pair → Type 0
IsRecord p = IsFull p × KeyFits (record_of p)

pub are_pairs : (ps : List Pair) → AscendsByKey bytes_of ps → AllByRecursion IsRecord ps → ArePairs ps
are_pairs ps order all =
    let full = all_weaker IsRecord IsFull (λ p h. h.0) ps all in
    let fit = all_map record_of KeyFits ps (all_weaker IsRecord (λ p. KeyFits (record_of p)) (λ p h. h.1) ps all) in
    let small = all_weaker KeyFits IsOfTenant (λ r fits. fits.tenant_fits) (map record_of ps) fit in
    record { stand = are_full ps (keys_stand ps full small) order; fit = fit }

-- bytes after a tenant's four
after_small : (n : ℕ) (xs : List ℕ) → ((i : ℕ) → get_or xs i 0 < 256) → (i : ℕ) → get_or (drop n xs) i 0 < 256
after_small n xs small i = subst (λ b. b < 256) (sym (get_or-drop n xs i 0)) (small (n + i))

pub is_record : (full value : List ℕ) → ((i : ℕ) → get_or full i 0 < 256) → ((i : ℕ) → get_or value i 0 < 256) → IsShortRecord full value → IsRecordIn full value
is_record full value small fine (long, short) =
    (full_key_again full long small, record { tenant_fits = tenant_small full small; key_fits = after_small 4 full small; value_fits = fine; line_fits = short })

-- how long some bytes are as they are shown
pub length-shown : (v : List ℕ) → (length v == 0) ≡ false → length (shown (bytes v)) ≡ 2 * length v
length-shown [] some = absurd (true≢false some)
length-shown (b ∷ bs) some = length-encode_with lower_digits (b ∷ bs)

pub length-nput : (t : ℕ) (n : ℤ) (v : List ℕ) → length (text_of (nput_words t n v)) ≡ length (decimal t) + length (signed_decimal n) + length (shown (bytes v)) + 7
length-nput t n v =
    let ended = length-append (text_of (nput_words t n v)) (10 ∷ []) in
    let whole = ap length (nput_parts t n v) in
    let first = length-append (decimal t) (32 ∷ line_of (number_words (n, v))) in
    let line = ap length (number_parts n v) in
    let second = length-append (signed_decimal n) (32 ∷ (shown (bytes v) ++ 10 ∷ [])) in
    let third = length-append (shown (bytes v)) (10 ∷ []) in
    omega arith

pub number_short_told : (t : ℕ) (n : ℤ) (v : List ℕ) (b x : ℕ) → b ≡ min (length (shown (bytes v))) (2 ^ 64 - 1)
    → x ≡ min (min (min (length (decimal t) + length (signed_decimal n)) (2 ^ 64 - 1) + 7) (2 ^ 64 - 1) + b) (2 ^ 64 - 1)
    → (x ≤ 4096 → length (text_of (nput_words t n v)) ≤ 4096) × (length (text_of (nput_words t n v)) ≤ 4096 → x ≤ 4096)
number_short_told t n v b x vb is = let long = length-nput t n v in (λ low. omega arith, λ low. omega arith)

-- the bytes of a number, read and written again
pub number_again : (xs : List ℕ) → length xs ≡ 12 → ((i : ℕ) → get_or xs i 0 < 256)
    → (xs ≡ pair_key (from_be_bytes w32 (take 4 xs), number_of_bytes (drop 4 xs))) × FitsSigned w64 (number_of_bytes (drop 4 xs))
number_again xs twelve small =
    let rest : List ℕ = drop 4 xs in
    let x : ℕ = from_be_bytes w64 rest in
    let eight : length rest ≡ 8 = length-drop 4 xs ∙ omega arith in
    let number : to_be_bytes w64 x ≡ rest = be_bytes_8 rest x eight (after_small 4 xs small) refl in
    let at = after_small 4 xs small in
    let a = at 0 in let b = at 1 in let c = at 2 in let d = at 3 in let e = at 4 in let f = at 5 in let g = at 6 in let h = at 7 in
    let low : x < 2 ^ 64 = omega arith in
    let turned : bit_xor x (top_bit w64) < 2 ^ 64 = xor_lt 64 x (top_bit w64) low (omega arith) in
    let back : flipped w64 (number_of_bytes rest) ≡ x = ap (λ y. bit_xor y (top_bit w64)) (of_z-to_z w64 (bit_xor x (top_bit w64)) turned) ∙ flip_back x (top_bit w64) in (
      full_key_again xs (omega arith) small ∙ ap (full_key (from_be_bytes w32 (take 4 xs))) (sym (ap (to_be_bytes w64) back ∙ number)),
      read_sfits w64 (bit_xor x (top_bit w64)),
    )

pub is_number_record : (xs value : List ℕ) → length xs ≡ 12 → ((i : ℕ) → get_or xs i 0 < 256) → ((i : ℕ) → get_or value i 0 < 256) → IsShortNumber xs value → IsNumberRecordIn xs value
is_number_record xs value twelve small fine short =
    let again = number_again xs twelve small in
    (again.0, record { tenant_fits = tenant_small xs small; number_fits = again.1; value_fits = fine; line_fits = short })

-- a pair under the bytes of its record, which fits
abbrev pub IsNumberRecord : NumberPair → Type 0
IsNumberRecord p = IsNumberPair p × NumberFits (number_record_of p)

pub are_number_pairs : (ns : List NumberPair) → AscendsByKey (λ p. p.0) ns → AllByRecursion IsNumberRecord ns → AreNumberPairs ns
are_number_pairs ns order all = record {
  stand = all_weaker IsNumberRecord IsNumberPair (λ p h. h.0) ns all;
  ascend = order;
  fit = all_map number_record_of NumberFits ns (all_weaker IsNumberRecord (λ p. NumberFits (number_record_of p)) (λ p h. h.1) ns all);
}
