-- The lines of a dump as text: each is one line, and spells the put of its record.
use Rattle.std.proofs.Common.{◌≡◌, ℕ, zero, suc, ℤ, pos, negsuc, ◌/◌, ◌%◌, ◌<◌, ◌≤◌, List, [], ◌∷◌, ◌++◌, length, get_or, map, refl, ap, sym, ◌∙◌, subst, true, false, arith, append_assoc, append-nil, inl, inr}
use Rattle.std.specs.Prelude.{◌==◌, nat_lt, nat_le, codes, flat_map, Some, None}
use Rattle.std.specs.Fmt.{digits, digits_onto, digit_glyph}
use Rattle.std.specs.List.{AllByRecursion, AllZip, onto_first, slice_split}
use Rattle.std.proofs.lemmas.Bool.{cond_both, ne_eqb, eq-eqb, true≢false, cases_lt, lt-leb}
use Rattle.hex.specs.Hex.{IsBytes, encode_lower, is_hex_digit}
use Rattle.hex.proofs.HexLemmas.{decode_of-ok, decode_of-encode_lower}
use Rattle.art_lines.specs.Lines.{whole_lines_of, unfinished_line_of}
use Rattle.art_lines.proofs.Common.{pieces_of, lines_of, name, natural, signed, bytes, shown, Reads, text_of, line_of, put, nput, of_tenant, Command, fields_of, command_in, end_words, spelled, words_of}
use Rattle.art_lines.specs.Words.{Word}
use Rattle.art_lines.specs.Reading.{command_of}
use Rattle.art_engine.proofs.Terms.{KeyRecord, NumberRecord, KeyFits, NumberFits}
use Rattle.art_engine.proofs.Dumping.{words_put, words_nput}
use Rattle.art_engine.proofs.LineLemmas.{last_of, last_of-append, all_but_last, whole_are, unfinished_is}
use Rattle.art_arena.proofs.Common.{all_weaker, all_append}
use Rattle.art_arena.proofs.tree.Paths.{all_map}

-- no byte is this one
abbrev Free : ℕ → List ℕ → Type 0
Free c xs = AllByRecursion (λ b. (b == c) ≡ false) xs

all_from : (P : ℕ → Type 0) (xs : List ℕ) → ((k : ℕ) → k < length xs → P (get_or xs k 0)) → AllByRecursion P xs
all_from P [] h = tt
all_from P (x ∷ xs) h = (h 0 (omega arith), all_from P xs (λ k lt. h (suc k) (omega arith)))

split_at : (c : ℕ) (xs ys : List ℕ) → Free c xs → slice_split (λ b. b == c) (xs ++ c ∷ ys) ≡ xs ∷ slice_split (λ b. b == c) ys
split_at c [] ys h = rw (eq-eqb c c refl) refl
split_at c (x ∷ xs) ys h = let first = h.0 in rw first (ap (onto_first x) (split_at c xs ys h.1))

split_none : (c : ℕ) (xs : List ℕ) → Free c xs → slice_split (λ b. b == c) xs ≡ xs ∷ []
split_none c [] h = refl
split_none c (x ∷ xs) h = let first = h.0 in rw first (ap (onto_first x) (split_none c xs h.1))

-- what a word is written by: its bytes are no space and no newline
abbrev Plain : Word → Type 0
Plain w = AllByRecursion (λ b. 45 ≤ b) (shown w)

free_of : (c : ℕ) → c < 45 → (xs : List ℕ) → AllByRecursion (λ b. 45 ≤ b) xs → Free c xs
free_of c low xs h = all_weaker (λ b. 45 ≤ b) (λ b. (b == c) ≡ false) (λ b high. ne_eqb b c (λ e. omega arith)) xs h

glyph_high : (d : ℕ) → 45 ≤ digit_glyph false d
glyph_high d = cond_both (nat_lt d 10) _ _ (λ glyph. 45 ≤ glyph) (λ e. omega arith) (λ e. omega arith)

-- digits of any number, however many there are
digits_plain : (k n : ℕ) (rest : List ℕ) → AllByRecursion (λ b. 45 ≤ b) rest → AllByRecursion (λ b. 45 ≤ b) (digits_onto k 10 false n rest)
digits_plain zero n rest h = h
digits_plain (suc k) n rest h =
    let front : List ℕ = digit_glyph false (n % 10) ∷ rest in
    let plain : AllByRecursion (λ b. 45 ≤ b) front = (glyph_high (n % 10), h) in
    cond_both (n / 10 == 0) front (digits_onto k 10 false (n / 10) front) (AllByRecursion (λ b. 45 ≤ b)) (λ e. plain) (λ e. digits_plain k (n / 10) front plain)

natural_plain : (n : ℕ) → Plain (natural n)
unfolding digits
natural_plain n = digits_plain 64 n [] tt

signed_plain : (z : ℤ) → Plain (signed z)
signed_plain (pos n) = natural_plain n
signed_plain (negsuc n) = (omega arith, natural_plain (suc n))

hex_high : (b : ℕ) → is_hex_digit b ≡ true → 45 ≤ b
hex_high b h = elim (cases_lt b 45) [ inl low ↦ absurd (true≢false (sym h ∙ none b low)) | inr high ↦ high ]
  where
    none : (b : ℕ) → b < 45 → is_hex_digit b ≡ false
    none b low = let under : b < 48 = omega arith in let lower : b < 65 = omega arith in let lowest : b < 97 = omega arith in
        rw (lt-leb 48 b under, lt-leb 65 b lower, lt-leb 97 b lowest) refl

bytes_plain : (bs : List ℕ) → IsBytes bs → Plain (bytes bs)
bytes_plain [] h = (omega arith, tt)
bytes_plain (b ∷ bs) h =
    let digits = (decode_of-ok (encode_lower (b ∷ bs)) (b ∷ bs) (decode_of-encode_lower (b ∷ bs) h)).1 in
    all_from (λ b. 45 ≤ b) (encode_lower (b ∷ bs)) (λ k lt. hex_high _ (digits k 0 lt))

-- words that are read as they are written, one after another
abbrev ReadBack : Word → Type 0
ReadBack w = Plain w × Reads (shown w) w

bytes_back : (bs : List ℕ) → IsBytes bs → ReadBack (bytes bs)
bytes_back [] h = (bytes_plain [] h, refl)
bytes_back (b ∷ bs) h = (bytes_plain (b ∷ bs) h, decode_of-encode_lower (b ∷ bs) h)

fields_are : (w : Word) (ws : List Word) → AllByRecursion ReadBack (w ∷ ws) → fields_of (text_of (w ∷ ws)) ≡ map shown (w ∷ ws)
fields_are w [] h = split_none 32 (shown w) (free_of 32 (omega arith) (shown w) h.0.0)
fields_are w (v ∷ ws) h = split_at 32 (shown w) (text_of (v ∷ ws)) (free_of 32 (omega arith) (shown w) h.0.0) ∙ ap (λ l. shown w ∷ l) (fields_are v ws h.1)

all_read_back : (ws : List Word) → AllByRecursion ReadBack ws → AllZip Reads (map shown ws) ws
all_read_back [] h = tt
all_read_back (w ∷ ws) h = (h.0.1, all_read_back ws h.1)

-- no newline in their text
abbrev pub OneLine : List Word → Type 0
OneLine ws = Free 10 (text_of ws)

one_line : (w : Word) (ws : List Word) → AllByRecursion Plain (w ∷ ws) → OneLine (w ∷ ws)
one_line w [] h = free_of 10 (omega arith) (shown w) h.0
one_line w (v ∷ ws) h =
    all_append (λ b. (b == 10) ≡ false) (shown w) (32 ∷ text_of (v ∷ ws)) (free_of 10 (omega arith) (shown w) h.0) (refl, one_line v ws h.1)

plain_back : (ws : List Word) → AllByRecursion ReadBack ws → AllByRecursion Plain ws
plain_back ws h = all_weaker ReadBack Plain (λ w r. r.0) ws h

put_back : (r : KeyRecord) → KeyFits r → AllByRecursion ReadBack (words_put r)
put_back r fits =
    let small = fits.tenant_fits in (((omega arith, (omega arith, (omega arith, tt))), refl), ((natural_plain r.tenant, (refl, small)), (bytes_back r.key fits.key_fits, (bytes_back r.value fits.value_fits, tt))))

nput_back : (r : NumberRecord) → NumberFits r → AllByRecursion ReadBack (words_nput r)
nput_back r fits =
    let small = fits.tenant_fits in (
      ((omega arith, (omega arith, (omega arith, (omega arith, tt)))), refl),
      ((natural_plain r.tenant, (refl, small)), ((signed_plain r.key, (refl, fits.number_fits)), (bytes_back r.value fits.value_fits, tt))),
    )

-- so words that are a command's spell it, if their line is short, and the line of a record spells the put that makes it
spelled_back : (w : Word) (ws : List Word) (c : Command) → AllByRecursion ReadBack (w ∷ ws) → words_of c ≡ w ∷ ws → length (text_of (w ∷ ws)) ≤ 4096 → command_of (text_of (w ∷ ws)) ≡ Some c
spelled_back w ws c back asks short =
    let read = subst (AllZip Reads (fields_of (text_of (w ∷ ws)))) (sym asks) (subst (λ fs. AllZip Reads fs (w ∷ ws)) (sym (fields_are w ws back)) (all_read_back (w ∷ ws) back)) in
    spelled (text_of (w ∷ ws)) c (record { short = short; read = read })

pub put_spelled : (r : KeyRecord) → KeyFits r → command_of (text_of (words_put r)) ≡ Some (of_tenant r.tenant (put r.key r.value))
put_spelled r fits = spelled_back _ _ (of_tenant r.tenant (put r.key r.value)) (put_back r fits) refl fits.line_fits

pub nput_spelled : (r : NumberRecord) → NumberFits r → command_of (text_of (words_nput r)) ≡ Some (of_tenant r.tenant (nput r.key r.value))
nput_spelled r fits = spelled_back _ _ (of_tenant r.tenant (nput r.key r.value)) (nput_back r fits) refl fits.line_fits

-- and the end spells nothing
pub end_spelled : (n : ℕ) → command_of (text_of (end_words n)) ≡ None
unfolding command_of
end_spelled n = cond_both (nat_le (length (text_of (end_words n))) 4096) (command_in (fields_of (text_of (end_words n)))) None (λ o. o ≡ None) (λ e. refl) (λ e. refl)

-- each of these is one line
pub put_lines : (rs : List KeyRecord) → AllByRecursion KeyFits rs → AllByRecursion OneLine (map words_put rs)
put_lines rs fits = all_map words_put OneLine rs (all_weaker KeyFits (λ r. OneLine (words_put r)) (λ r f. one_line (name (codes "put")) (natural r.tenant ∷ bytes r.key ∷ bytes r.value ∷ []) (plain_back (words_put r) (put_back r f))) rs fits)

pub nput_lines : (rs : List NumberRecord) → AllByRecursion NumberFits rs → AllByRecursion OneLine (map words_nput rs)
nput_lines rs fits = all_map words_nput OneLine rs (all_weaker NumberFits (λ r. OneLine (words_nput r)) (λ r f. one_line (name (codes "nput")) (natural r.tenant ∷ signed r.key ∷ bytes r.value ∷ []) (plain_back (words_nput r) (nput_back r f))) rs fits)

pub end_line : (n : ℕ) → OneLine (end_words n)
end_line n = one_line (name (codes "end")) (natural n ∷ []) ((omega arith, (omega arith, (omega arith, tt))), (natural_plain n, tt))

-- the lines of a text of lines
pieces_are : (wss : List (List Word)) → AllByRecursion OneLine wss → pieces_of (flat_map line_of wss) ≡ map text_of wss ++ [] ∷ []
pieces_are [] h = refl
pieces_are (ws ∷ wss) h =
    ap pieces_of (append_assoc (text_of ws) (10 ∷ []) (flat_map line_of wss)) ∙ split_at 10 (text_of ws) (flat_map line_of wss) h.0 ∙ ap (λ l. text_of ws ∷ l) (pieces_are wss h.1)

but_last : (ls : List (List ℕ)) → all_but_last (ls ++ [] ∷ []) ≡ ls
but_last [] = refl
but_last (l ∷ []) = refl
but_last (l ∷ m ∷ ls) = ap (λ t. l ∷ t) (but_last (m ∷ ls))

pub lines_are : (wss : List (List Word)) → AllByRecursion OneLine wss → lines_of (flat_map line_of wss) ≡ map text_of wss
lines_are wss h =
    let text : List ℕ = flat_map line_of wss in let ls : List (List ℕ) = map text_of wss in let pieces = pieces_are wss h in
    let whole : whole_lines_of text ≡ ls = whole_are text ∙ ap all_but_last pieces ∙ but_last ls in
    let nothing : unfinished_line_of text ≡ [] = unfinished_is text ∙ ap last_of pieces ∙ last_of-append ls in
    rw (whole, nothing) (append-nil ls)
