-- What the parser's steps say of the definitions.
use Rattle.std.proofs.Common.{◌≡◌, ℕ, zero, suc, ◌+◌, ◌-◌, ◌^◌, ◌<◌, ◌≤◌, List, [], ◌∷◌, ◌++◌, length, take, drop, get_or, append_assoc, append-nil, length-append, refl, ap, sym, ◌∙◌, Bool, true, false, cond, arith, add-one, Some, None, Option, Ok, Err, Result, IsOk, OnOk, drop_of_length-le}
use Rattle.std.specs.Prelude.{◌==◌, decimal, nat_lt, nat_le, ◌&&◌, codes, IfSome}
use Rattle.std.specs.List.{onto_first}
use Rattle.std.specs.Str.{bytes_eq}
use Rattle.std.proofs.lemmas.Bool.{ne_eqb, eq-eqb}
use Rattle.std.proofs.lemmas.List.{take_rest, length-take}
use Rattle.std.specs.List.{refill}
use Rattle.std.specs.Prelude.{MatchBool, is_ok}
use Rattle.std.proofs.Math.Seq.{take-append_seam, drop-append_seam}
use Rattle.std.specs.Str.Parse.{digits_value, AllDigits}
use Rattle.std.specs.Char.{digit_value}
use Rattle.std.proofs.lemmas.Bool.{lt-leb, le-leb, leb-true, true≢false, cases_lt, ltb-true, lt-ltb, le-ltb}
use Rattle.std.proofs.lemmas.Iterator.Adapters.{option_map_id}
use Rattle.std.proofs.lemmas.Slice.Eq.{bytes_eq-Decides}
use Rattle.std.proofs.lemmas.Str.Parse.{numerals_by_value, tells_digits, digit_at}
use Rattle.std.proofs.lemmas.Fmt.{decimal_is_IsNumeral, decimal_nonempty, length-decimal-le, first_decimal, decimal_digit, decimal-digits_value}
use Rattle.std.specs.Prelude.{option_map, option_and_then, ℤ, pos, FitsSigned}
use Rattle.std.specs.Int.{w64}
use Rattle.std.specs.Borrow.{Bor}
use Rattle.std.specs.Result.{OkIff, result_ok}
use Rattle.std.proofs.Common.{inl, inr, subst}
use Rattle.hex.specs.Hex.{decode_of, decode_pairs}
use Rattle.hex.proofs.HexLemmas.{decode_of-ok}
use Rattle.hex.specs.declared.error.FromHexError.{FromHexError}
use Rattle.art_lines.specs.declared.command.word.Word.{Word}
use Rattle.art_lines.proofs.Terms.{Shape, fields_of, negated, some_bytes, command_by, command_in, called, found_among, all_words, word_in, shape_of, with_shape, IsRead}
use Rattle.art_lines.specs.Reading.{natural_in, tenant_in, number_in, bytes_in, command_of}

-- the fields_of of a line whose first space is at a place
fields_at : (line : List ℕ) (i : ℕ) → i < length line → get_or line i 0 ≡ 32 → ((k : ℕ) → k < i → get_or line k 0 ≡ 32 → ⊥)
    → fields_of line ≡ take i line ∷ fields_of (drop (suc i) line)
fields_at [] i h here before = absurd (omega arith)
fields_at (x ∷ xs) zero h here before = rw (eq-eqb x 32 here) refl
fields_at (x ∷ xs) (suc i) h here before =
    let other : x ≡ 32 → ⊥ = before 0 (omega arith) in
    let within : i < length xs = omega arith in
    let again = fields_at xs i within here (λ k lt e. before (suc k) (omega arith) e) in
    rw (ne_eqb x 32 other) (ap (onto_first x) again)

pub fields_first : (line : List ℕ) (i : ℕ) → i < length line → get_or line i 0 ≡ 32 → ((k : ℕ) → k < i → get_or line k 0 ≡ 32 → ⊥)
    → fields_of line ≡ take i line ∷ fields_of (take (length line - (i + 1)) (drop (i + 1) line))
fields_first line i h here before = fields_at line i h here before ∙ ap (λ t. take i line ∷ fields_of t) (ap (λ k. drop k line) (sym (add-one i)) ∙ sym (take_rest line (i + 1)))

pub fields_none : (line : List ℕ) → ((k : ℕ) → k < length line → get_or line k 0 ≡ 32 → ⊥) → fields_of line ≡ line ∷ []
fields_none [] none = refl
fields_none (x ∷ xs) none =
    let other : x ≡ 32 → ⊥ = none 0 (omega arith) in
    rw (ne_eqb x 32 other) (ap (onto_first x) (fields_none xs (λ k lt e. none (suc k) (omega arith) e)))

-- what is read as a natural number is its digits, and is below the limit; and the other way
pub natural_is : (limit : ℕ) (text : List ℕ) (n : ℕ) → natural_in limit text ≡ Some n → (text ≡ decimal n) × (n < limit)
unfolding natural_in
natural_is limit text n h = go (nat_lt (digits_value 10 text) limit) (bytes_eq text (decimal (digits_value 10 text))) refl refl h
  where
    go : (a b : Bool) → nat_lt (digits_value 10 text) limit ≡ a → bytes_eq text (decimal (digits_value 10 text)) ≡ b
        → cond (a && b) (Some (digits_value 10 text)) None ≡ Some n → (text ≡ decimal n) × (n < limit)
    go false b p q e = cc
    go true false p q e = cc
    go true true p q e =
        let is : digits_value 10 text ≡ n = cc in
        ((bytes_eq-Decides text (decimal (digits_value 10 text))).0 q ∙ ap decimal is, subst (λ m. m < limit) is (ltb-true (digits_value 10 text) limit p))

pub natural_reads : (limit : ℕ) (text : List ℕ) (n : ℕ) → limit ≤ 2 ^ 64 → text ≡ decimal n → n < limit → natural_in limit text ≡ Some n
unfolding natural_in
natural_reads limit text n low is small =
    let wide : n < 2 ^ 64 = omega arith in
    let value : digits_value 10 text ≡ n = ap (digits_value 10) is ∙ (decimal_is_IsNumeral n wide).1 in
    let same : bytes_eq text (decimal n) ≡ true = (bytes_eq-Decides text (decimal n)).1 is in
    rw (value, lt-ltb n limit small, same) refl

-- below a lower limit the same is read, or nothing
abbrev pub narrowed : ℕ → Option ℕ → Option ℕ
narrowed limit None = None
narrowed limit (Some n) = cond (nat_lt n limit) (Some n) None

pub natural_narrow : (limit wide : ℕ) (text : List ℕ) → limit ≤ wide → natural_in limit text ≡ narrowed limit (natural_in wide text)
unfolding natural_in
natural_narrow limit wide text low =
    go (nat_lt (digits_value 10 text) limit) (nat_lt (digits_value 10 text) wide) (bytes_eq text (decimal (digits_value 10 text))) refl refl
  where
    go : (a c b : Bool) → nat_lt (digits_value 10 text) limit ≡ a → nat_lt (digits_value 10 text) wide ≡ c
        → cond (a && b) (Some (digits_value 10 text)) None ≡ narrowed limit (cond (c && b) (Some (digits_value 10 text)) None)
    go true true true e f = rw e refl
    go true true false e f = refl
    go false true true e f = rw e refl
    go false true false e f = refl
    go false false b e f = refl
    go true false b e f =
        let small = ltb-true (digits_value 10 text) limit e in
        absurd (true≢false (sym (lt-ltb (digits_value 10 text) wide (omega arith)) ∙ f))

-- a text that shows no number below the limit
no_natural : (limit : ℕ) (text : List ℕ) → ((n : ℕ) → n < limit → text ≡ decimal n → ⊥) → None ≡ natural_in limit text
unfolding natural_in
no_natural limit text none = go (nat_lt (digits_value 10 text) limit) (bytes_eq text (decimal (digits_value 10 text))) refl refl
  where
    go : (a b : Bool) → nat_lt (digits_value 10 text) limit ≡ a → bytes_eq text (decimal (digits_value 10 text)) ≡ b → None ≡ cond (a && b) (Some (digits_value 10 text)) None
    go false b p q = refl
    go true false p q = refl
    go true true p q = absurd (none (digits_value 10 text) (ltb-true (digits_value 10 text) limit p) ((bytes_eq-Decides text (decimal (digits_value 10 text))).0 q))

pub natural_empty : (text : List ℕ) → length text ≡ 0 → None ≡ natural_in (2 ^ 63 + 1) text
natural_empty text h = no_natural (2 ^ 63 + 1) text (λ n lt e. let small : n < 2 ^ 64 = omega arith in let some = decimal_nonempty n small in let same = ap length e in omega arith)

pub natural_long : (text : List ℕ) → 19 < length text → None ≡ natural_in (2 ^ 63 + 1) text
natural_long text h = no_natural (2 ^ 63 + 1) text (λ n lt e. let small : n < 2 ^ 64 = omega arith in let few : n < 10 ^ 19 = omega arith in let short = length-decimal-le 19 n (omega arith) few small in let same = ap length e in omega arith)

pub natural_padded : (text : List ℕ) → get_or text 0 0 ≡ 48 → 1 < length text → None ≡ natural_in (2 ^ 63 + 1) text
natural_padded text zero_first h = no_natural (2 ^ 63 + 1) text (λ n lt e. elim (cases_lt 0 n) [
  | inl some ↦ let small : n < 2 ^ 64 = omega arith in let high = first_decimal n some small in let same = ap (λ t. get_or t 0 0) e in omega arith
  | inr none ↦ let nil : n ≡ 0 = omega arith in let one = ap length (decimal_digit n (omega arith)) in let same = ap length e in absurd (omega arith)
])

pub natural_other : (text : List ℕ) (i : ℕ) → i < length text → ((48 ≤ get_or text i 0) × (get_or text i 0 ≤ 57) → ⊥) → None ≡ natural_in (2 ^ 63 + 1) text
natural_other text i h other = no_natural (2 ^ 63 + 1) text (λ n lt e.
    let small : n < 2 ^ 64 = omega arith in let numeral = decimal_is_IsNumeral n small in
    let within : i < length (decimal n) = subst (λ t. i < length t) e h in
    let digit = digit_at (decimal n) i numeral.0.1 within in
    other (subst (λ t. (48 ≤ get_or t i 0) × (get_or t i 0 ≤ 57)) (sym e) (let low = digit.0 in let high = digit.1 in (omega arith, omega arith))))

pub digit_is : (b : ℕ) → 48 ≤ b → b ≤ 57 → digit_value b ≡ b - 48
digit_is b low high = let below : b < 58 = omega arith in rw (le-ltb b 48 low, lt-ltb b 58 below) refl

pub all_digits : (text : List ℕ) → ((k : ℕ) → k < length text → (48 ≤ get_or text k 0) × (get_or text k 0 ≤ 57)) → AllDigits 10 text
all_digits [] h = tt
all_digits (x ∷ xs) h =
    let first = h 0 (omega arith) in let low = first.0 in let high = first.1 in let value = digit_is x low high in
    (omega arith, all_digits xs (λ k lt. h (suc k) (omega arith)))

-- digits with no 0 before them show their value, where it is below the limit
pub natural_read : (text : List ℕ) (n : ℕ) → 0 < length text → (get_or text 0 0 ≡ 48 → length text ≡ 1) → ((k : ℕ) → k < length text → (48 ≤ get_or text k 0) × (get_or text k 0 ≤ 57))
    → digits_value 10 text ≡ n → n < 2 ^ 63 + 1 → Some n ≡ natural_in (2 ^ 63 + 1) text
unfolding natural_in
natural_read text n some front digits is small =
    let wide : digits_value 10 text < 2 ^ 64 = omega arith in let within : digits_value 10 text < 2 ^ 63 + 1 = omega arith in
    let same = decimal-digits_value (numerals_by_value (AllDigits 10) tells_digits) text (all_digits text digits) some front wide in
    rw (lt-ltb (digits_value 10 text) (2 ^ 63 + 1) within, (bytes_eq-Decides text (decimal (digits_value 10 text))).1 (sym same)) (ap (λ m. Some m) (sym is))

pub natural_wide : (text : List ℕ) (n : ℕ) → digits_value 10 text ≡ n → 2 ^ 63 < n → None ≡ natural_in (2 ^ 63 + 1) text
unfolding natural_in
natural_wide text n is h = rw (le-ltb (digits_value 10 text) (2 ^ 63 + 1) (omega arith)) refl

-- a tenant is one that is below the limit
pub tenant_none : (text : List ℕ) → None ≡ natural_in (2 ^ 63 + 1) text → None ≡ tenant_in text
unfolding tenant_in
tenant_none text h = ap (narrowed (2 ^ 32)) h ∙ sym (natural_narrow (2 ^ 32) (2 ^ 63 + 1) text (omega arith))

-- what is made of a number that fits, and of one that does not
fitted : {E A : Type 0} (limit n : ℕ) (make : ℕ → A) (r : Result A E) → OkIff r (n < limit) (make n) → result_ok r ≡ option_map make (narrowed limit (Some n))
fitted limit n make (Ok x) h = let small = h.0 in let is = h.1 in rw (lt-ltb n limit small) (ap (λ a. Some a) is)
fitted limit n make (Err y) h = rw (le-ltb n limit (elim (cases_lt n limit) [ inl lt ↦ absurd (h lt) | inr ge ↦ ge ])) refl

pub tenant_result : {E : Type 0} (text : List ℕ) (n : ℕ) (r : Result ℕ E) (o : Option ℕ) → Some n ≡ natural_in (2 ^ 63 + 1) text → OkIff r (n < 2 ^ 32) n → o ≡ result_ok r → o ≡ tenant_in text
unfolding tenant_in
tenant_result text n r o h fits is =
    is ∙ fitted (2 ^ 32) n (λ m. m) r fits ∙ option_map_id (narrowed (2 ^ 32) (Some n)) ∙ ap (narrowed (2 ^ 32)) h ∙ sym (natural_narrow (2 ^ 32) (2 ^ 63 + 1) text (omega arith))

-- a number with a sign is one below 0 after it
pub number_empty : (text : List ℕ) → length text ≡ 0 → None ≡ number_in text
unfolding number_in
number_empty [] h = refl
number_empty (b ∷ rest) h = absurd (omega arith)

pub number_below : (text rest : List ℕ) (o : Option ℕ) (p : Option ℤ) → text ≡ 45 ∷ rest → o ≡ natural_in (2 ^ 63 + 1) rest → p ≡ option_and_then negated o → p ≡ number_in text
unfolding number_in
number_below text rest o p is read made = rw is (made ∙ ap (option_and_then negated) read)

pub number_above : (text : List ℕ) (first : ℕ) (rest : List ℕ) (p : Option ℤ) → text ≡ first ∷ rest → (first == 45) ≡ false
    → p ≡ option_map (λ n. pos n) (narrowed (2 ^ 63) (natural_in (2 ^ 63 + 1) text)) → p ≡ number_in text
unfolding number_in
number_above text first rest p is other made =
    rw is (rw other (made ∙ ap (option_map (λ n. pos n)) (sym (natural_narrow (2 ^ 63) (2 ^ 63 + 1) text (omega arith)) ∙ ap (natural_in (2 ^ 63)) is)))

pub number_none : (text : List ℕ) → None ≡ natural_in (2 ^ 63 + 1) text → None ≡ option_map (λ n. pos n) (narrowed (2 ^ 63) (natural_in (2 ^ 63 + 1) text))
number_none text h = ap (λ o. option_map (λ n. pos n) (narrowed (2 ^ 63) o)) h

fits_narrow : {E : Type 0} (n : ℕ) (r : Result ℤ E) → OkIff r (FitsSigned w64 (pos n)) (pos n) → OkIff r (n < 2 ^ 63) (pos n)
fits_narrow n (Ok x) h = (h.0.sfits, h.1)
fits_narrow n (Err y) h = λ lt. h (record { sfits = lt })

pub number_result : {E : Type 0} (text : List ℕ) (n : ℕ) (r : Result ℤ E) (o : Option ℤ) → Some n ≡ natural_in (2 ^ 63 + 1) text → OkIff r (FitsSigned w64 (pos n)) (pos n) → o ≡ result_ok r
    → o ≡ option_map (λ n. pos n) (narrowed (2 ^ 63) (natural_in (2 ^ 63 + 1) text))
number_result text n r o h fits is = is ∙ fitted (2 ^ 63) n (λ m. pos m) r (fits_narrow n r fits) ∙ ap (λ x. option_map (λ n. pos n) (narrowed (2 ^ 63) x)) h

-- a line has a text
pub fields_some : (line : List ℕ) → (t : List ℕ) × (ts : List (List ℕ)) × (fields_of line ≡ t ∷ ts)
fields_some [] = ([], [], refl)
fields_some (x ∷ xs) = go (x == 32) (fields_of xs) (fields_some xs)
  where
    go : (b : Bool) (rest : List (List ℕ)) → (t : List ℕ) × (ts : List (List ℕ)) × (rest ≡ t ∷ ts) → (t : List ℕ) × (ts : List (List ℕ)) × (cond b ([] ∷ rest) (onto_first x rest) ≡ t ∷ ts)
    go true rest some = ([], rest, refl)
    go false rest some = (x ∷ some.0, some.1, ap (onto_first x) some.2)

pub too_long : (line : List ℕ) → 4096 < length line → None ≡ command_of line
unfolding command_of
too_long line h = rw (lt-leb (length line) 4096 h) refl

-- the word of a row, and its shape
pub row_found : (o : Option Word) (w : Word) (s : Shape) → ◌≡◌ {A = Option (Word × Shape)} (Some (w, s)) (option_map with_shape o) → (Some w ≡ o) × (s ≡ shape_of w)
row_found None w s e = cc
row_found (Some x) w s e =
    let row : ◌≡◌ {A = Word × Shape} (w, s) (with_shape x) = cc in
    let same = ap (λ (r : Word × Shape). r.0) row in
    (ap (λ y. Some y) same, ap (λ (r : Word × Shape). r.1) row ∙ ap shape_of (sym same))

pub no_row : (o : Option Word) → ◌≡◌ {A = Option (Word × Shape)} None (option_map with_shape o) → None ≡ o
no_row None e = refl
no_row (Some x) e = cc

-- a word has three letters at least, so what stands after it has its bound
abbrev are_long : List Word → Bool
are_long [] = true
are_long (w ∷ ws) = nat_le 3 (length (called w)) && are_long ws

long_found : (ws : List Word) (field : List ℕ) (w : Word) → are_long ws ≡ true → Some w ≡ found_among ws field → 3 ≤ length field
long_found [] field w long found = cc
long_found (x ∷ ws) field w long found = go (bytes_eq field (called x)) (nat_le 3 (length (called x))) refl refl long found (long_found ws field w)
  where
    go : (b l : Bool) → bytes_eq field (called x) ≡ b → nat_le 3 (length (called x)) ≡ l → (l && are_long ws) ≡ true → Some w ≡ cond b (Some x) (found_among ws field)
        → (are_long ws ≡ true → Some w ≡ found_among ws field → 3 ≤ length field) → 3 ≤ length field
    go true true same three all found others = subst (λ (t : List ℕ). 3 ≤ length t) (sym ((bytes_eq-Decides field (called x)).0 same)) (leb-true 3 (length (called x)) three)
    go false true same three all found others = others all found
    go b false same three all found others = absurd (true≢false (sym all))

pub fits_after : (r : Option (Bor (List ℕ))) (field line : List ℕ) (w : Word) → Some w ≡ word_in field
    → IfSome r (λ rest. length field + 1 + length rest.now ≡ length line) → length line ≤ 4096 → IfSome r (λ rest. length rest.now ≤ 4092)
fits_after None field line w found parts short = tt
fits_after (Some rest) field line w found parts short = let three = long_found all_words field w refl found in omega arith

module _ (line word : List ℕ) (rest : List (List ℕ)) (short : length line ≤ 4096) (split : fields_of line ≡ word ∷ rest) where
  says : command_in (word ∷ rest) ≡ command_of line
  unfolding command_of
  says = rw (le-leb (length line) 4096 short, split) refl

  -- what a word makes of the fields after it
  pub says_word : (w : Word) → Some w ≡ word_in word → command_by w rest ≡ command_of line
  says_word w e = ap (option_and_then (λ w. command_by w rest)) e ∙ says

  pub says_nothing : None ≡ word_in word → None ≡ command_of line
  says_nothing e = ap (option_and_then (λ w. command_by w rest)) e ∙ says

pub bytes_dash : (text : List ℕ) → true ≡ bytes_eq text (codes "-") → Some [] ≡ bytes_in text
unfolding bytes_in
bytes_dash text h = let e = sym h in rw e refl

pub bytes_empty : (text : List ℕ) → length text ≡ 0 → None ≡ bytes_in text
unfolding bytes_in decode_pairs
bytes_empty [] e = refl
bytes_empty (x ∷ r) e = absurd (omega arith)

bytes_bad : (text : List ℕ) → false ≡ bytes_eq text (codes "-") → is_ok (decode_of text) ≡ false → None ≡ bytes_in text
unfolding bytes_in
bytes_bad text h bad = let f = sym h in rw f (go (decode_of text) bad)
  where
    go : (r : Result (List ℕ) FromHexError) → is_ok r ≡ false → None ≡ some_bytes r
    go (Ok bytes) e = absurd (true≢false e)
    go (Err x) e = refl

bytes_good : (text bytes : List ℕ) → false ≡ bytes_eq text (codes "-") → decode_of text ≡ Ok bytes → 0 < length bytes → Some bytes ≡ bytes_in text
unfolding bytes_in
bytes_good text [] h d some = absurd (omega arith)
bytes_good text (b ∷ bs) h d some = let f = sym h in rw (f, d) refl

pub drop_taken : (n : ℕ) (xs : List ℕ) → drop n (take n xs) ≡ []
drop_taken n xs = drop_of_length-le (take n xs) (let short = length-take n xs in omega arith)

-- what was decoded over some bytes, after a front
module _ (front : ℕ) (xs lent new tail : List ℕ) (kept : length (take front lent) ≡ front) (filled : length xs ≡ front + length new) where
  pairs_with_prefix : drop front (refill (length xs) xs (take front lent ++ (new ++ tail))) ≡ new
  pairs_with_prefix =
      let a : List ℕ = take front lent in
      let all = length-append a (new ++ tail) in let more = length-append new tail in let both = length-append a new in
      let whole : take (length xs) (a ++ (new ++ tail)) ≡ a ++ new =
      ap (take (length xs)) (sym (append_assoc a new tail)) ∙ ap (λ n. take n ((a ++ new) ++ tail)) (omega arith) ∙ take-append_seam (a ++ new) tail in
      let none : drop (length (a ++ (new ++ tail))) xs ≡ [] = drop_of_length-le xs (omega arith) in
      ap (λ l. drop front (take (length xs) ((a ++ (new ++ tail)) ++ l))) none ∙ ap (λ l. drop front (take (length xs) l)) (append-nil (a ++ (new ++ tail)))
      ∙ ap (drop front) whole ∙ ap (λ n. drop n (a ++ new)) (sym kept) ∙ drop-append_seam a new

  pub decoded : (text : List ℕ) (b : Bool) → MatchBool b (decode_of text ≡ Ok new) (is_ok (decode_of text) ≡ false)
      → false ≡ bytes_eq text (codes "-") → 0 < length text
      → IsRead b (drop front (refill (length xs) xs (take front lent ++ (new ++ tail)))) (bytes_in text)
  decoded text true d other some =
      let long = (decode_of-ok text new d).2 in
      ap (λ l. Some l) pairs_with_prefix ∙ bytes_good text new other d (omega arith)
  decoded text false d other some = bytes_bad text other d

-- whether something was read, where that is told
module _ {A : Type 0} where
  pub read_none : (b : Bool) (x : A) (o : Option A) → IsRead b x o → b ≡ false → None ≡ o
  read_none false x o h e = h
  read_none true x o h e = absurd (true≢false e)

  pub read_some : (b : Bool) (x : A) (o : Option A) → IsRead b x o → b ≡ true → Some x ≡ o
  read_some true x o h e = h
  read_some false x o h e = absurd (true≢false (sym e))

pub on_ok : {T E : Type 0} {P : Type 0} (r : Result T E) → IsOk r → OnOk r P → P
on_ok (Ok x) is p = p
on_ok (Err e) is p = absurd (true≢false (sym is))
