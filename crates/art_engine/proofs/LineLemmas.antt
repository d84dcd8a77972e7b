-- What one more byte does to the lines of a text.
use Rattle.std.proofs.Math.Seq.{drop-cons}
use Rattle.std.proofs.lemmas.List.{take_all, take_rest, take-append-drop}
use Rattle.std.proofs.Common.{◌≡◌, ℕ, zero, suc, ◌-◌, subst, add-one, append-nil, append_assoc, ◌+◌, ◌<◌, ◌≤◌, List, [], ◌∷◌, ◌++◌, length, take, drop, get_or, refl, ap, ap₂, sym, ◌∙◌, Bool, true, false, cond, arith, Some, None}
use Rattle.std.specs.Prelude.{◌==◌, unwrap_or}
use Rattle.art_engine.proofs.Terms.{NoNewline}
use Rattle.std.proofs.lemmas.Bool.{eqb-true, false_from_ne_true}
use Rattle.std.specs.List.{last_or, onto_first}
use Rattle.art_lines.specs.Lines.{whole_lines_of, unfinished_line_of}
use Rattle.art_lines.proofs.Common.{pieces_of}

-- the last of some pieces, and all but it
abbrev pub last_of : List (List ℕ) → List ℕ
last_of [] = []
last_of (x ∷ []) = x
last_of (x ∷ y ∷ ys) = last_of (y ∷ ys)

abbrev pub all_but_last : List (List ℕ) → List (List ℕ)
all_but_last [] = []
all_but_last (x ∷ []) = []
all_but_last (x ∷ y ∷ ys) = x ∷ all_but_last (y ∷ ys)

last_is : (x : List ℕ) (xs : List (List ℕ)) → unwrap_or (last_or (Some x) xs) [] ≡ last_of (x ∷ xs)
last_is x [] = refl
last_is x (y ∷ ys) = last_is y ys

pub unfinished_is : (text : List ℕ) → unfinished_line_of text ≡ last_of (pieces_of text)
unfolding unfinished_line_of
unfinished_is text = go (pieces_of text)
  where
    go : (ps : List (List ℕ)) → unwrap_or (last_or None ps) [] ≡ last_of ps
    go [] = refl
    go (x ∷ xs) = last_is x xs

pub whole_are : (text : List ℕ) → whole_lines_of text ≡ all_but_last (pieces_of text)
unfolding whole_lines_of
whole_are text = go (pieces_of text)
  where
    go : (ps : List (List ℕ)) → take (length ps - 1) ps ≡ all_but_last ps
    go [] = refl
    go (x ∷ []) = refl
    go (x ∷ y ∷ ys) =
        let n : ℕ = length ys in let one : suc (suc n) - 1 ≡ suc n = omega arith in let none : suc n - 1 ≡ n = omega arith in
        ap (λ k. take k (x ∷ y ∷ ys)) one ∙ ap (λ k. x ∷ take k (y ∷ ys)) (sym none) ∙ ap (λ qs. x ∷ qs) (go (y ∷ ys))

-- the pieces with a byte after the last
abbrev onto_last : List (List ℕ) → ℕ → List (List ℕ)
onto_last [] b = (b ∷ []) ∷ []
onto_last (p ∷ []) b = (p ++ b ∷ []) ∷ []
onto_last (p ∷ q ∷ ps) b = p ∷ onto_last (q ∷ ps) b

onto_last-onto_first : (x : ℕ) (ps : List (List ℕ)) (b : ℕ) (p : List ℕ) → onto_last (onto_first x (p ∷ ps)) b ≡ onto_first x (onto_last (p ∷ ps) b)
onto_last-onto_first x [] b p = refl
onto_last-onto_first x (q ∷ ps) b p = refl

-- a text has a piece
data SomePieces : List (List ℕ) → Type 0 where
  some : {p : List ℕ} {ps : List (List ℕ)} → SomePieces (p ∷ ps)

some_onto : (x : ℕ) (ps : List (List ℕ)) → SomePieces (onto_first x ps)
some_onto x [] = some
some_onto x (p ∷ ps) = some

some_pieces : (text : List ℕ) → SomePieces (pieces_of text)
some_pieces [] = some
some_pieces (x ∷ xs) = elim (x == 10) as (λ v. SomePieces (cond v ([] ∷ pieces_of xs) (onto_first x (pieces_of xs)))) [ true ↦ some | false ↦ some_onto x (pieces_of xs) ]

onto_both : (x b : ℕ) (ps : List (List ℕ)) → SomePieces ps → onto_last (onto_first x ps) b ≡ onto_first x (onto_last ps b)
onto_both x b [] h = elim h [ ]
onto_both x b (p ∷ ps) some = onto_last-onto_first x ps b p

onto_last-cons : (b : ℕ) (p : List ℕ) (ps : List (List ℕ)) → SomePieces ps → onto_last (p ∷ ps) b ≡ p ∷ onto_last ps b
onto_last-cons b p [] h = elim h [ ]
onto_last-cons b p (q ∷ ps) some = refl

onto_first-append : (x : ℕ) (ps qs : List (List ℕ)) → SomePieces ps → onto_first x (ps ++ qs) ≡ onto_first x ps ++ qs
onto_first-append x [] qs h = elim h [ ]
onto_first-append x (p ∷ ps) qs some = refl

pieces_of-newline : (text : List ℕ) → pieces_of (text ++ 10 ∷ []) ≡ pieces_of text ++ [] ∷ []
pieces_of-newline [] = refl
pieces_of-newline (x ∷ xs) =
    elim (x == 10) as (λ v. cond v ([] ∷ pieces_of (xs ++ 10 ∷ [])) (onto_first x (pieces_of (xs ++ 10 ∷ []))) ≡ cond v ([] ∷ pieces_of xs) (onto_first x (pieces_of xs)) ++ [] ∷ []) [
      | true ↦ ap (λ ps. [] ∷ ps) (pieces_of-newline xs)
      | false ↦ ap (onto_first x) (pieces_of-newline xs) ∙ onto_first-append x (pieces_of xs) ([] ∷ []) (some_pieces xs)
    ]

pieces_of-byte : (text : List ℕ) (b : ℕ) → (b == 10) ≡ false → pieces_of (text ++ b ∷ []) ≡ onto_last (pieces_of text) b
pieces_of-byte [] b other = rw other refl
pieces_of-byte (x ∷ xs) b other =
    elim (x == 10) as (λ v. cond v ([] ∷ pieces_of (xs ++ b ∷ [])) (onto_first x (pieces_of (xs ++ b ∷ []))) ≡ onto_last (cond v ([] ∷ pieces_of xs) (onto_first x (pieces_of xs))) b) [
      | true ↦ ap (λ ps. [] ∷ ps) (pieces_of-byte xs b other) ∙ sym (onto_last-cons b [] (pieces_of xs) (some_pieces xs))
      | false ↦ ap (onto_first x) (pieces_of-byte xs b other) ∙ sym (onto_both x b (pieces_of xs) (some_pieces xs))
    ]

pub last_of-append : (ps : List (List ℕ)) → last_of (ps ++ [] ∷ []) ≡ []
last_of-append [] = refl
last_of-append (p ∷ []) = refl
last_of-append (p ∷ q ∷ ps) = last_of-append (q ∷ ps)

all_but_last-append : (ps : List (List ℕ)) → SomePieces ps → all_but_last (ps ++ [] ∷ []) ≡ all_but_last ps ++ last_of ps ∷ []
all_but_last-append [] h = elim h [ ]
all_but_last-append (p ∷ []) some = refl
all_but_last-append (p ∷ q ∷ ps) some = ap (λ qs. p ∷ qs) (all_but_last-append (q ∷ ps) some)

last_of-onto : (ps : List (List ℕ)) (b : ℕ) → SomePieces ps → last_of (onto_last ps b) ≡ last_of ps ++ b ∷ []
last_of-onto [] b h = elim h [ ]
last_of-onto (p ∷ []) b some = refl
last_of-onto (p ∷ q ∷ []) b some = refl
last_of-onto (p ∷ q ∷ r ∷ ps) b some = last_of-onto (q ∷ r ∷ ps) b some

all_but_last-onto : (ps : List (List ℕ)) (b : ℕ) → all_but_last (onto_last ps b) ≡ all_but_last ps
all_but_last-onto (p ∷ q ∷ r ∷ ps) b = ap (λ qs. p ∷ qs) (all_but_last-onto (q ∷ r ∷ ps) b)
all_but_last-onto ps b = refl

pub whole_lines_of-newline : (text : List ℕ) → whole_lines_of (text ++ 10 ∷ []) ≡ whole_lines_of text ++ unfinished_line_of text ∷ []
whole_lines_of-newline text =
    whole_are (text ++ 10 ∷ []) ∙ ap all_but_last (pieces_of-newline text) ∙ all_but_last-append (pieces_of text) (some_pieces text)
    ∙ sym (ap₂ (λ ls l. ls ++ l ∷ []) (whole_are text) (unfinished_is text))

pub unfinished_line_of-newline : (text : List ℕ) → unfinished_line_of (text ++ 10 ∷ []) ≡ []
unfinished_line_of-newline text = unfinished_is (text ++ 10 ∷ []) ∙ ap last_of (pieces_of-newline text) ∙ last_of-append (pieces_of text)

pub whole_lines_of-byte : (text : List ℕ) (b : ℕ) → (b == 10) ≡ false → whole_lines_of (text ++ b ∷ []) ≡ whole_lines_of text
whole_lines_of-byte text b other =
    whole_are (text ++ b ∷ []) ∙ ap all_but_last (pieces_of-byte text b other) ∙ all_but_last-onto (pieces_of text) b ∙ sym (whole_are text)

pub unfinished_line_of-byte : (text : List ℕ) (b : ℕ) → (b == 10) ≡ false → unfinished_line_of (text ++ b ∷ []) ≡ unfinished_line_of text ++ b ∷ []
unfinished_line_of-byte text b other =
    unfinished_is (text ++ b ∷ []) ∙ ap last_of (pieces_of-byte text b other) ∙ last_of-onto (pieces_of text) b (some_pieces text)
    ∙ ap (λ l. l ++ b ∷ []) (sym (unfinished_is text))

-- more bytes with no newline, one by one
moved_on : (text : List ℕ) (b : ℕ) (part : List ℕ) → text ++ b ∷ part ≡ (text ++ b ∷ []) ++ part
moved_on text b part = sym (append_assoc text (b ∷ []) part)

pub whole_lines_of-part : (text part : List ℕ) → NoNewline part → whole_lines_of (text ++ part) ≡ whole_lines_of text
whole_lines_of-part text [] none = ap whole_lines_of (append-nil text)
whole_lines_of-part text (b ∷ part) none = ap whole_lines_of (moved_on text b part) ∙ whole_lines_of-part (text ++ b ∷ []) part none.1 ∙ whole_lines_of-byte text b none.0

pub unfinished_line_of-part : (text part : List ℕ) → NoNewline part → unfinished_line_of (text ++ part) ≡ unfinished_line_of text ++ part
unfinished_line_of-part text [] none = ap unfinished_line_of (append-nil text) ∙ sym (append-nil (unfinished_line_of text))
unfinished_line_of-part text (b ∷ part) none =
    ap unfinished_line_of (moved_on text b part) ∙ unfinished_line_of-part (text ++ b ∷ []) part none.1
    ∙ ap (λ t. t ++ part) (unfinished_line_of-byte text b none.0) ∙ sym (moved_on (unfinished_line_of text) b part)

-- a line that its newline ends
pub whole_lines_of-line : (text part : List ℕ) → NoNewline part → whole_lines_of (text ++ part ++ 10 ∷ []) ≡ whole_lines_of text ++ (unfinished_line_of text ++ part) ∷ []
whole_lines_of-line text part none =
    whole_lines_of-newline (text ++ part) ∙ ap (λ ls. ls ++ unfinished_line_of (text ++ part) ∷ []) (whole_lines_of-part text part none)
    ∙ ap (λ l. whole_lines_of text ++ l ∷ []) (unfinished_line_of-part text part none)

next_line : (text : List ℕ) (b : ℕ) (ends : Bool) → (b == 10) ≡ ends → (others : List (List ℕ)) × (whole_lines_of (text ++ b ∷ []) ≡ whole_lines_of text ++ others)
next_line text b true e = (unfinished_line_of text ∷ [], ap (λ x. whole_lines_of (text ++ x ∷ [])) (eqb-true b 10 e) ∙ whole_lines_of-newline text)
next_line text b false e = ([], whole_lines_of-byte text b e ∙ sym (append-nil (whole_lines_of text)))

-- more bytes leave the whole lines as they are, and may bring others after them
pub whole_lines_of-more : (text more : List ℕ) → (others : List (List ℕ)) × (whole_lines_of (text ++ more) ≡ whole_lines_of text ++ others)
whole_lines_of-more text [] = ([], ap whole_lines_of (append-nil text) ∙ sym (append-nil (whole_lines_of text)))
whole_lines_of-more text (b ∷ more) =
    let again = whole_lines_of-more (text ++ b ∷ []) more in let next = next_line text b (b == 10) refl in (
      next.0 ++ again.0,
      ap whole_lines_of (moved_on text b more) ∙ again.1 ∙ ap (λ ls. ls ++ again.0) next.1 ∙ append_assoc (whole_lines_of text) next.0 again.0,
    )

-- the bytes before the first newline
pub no_newline_before : (bytes : List ℕ) (i : ℕ) → ((k : ℕ) → k < i → k < length bytes → (get_or bytes k 0 == 10) ≡ false) → NoNewline (take i bytes)
no_newline_before (b ∷ bytes) (suc i) none = (none 0 (omega arith) (omega arith), no_newline_before bytes i (λ k low within. none (suc k) (omega arith) (omega arith)))
no_newline_before [] (suc i) none = tt
no_newline_before bytes zero none = tt

-- the bytes before the first newline, and a text without one, as a search tells them
pub none_before : (bytes : List ℕ) (i : ℕ) → ((k : ℕ) → 0 ≤ k → k < i → (get_or bytes k 0 == 10) ≡ true → ⊥) → NoNewline (take i bytes)
none_before bytes i none = no_newline_before bytes i (λ k low within. false_from_ne_true (get_or bytes k 0 == 10) (none k (omega arith) low))

pub none_at_all : (bytes : List ℕ) → ((k : ℕ) → 0 ≤ k → k < length bytes → (get_or bytes k 0 == 10) ≡ true → ⊥) → NoNewline bytes
none_at_all bytes none = subst NoNewline (take_all (length bytes) bytes (omega arith)) (none_before bytes (length bytes) none)

-- what is left after a newline
pub after_newline : (rest : List ℕ) (i n : ℕ) → n ≡ length rest → i < length rest → (get_or rest i 0 == 10) ≡ true
    → rest ≡ (take i rest ++ 10 ∷ []) ++ take (n - (i + 1)) (drop (i + 1) rest)
after_newline rest i n long within here =
    let e : drop i rest ≡ 10 ∷ drop (i + 1) rest = drop-cons rest i 0 within ∙ ap (λ b. b ∷ drop (suc i) rest) (eqb-true (get_or rest i 0) 10 here) ∙ ap (λ k. 10 ∷ drop k rest) (sym (add-one i)) in
    let whole : take (n - (i + 1)) (drop (i + 1) rest) ≡ drop (i + 1) rest = ap (λ m. take (m - (i + 1)) (drop (i + 1) rest)) long ∙ take_rest rest (i + 1) in
    sym (take-append-drop i rest) ∙ ap (λ l. take i rest ++ l) e ∙ ap (λ l. take i rest ++ 10 ∷ l) (sym whole) ∙ sym (append_assoc (take i rest) (10 ∷ []) (take (n - (i + 1)) (drop (i + 1) rest)))

-- a line at the front of a text, and those after it
pieces_of-front : (part following : List ℕ) → NoNewline part → pieces_of ((part ++ 10 ∷ []) ++ following) ≡ part ∷ pieces_of following
pieces_of-front [] following none = refl
pieces_of-front (b ∷ part) following none = rw none.0 (ap (onto_first b) (pieces_of-front part following none.1))

all_but_last-cons : (p : List ℕ) (ps : List (List ℕ)) → SomePieces ps → all_but_last (p ∷ ps) ≡ p ∷ all_but_last ps
all_but_last-cons p [] h = elim h [ ]
all_but_last-cons p (q ∷ ps) some = refl

pub whole_lines_of-front : (part following : List ℕ) → NoNewline part → whole_lines_of ((part ++ 10 ∷ []) ++ following) ≡ part ∷ whole_lines_of following
whole_lines_of-front part following none =
    whole_are ((part ++ 10 ∷ []) ++ following) ∙ ap all_but_last (pieces_of-front part following none) ∙ all_but_last-cons part (pieces_of following) (some_pieces following)
    ∙ ap (λ ls. part ∷ ls) (sym (whole_are following))

-- a text without a newline has no whole line
pub no_whole_line : (text : List ℕ) → NoNewline text → whole_lines_of text ≡ []
unfolding whole_lines_of
no_whole_line text none = whole_lines_of-part [] text none
