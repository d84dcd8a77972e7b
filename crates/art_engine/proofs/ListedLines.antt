-- The lines of a list, one pair after another.
use Rattle.std.proofs.Common.{◌≡◌, ℕ, ◌+◌, ◌≤◌, List, [], ◌∷◌, ◌++◌, length, map, refl, ap, sym, ◌∙◌, arith, append_assoc, append-nil, length-append}
use Rattle.std.specs.Prelude.{flat_map, decimal}
use Rattle.std.specs.List.{AllByRecursion}
use Rattle.std.proofs.lemmas.Grind.{flat_map-append}
use Rattle.art_lines.specs.ReplyWords.{listed_as, words_as}
use Rattle.art_lines.specs.Words.{Word}
use Rattle.art_lines.proofs.Common.{shown, bytes, text_of, line_of, put_words, nput_words, end_words, pair_words, number_words, pair_parts, put_parts, nput_parts}
use Rattle.art_engine.proofs.Terms.{KeyRecord, NumberRecord, KeyFits, NumberFits, IsListed, IsNumbered, Pair, NumberPair, record_of, number_record_of, IsFull}
use Rattle.art_engine.proofs.Filters.{All-each, map-alike}
use Rattle.std.proofs.lemmas.List.{length-map}

module _ {X : Type 0} (words : X → List Word) (last : List ℕ) where
  -- a line for each, and what ends them
  abbrev pub lines_from : List X → List ℕ
  lines_from xs = flat_map line_of (map words xs) ++ last

  -- where some text is gathered, and then the line of the first of them, after it stand the lines of the others
  pub lines_next : (x : X) (xs ys : List X) (line before : List ℕ) → ys ≡ x ∷ xs → line ≡ line_of (words x) → before ++ lines_from ys ≡ (before ++ line) ++ lines_from xs
  lines_next x xs ys line before steps same =
      ap (λ l. before ++ lines_from l) steps
      ∙ ap (λ l. before ++ l) (append_assoc (line_of (words x)) (flat_map line_of (map words xs)) last ∙ ap (λ l. l ++ lines_from xs) (sym same))
      ∙ sym (append_assoc before line (lines_from xs))

abbrev pub list_end : ℕ → List ℕ
list_end count = line_of (end_words count)

-- the lines of a list are those of what is shown of its pairs, whose keys are shown as words of one kind, and its end
pub list_all : {X K : Type 0} (own : X → K × List ℕ) (word : K → Word) (xs : List X) (mine : List (K × List ℕ)) → map own xs ≡ mine
    → lines_from (λ x. words_as word (own x)) (list_end (length xs)) xs ≡ flat_map line_of (listed_as word mine)
list_all own word xs mine same =
    let lines : List (List Word) = map (words_as word) (map own xs) in
    ap (λ l. flat_map line_of l ++ list_end (length xs)) (sym (map-alike (words_as word) own (λ x. words_as word (own x)) xs (All-each _ (λ x. refl) xs)))
    ∙ ap (λ n. flat_map line_of lines ++ list_end n) (sym (length-map xs own))
    ∙ ap (λ e. flat_map line_of lines ++ e) (sym (append-nil (list_end (length (map own xs))))) ∙ sym (flat_map-append line_of lines (end_words (length (map own xs)) ∷ []))
    ∙ ap (λ m. flat_map line_of (listed_as word m)) same

shorter : (r : KeyRecord) → KeyFits r → 3 + length (line_of (pair_words (r.key, r.value))) ≤ 4097
shorter r fits =
    let short = fits.line_fits in
    let ended = length-append (text_of (put_words r.tenant r.key r.value)) (10 ∷ []) in
    let whole = ap length (put_parts r.tenant r.tenant r.key r.value refl) in
    let first = length-append (decimal r.tenant) (32 ∷ (shown (bytes r.key) ++ 32 ∷ (shown (bytes r.value) ++ 10 ∷ []))) in
    let pair = ap length (pair_parts r.key r.value) in
    omega arith

pub are_listed : (ps : List Pair) → AllByRecursion IsFull ps → AllByRecursion KeyFits (map record_of ps) → AllByRecursion IsListed ps
are_listed [] full fits = tt
are_listed (p ∷ ps) full fits = ((let long = ap length full.0 in omega arith, shorter (record_of p) fits.0), are_listed ps full.1 fits.1)

number_shorter : (r : NumberRecord) → NumberFits r → length (line_of (number_words (r.key, r.value))) ≤ 4097
number_shorter r fits =
    let short = fits.line_fits in
    let ended = length-append (text_of (nput_words r.tenant r.key r.value)) (10 ∷ []) in
    let whole = ap length (nput_parts r.tenant r.key r.value) in
    let first = length-append (decimal r.tenant) (32 ∷ line_of (number_words (r.key, r.value))) in
    omega arith

pub are_numbered : (ns : List NumberPair) → AllByRecursion NumberFits (map number_record_of ns) → AllByRecursion IsNumbered ns
are_numbered [] fits = tt
are_numbered (p ∷ ns) fits = ((number_shorter (number_record_of p) fits.0, fits.0.number_fits), are_numbered ns fits.1)
