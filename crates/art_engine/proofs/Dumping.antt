-- The lines of a dump, one pair after another.
use Rattle.std.proofs.Common.{◌≡◌, ℕ, ◌+◌, ◌≤◌, List, [], ◌∷◌, ◌++◌, length, ap, ap₂, sym, ◌∙◌, subst, append_assoc, append-nil, length-append, map, arith}
use Rattle.std.specs.Prelude.{flat_map}
use Rattle.std.proofs.lemmas.Grind.{flat_map-append}
use Rattle.art_lines.specs.Words.{Word}
use Rattle.art_lines.proofs.Common.{text_of, line_of, put_words, nput_words, end_words, IsPartTaken, taken_from, taken_longer}
use Rattle.art_engine.proofs.Terms.{KeyRecord, NumberRecord, KeyFits, NumberFits, key_lines, number_lines, dump_of, Pair, NumberPair, record_of, number_record_of, all_records_of}
use Rattle.std.proofs.lemmas.List.{length-map}

abbrev pub words_put : KeyRecord → List Word
words_put r = put_words r.tenant r.key r.value

abbrev pub words_nput : NumberRecord → List Word
words_nput r = nput_words r.tenant r.key r.value

module _ {X R : Type 0} (made : X → R) (words : R → List Word) where
  -- the lines that make the records of some pairs
  abbrev pub dumped : List X → List ℕ
  dumped xs = flat_map line_of (map words (map made xs))

  -- where some text is gathered, and then the line of the first of them, after it stand the lines of the others
  pub gathered_next : (x : X) (xs ys : List X) (line before after : List ℕ) → ys ≡ x ∷ xs → line ≡ line_of (words (made x)) → after ≡ before ++ line
      → before ++ dumped ys ≡ after ++ dumped xs
  gathered_next x xs ys line before after steps same output =
      ap (λ d. before ++ d) (ap dumped steps ∙ ap (λ l. l ++ dumped xs) (sym same)) ∙ sym (append_assoc before line (dumped xs)) ∙ ap (λ t. t ++ dumped xs) (sym output)

-- a record's line is as long as it may be, and its newline
pub line_fits : (r : KeyRecord) (line : List ℕ) → line ≡ line_of (words_put r) → KeyFits r → length line ≤ 4097
line_fits r line same fits =
    let short = fits.line_fits in let more = length-append (text_of (words_put r)) (10 ∷ []) in let long = ap length same in omega arith

pub number_line_fits : (r : NumberRecord) (line : List ℕ) → line ≡ line_of (words_nput r) → NumberFits r → length line ≤ 4097
number_line_fits r line same fits =
    let short = fits.line_fits in let more = length-append (text_of (words_nput r)) (10 ∷ []) in let long = ap length same in omega arith

-- the lines of a dump are those of all pairs of both kinds, and its end
pub dump_all : (ps : List Pair) (ns : List NumberPair)
    → dumped record_of words_put ps ++ (dumped number_record_of words_nput ns ++ line_of (end_words (length ps + length ns))) ≡ flat_map line_of (dump_of (all_records_of ps ns))
dump_all ps ns =
    let keys : List (List Word) = key_lines (all_records_of ps ns) in let numbers : List (List Word) = number_lines (all_records_of ps ns) in
    let count : ℕ = length (map record_of ps) + length (map number_record_of ns) in
    let counted : length ps + length ns ≡ count = ap₂ (λ a b. a + b) (sym (length-map ps record_of)) (sym (length-map ns number_record_of)) in
    ap (λ n. flat_map line_of keys ++ (flat_map line_of numbers ++ line_of (end_words n))) counted
    ∙ ap (λ e. flat_map line_of keys ++ (flat_map line_of numbers ++ e)) (sym (append-nil (line_of (end_words count))))
    ∙ sym (append_assoc (flat_map line_of keys) (flat_map line_of numbers) (flat_map line_of (end_words count ∷ [])))
    ∙ ap (λ l. l ++ flat_map line_of (end_words count ∷ [])) (sym (flat_map-append line_of keys numbers))
    ∙ sym (flat_map-append line_of (keys ++ numbers) (end_words count ∷ []))

-- where the lines of keys are told, or gathered, those of numbers and the end are left
pub dump_begun : (ps : List Pair) (ns : List NumberPair) (before now held : List ℕ) → IsPartTaken before now held (dumped record_of words_put ps)
    → IsPartTaken before now ((held ++ dumped number_record_of words_nput ns) ++ line_of (end_words (length ps + length ns))) (flat_map line_of (dump_of (all_records_of ps ns)))
dump_begun ps ns before now held taken =
    let numbers = dumped number_record_of words_nput ns in let last = line_of (end_words (length ps + length ns)) in
    subst (IsPartTaken before now ((held ++ numbers) ++ last)) (dump_all ps ns)
    (taken_from before now (held ++ (numbers ++ last)) ((held ++ numbers) ++ last) (dumped record_of words_put ps ++ (numbers ++ last)) (sym (append_assoc held numbers last))
    (taken_longer before now held (numbers ++ last) (dumped record_of words_put ps) taken))
