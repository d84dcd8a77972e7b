-- Keys that were looked up so far.
use Rattle.std.proofs.Common.{◌≡◌, ℕ, ◌+◌, ◌<◌, ◌≤◌, suc, List, [], ◌∷◌, ◌++◌, length, take, drop, get_or, sym, ap, ap₂, subst, ◌∙◌, append_assoc, arith}
use Rattle.std.proofs.Math.ListN.{set}
use Rattle.std.proofs.Math.Seq.{drop-append_seam, drop-cons}
use Rattle.std.proofs.lemmas.List.{append-nil, length-append, length-drop, length-map, map-append, take-append-drop}
use Rattle.art_c.specs.Calls.{stored_value}
use Rattle.art_c.specs.Copies.{word_out, written}
use Rattle.art_c.specs.Gets.{found_flag, found_flags, with_words}
use Rattle.art_c.specs.Handles.{Pairs}
use Rattle.art_c.specs.Layouts.{end_to_end, no_text, items_of_pairs, words_pair}
use Rattle.art_c.specs.declared.value.WordsPair.{WordsPair}
use Rattle.art_c.proofs.Layouts.{bytes-more, items-more, set-more}
use Rattle.art_c.proofs.Made.{word_told}

-- the pair of a key with another word
abbrev pub worded : WordsPair → ℕ → WordsPair
worded is word = record { key_len = is.key_len; word = word }

module _ (keys : List ℕ) (pairs : Pairs ℕ) (items : List WordsPair) (flags : List ℕ) where
  -- these were looked up, and are told
  pub record Got (rest : List ℕ) (left : List WordsPair) (now : List WordsPair) (told : List ℕ) (count : ℕ) : Type 0 where
    pub asked : Pairs ℕ
    pub keys_are : keys ≡ end_to_end no_text asked ++ rest
    pub items_were : items ≡ items_of_pairs words_pair asked ++ left
    pub items_are : now ≡ written (items_of_pairs words_pair (with_words pairs asked)) items
    pub flags_are : told ≡ written (found_flags pairs asked) flags
    pub count_is : count ≡ length asked
    pub fit : length asked ≤ length flags

  abbrev with-word : List ℕ × ℕ → List ℕ × ℕ
  with-word q = (q.0, word_out (stored_value q.0 pairs) q.1)

  module _ {rest : List ℕ} {left now : List WordsPair} {told : List ℕ} {count : ℕ} (c : Got rest left now told count) where
    long-items : length (items_of_pairs words_pair (with_words pairs c.asked)) ≡ count
    long-items =
        length-map (with_words pairs c.asked) (λ (p : List ℕ × ℕ). words_pair p.0 p.1)
        ∙ length-map c.asked with-word ∙ sym c.count_is

    long-flags : length (found_flags pairs c.asked) ≡ count
    long-flags = length-map c.asked (λ (p : List ℕ × ℕ). found_flag (stored_value p.0 pairs)) ∙ sym c.count_is

    -- what is not told yet is as it was
    same-left : drop count now ≡ drop count items
    same-left =
        ap₂ (λ n l. drop n l) (sym long-items) c.items_are
        ∙ drop-append_seam (items_of_pairs words_pair (with_words pairs c.asked)) (drop (length (items_of_pairs words_pair (with_words pairs c.asked))) items)
        ∙ ap (λ n. drop n items) long-items

    many-items : length now ≡ length items
    many-items =
        let told_of = items_of_pairs words_pair (with_words pairs c.asked) in
        let put = length-append told_of (drop (length told_of) items) in
        let cut = length-drop (length told_of) items in
        let was = length-append (items_of_pairs words_pair c.asked) left in
        let long = length-map c.asked (λ (p : List ℕ × ℕ). words_pair p.0 p.1) in
        ap length c.items_are ∙ omega (arith, put, cut, long-items, was, long, ap length c.items_were, c.count_is)

    -- the next pair is as it was
    pub next-item : (none : WordsPair) → left ≡ drop count items → count < length items
        → left ≡ get_or now count none ∷ drop (count + 1) items
    next-item none are place =
        let here : drop count now ≡ get_or now count none ∷ drop (suc count) now = drop-cons now count none (omega (arith, many-items)) in
        let there : drop count items ≡ get_or items count none ∷ drop (suc count) items = drop-cons items count none place in
        let both : get_or now count none ∷ drop (suc count) now ≡ get_or items count none ∷ drop (suc count) items = sym here ∙ same-left ∙ there in
        let same : get_or now count none ≡ get_or items count none = cc in
        let one : suc count ≡ count + 1 = omega arith in
        are ∙ there ∙ ap₂ (λ x n. x ∷ drop n items) (sym same) one

    -- one more
    pub one-got : (key following : List ℕ) (is : WordsPair) (others : List WordsPair) (word flag : ℕ)
        → key ≡ take is.key_len rest → following ≡ drop is.key_len rest → length key ≡ is.key_len → left ≡ is ∷ others → count < length items → count < length flags
        → word ≡ word_out (stored_value key pairs) is.word → flag ≡ found_flag (stored_value key pairs)
        → Got following others (set now count (worded is word)) (set told count flag) (count + 1)
    one-got key following is others word flag front back long next place there word_is flag_is =
        let cut : rest ≡ key ++ following = sym (take-append-drop is.key_len rest) ∙ ap₂ (λ a b. a ++ b) (sym front) (sym back) in
        let p : List ℕ × ℕ = (key, is.word) in
        let items_of = items_of_pairs words_pair (with_words pairs c.asked) in
        let flags_of = found_flags pairs c.asked in
        record {
          asked = c.asked ++ p ∷ [];
          keys_are = c.keys_are ∙ ap (λ z. end_to_end no_text c.asked ++ z) (cut ∙ ap (λ k. k ++ following) (sym (append-nil key)))
              ∙ sym (append_assoc (end_to_end no_text c.asked) (key ++ []) following)
              ∙ ap (λ z. z ++ following) (sym (bytes-more no_text c.asked p));
          items_were = c.items_were ∙ ap (λ z. items_of_pairs words_pair c.asked ++ z) (next ∙ ap (λ z. z ∷ others) (word_told is key long))
              ∙ sym (append_assoc (items_of_pairs words_pair c.asked) (words_pair key is.word ∷ []) others)
              ∙ ap (λ z. z ++ others) (sym (items-more words_pair c.asked p));
          items_are =
              ap₂ (λ n l. set l n (worded is word)) (sym long-items) c.items_are
              ∙ set-more items_of items (worded is word) (subst (λ n. n < length items) (sym long-items) place)
              ∙ ap (λ z. written (items_of ++ z ∷ []) items) (word_told (worded is word) key long ∙ ap (words_pair key) word_is)
              ∙ ap (λ z. written z items) (sym (items-more words_pair (with_words pairs c.asked) (with-word p)))
              ∙ ap (λ z. written (items_of_pairs words_pair z) items) (sym (map-append with-word c.asked (p ∷ [])));
          flags_are =
              ap₂ (λ n l. set l n flag) (sym long-flags) c.flags_are
              ∙ set-more flags_of flags flag (subst (λ n. n < length flags) (sym long-flags) there)
              ∙ ap (λ z. written (flags_of ++ z ∷ []) flags) flag_is
              ∙ ap (λ z. written z flags) (sym (map-append (λ (q : List ℕ × ℕ). found_flag (stored_value q.0 pairs)) c.asked (p ∷ [])));
          count_is = omega (arith, c.count_is, length-append c.asked (p ∷ []));
          fit = omega (arith, c.count_is, there, length-append c.asked (p ∷ []));
        }
