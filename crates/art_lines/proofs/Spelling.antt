-- What spells a command is read as that command, and the other way.
use Rattle.std.proofs.Common.{◌≡◌, ℕ, suc, ℤ, pos, negsuc, ◌+◌, ◌^◌, ◌<◌, List, [], ◌∷◌, length, drop as drop_first, get_or, refl, ap, sym, ◌∙◌, subst, Bool, true, false, arith, Some, None, Option, Ok}
use Rattle.std.specs.Prelude.{◌==◌, ◌↔◌, decimal, codes, nat_le, Result, option_map, option_and_then}
use Rattle.hex.specs.declared.error.FromHexError.{FromHexError}
use Rattle.std.specs.List.{AllZip}
use Rattle.std.specs.Str.{bytes_eq}
use Rattle.std.proofs.lemmas.Bool.{cond_both, le-leb, leb-true, eqb-true, eq-eqb, ne_eqb}
use Rattle.std.proofs.lemmas.Slice.Eq.{bytes_eq-Decides}
use Rattle.std.proofs.lemmas.Fmt.{decimal_is_IsNumeral, decimal_nonempty}
use Rattle.std.proofs.lemmas.Str.Parse.{digit_at}
use Rattle.hex.specs.Hex.{decode_of, decode_pairs}
use Rattle.art_lines.specs.Words.{Word}
use Rattle.art_lines.proofs.Terms.{name, natural, signed, bytes, Reads, Shape, Key, KeyAndValue, Number, NumberAndValue, TwoKeys, TwoNumbers, Tenant, Nothing, put, over, del, get, find, list, span, nput, nget, ndel, nspan, drop, Command, of_tenant, dump, audit, words_of, fields_of, Spells}
use Rattle.art_lines.proofs.Terms.{FieldsFor, shape_of, made_by, called, found_among, all_words, word_in, negated, some_bytes, one_in, two_in, tenant_alone_in, nothing_in, fields_in, command_by, command_in}
use Rattle.art_lines.specs.declared.command.word.Word.{Word as Called}
use Rattle.art_lines.specs.declared.command.word.Word.TheVariants.{LookUp, Change, Whole, Drop}
use Rattle.art_lines.specs.declared.command.word.LookUp.TheVariants as look_up
use Rattle.art_lines.specs.declared.command.word.Change.TheVariants as change
use Rattle.art_lines.specs.declared.command.word.Whole.TheVariants as whole
use Rattle.art_lines.proofs.Parsing.{natural_is, natural_reads}
use Rattle.art_lines.proofs.Shapes.{one_from, two_from}
use Rattle.art_lines.specs.Reading.{natural_in, tenant_in, number_in, bytes_in, command_of}

tenant_reads : (text : List ℕ) (n : ℕ) → Reads text (natural n) → tenant_in text ≡ Some n
unfolding tenant_in
tenant_reads text n h = natural_reads (2 ^ 32) text n (omega arith) h.0 h.1

-- digits do not begin with a `-`
no_minus : (b : ℕ) (rest : List ℕ) (n : ℕ) → n < 2 ^ 64 → b ∷ rest ≡ decimal n → (b == 45) ≡ false
no_minus b rest n small is =
    let numeral = decimal_is_IsNumeral n small in
    let some : 0 < length (decimal n) = subst (λ t. 0 < length t) is (omega arith) in
    let digit = digit_at (decimal n) 0 numeral.0.1 some in
    let low = digit.0 in let first = ap (λ t. get_or t 0 0) is in
    ne_eqb b 45 (λ e. omega arith)

number_reads : (text : List ℕ) (z : ℤ) → Reads text (signed z) → number_in text ≡ Some z
unfolding number_in
number_reads [] (pos n) h =
    let fits : n < 2 ^ 63 = h.1.sfits in let some = decimal_nonempty n (omega arith) in let none = ap length h.0 in absurd (omega arith)
number_reads [] (negsuc n) h = let none = ap length h.0 in absurd (omega arith)
number_reads (b ∷ rest) (pos n) h =
    let fits : n < 2 ^ 63 = h.1.sfits in
    rw (no_minus b rest n (omega arith) h.0, natural_reads (2 ^ 63) (b ∷ rest) n (omega arith) h.0 fits) refl
number_reads (b ∷ rest) (negsuc n) h =
    let fits : n < 2 ^ 63 = h.1.sfits in
    let first : b ≡ 45 = ap (λ t. get_or t 0 0) h.0 in let others : rest ≡ decimal (suc n) = ap (drop_first 1) h.0 in
    rw (eq-eqb b 45 first, natural_reads (2 ^ 63 + 1) rest (suc n) (omega arith) others (omega arith)) refl

bytes_reads : (text : List ℕ) (bs : List ℕ) → Reads text (bytes bs) → bytes_in text ≡ Some bs
unfolding bytes_in decode_pairs
bytes_reads text [] h = rw h refl
bytes_reads text (b ∷ bs) h = go (bytes_eq text (codes "-")) refl
  where
    go : (o : Bool) → bytes_eq text (codes "-") ≡ o → bytes_in text ≡ Some (b ∷ bs)
    go false e = rw (e, h) refl
    go true e = let d = rw ((bytes_eq-Decides text (codes "-")).0 e) at h in cc

-- by shape
module _ {A : Type 0} (read : List ℕ → Option A) (word : A → Word) (reads : (text : List ℕ) (a : A) → Reads text (word a) → read text ≡ Some a) where
  one_reads : (fields : List (List ℕ)) (n : ℕ) (a : A) → AllZip Reads fields (natural n ∷ word a ∷ []) → one_in read fields ≡ Some (n, a)
  one_reads (t ∷ f ∷ []) n a h = rw (tenant_reads t n h.0, reads f a h.1.0) refl
  one_reads fields n a h = absurd assumption

  module _ {B : Type 0} (then_read : List ℕ → Option B) (then_word : B → Word) (then_reads : (text : List ℕ) (b : B) → Reads text (then_word b) → then_read text ≡ Some b) where
    two_reads : (fields : List (List ℕ)) (n : ℕ) (a : A) (b : B) → AllZip Reads fields (natural n ∷ word a ∷ then_word b ∷ []) → two_in read then_read fields ≡ Some (n, a, b)
    two_reads (t ∷ f ∷ g ∷ []) n a b h = rw (tenant_reads t n h.0, reads f a h.1.0, then_reads g b h.1.1.0) refl
    two_reads fields n a b h = absurd assumption

abbrev of_bytes : List ℕ → Word
of_bytes bs = bytes bs

abbrev of_number : ℤ → Word
of_number z = signed z

tenant_alone_reads : (fields : List (List ℕ)) (n : ℕ) → AllZip Reads fields (natural n ∷ []) → tenant_alone_in fields ≡ Some n
tenant_alone_reads (t ∷ []) n h = tenant_reads t n h.0
tenant_alone_reads fields n h = absurd assumption

nothing_reads : (fields : List (List ℕ)) → AllZip Reads fields [] → nothing_in fields ≡ Some tt
nothing_reads [] h = refl
nothing_reads (f ∷ fs) h = absurd h

-- what stands after a word, as words of a line
abbrev words_after : (shape : Shape) → FieldsFor shape → List Word
words_after Key v = natural v.0 ∷ bytes v.1 ∷ []
words_after KeyAndValue v = natural v.0 ∷ bytes v.1 ∷ bytes v.2 ∷ []
words_after TwoKeys v = natural v.0 ∷ bytes v.1 ∷ bytes v.2 ∷ []
words_after Number v = natural v.0 ∷ signed v.1 ∷ []
words_after NumberAndValue v = natural v.0 ∷ signed v.1 ∷ bytes v.2 ∷ []
words_after TwoNumbers v = natural v.0 ∷ signed v.1 ∷ signed v.2 ∷ []
words_after Tenant n = natural n ∷ []
words_after Nothing v = []

after_reads : (shape : Shape) (v : FieldsFor shape) (fs : List (List ℕ)) → AllZip Reads fs (words_after shape v) → fields_in shape fs ≡ Some v
after_reads Key v fs h = one_reads bytes_in of_bytes bytes_reads fs v.0 v.1 h
after_reads KeyAndValue v fs h = two_reads bytes_in of_bytes bytes_reads bytes_in of_bytes bytes_reads fs v.0 v.1 v.2 h
after_reads TwoKeys v fs h = two_reads bytes_in of_bytes bytes_reads bytes_in of_bytes bytes_reads fs v.0 v.1 v.2 h
after_reads Number v fs h = one_reads number_in of_number number_reads fs v.0 v.1 h
after_reads NumberAndValue v fs h = two_reads number_in of_number number_reads bytes_in of_bytes bytes_reads fs v.0 v.1 v.2 h
after_reads TwoNumbers v fs h = two_reads number_in of_number number_reads number_in of_number number_reads fs v.0 v.1 v.2 h
after_reads Tenant n fs h = tenant_alone_reads fs n h
after_reads Nothing v fs h = nothing_reads fs h

-- The word of a command: the table finds it by what it is called, and makes this command of what stands after it.
record HasWord (c : Command) : Type 0 where
  pub word : Called
  pub following : FieldsFor (shape_of word)
  pub found : word_in (called word) ≡ Some word
  pub words : words_of c ≡ name (called word) ∷ words_after (shape_of word) following
  pub makes : made_by word following ≡ c

of_word : (w : Called) (v : FieldsFor (shape_of w)) → word_in (called w) ≡ Some w → words_of (made_by w v) ≡ name (called w) ∷ words_after (shape_of w) v → HasWord (made_by w v)
of_word w v found words = record { word = w; following = v; found = found; words = words; makes = refl }

has_word : (c : Command) → HasWord c
has_word (of_tenant n (put key value)) = of_word (Change change.Put) (n, key, value) refl refl
has_word (of_tenant n (over key value)) = of_word (Change change.Over) (n, key, value) refl refl
has_word (of_tenant n (del key)) = of_word (Change change.Del) (n, key) refl refl
has_word (of_tenant n (get key)) = of_word (LookUp look_up.Get) (n, key) refl refl
has_word (of_tenant n (find key)) = of_word (LookUp look_up.Find) (n, key) refl refl
has_word (of_tenant n (list front)) = of_word (LookUp look_up.List) (n, front) refl refl
has_word (of_tenant n (span low high)) = of_word (LookUp look_up.Span) (n, low, high) refl refl
has_word (of_tenant n (nput number value)) = of_word (Change change.NPut) (n, number, value) refl refl
has_word (of_tenant n (nget number)) = of_word (LookUp look_up.NGet) (n, number) refl refl
has_word (of_tenant n (ndel number)) = of_word (Change change.NDel) (n, number) refl refl
has_word (of_tenant n (nspan low high)) = of_word (LookUp look_up.NSpan) (n, low, high) refl refl
has_word (of_tenant n drop) = of_word Drop n refl refl
has_word dump = of_word (Whole whole.Dump) tt refl refl
has_word audit = of_word (Whole whole.Audit) tt refl refl

all_read : (fields : List (List ℕ)) (c : Command) → AllZip Reads fields (words_of c) → command_in fields ≡ Some c
all_read fields c h = let has = has_word c in go has.word has.following has.found fields (subst (AllZip Reads fields) has.words h) ∙ ap (λ c. Some c) has.makes
  where
    go : (w : Called) (v : FieldsFor (shape_of w)) → word_in (called w) ≡ Some w → (fields : List (List ℕ)) → AllZip Reads fields (name (called w) ∷ words_after (shape_of w) v)
        → command_in fields ≡ Some (made_by w v)
    go w v found [] h = absurd h
    go w v found (word ∷ rest) h =
        ap (λ t. option_and_then (λ w. command_by w rest) (word_in t)) h.0 ∙ ap (option_and_then (λ w. command_by w rest)) found
        ∙ ap (option_map (made_by w)) (after_reads (shape_of w) v rest h.1)

pub spelled : (line : List ℕ) (c : Command) → Spells line c → command_of line ≡ Some c
unfolding command_of
spelled line c h = rw (le-leb (length line) 4096 h.short) (all_read (fields_of line) c h.read)

-- the other way: what is read is spelled
tenant_spelled : (field : List ℕ) (n : ℕ) → tenant_in field ≡ Some n → Reads field (natural n)
unfolding tenant_in
tenant_spelled field n h = natural_is (2 ^ 32) field n h

number_spelled : (field : List ℕ) (z : ℤ) → number_in field ≡ Some z → Reads field (signed z)
unfolding number_in
number_spelled [] z h = cc
number_spelled (b ∷ rest) z h =
    cond_both (b == 45) (option_and_then negated (natural_in (2 ^ 63 + 1) rest)) (option_map (λ n. pos n) (natural_in (2 ^ 63) (b ∷ rest))) (λ o. o ≡ Some z → Reads (b ∷ rest) (signed z))
    (λ e f. below (natural_in (2 ^ 63 + 1) rest) refl (eqb-true b 45 e) f) (λ e f. above (natural_in (2 ^ 63) (b ∷ rest)) refl f) h
  where
    below : (o : Option ℕ) → natural_in (2 ^ 63 + 1) rest ≡ o → b ≡ 45 → option_and_then negated o ≡ Some z → Reads (b ∷ rest) (signed z)
    below (Some (suc n)) e first f =
        let is : negsuc n ≡ z = cc in
        let spelled = natural_is (2 ^ 63 + 1) rest (suc n) e in let small = spelled.1 in
        let fits : n < 2 ^ 63 = omega arith in
        subst (λ x. Reads (b ∷ rest) (signed x)) is (ap (λ c. c ∷ rest) first ∙ ap (λ t. 45 ∷ t) spelled.0, record { sfits = fits })
    below o e first f = cc

    above : (o : Option ℕ) → natural_in (2 ^ 63) (b ∷ rest) ≡ o → option_map (λ n. pos n) o ≡ Some z → Reads (b ∷ rest) (signed z)
    above None e f = cc
    above (Some n) e f =
        let is : pos n ≡ z = cc in
        let spelled = natural_is (2 ^ 63) (b ∷ rest) n e in
        subst (λ x. Reads (b ∷ rest) (signed x)) is (spelled.0, record { sfits = spelled.1 })

some_bytes_spelled : (field : List ℕ) (r : Result (List ℕ) FromHexError) (bs : List ℕ) → decode_of field ≡ r → some_bytes r ≡ Some bs → Reads field (bytes bs)
some_bytes_spelled field (Ok (b ∷ rest)) bs e h = let is : b ∷ rest ≡ bs = cc in subst (λ x. Reads field (bytes x)) is e
some_bytes_spelled field r bs e h = cc

bytes_spelled : (field : List ℕ) (bs : List ℕ) → bytes_in field ≡ Some bs → Reads field (bytes bs)
unfolding bytes_in
bytes_spelled field bs h =
    cond_both (bytes_eq field (codes "-")) (Some []) (some_bytes (decode_of field)) (λ o. o ≡ Some bs → Reads field (bytes bs))
    (λ p e. let is : [] ≡ bs = cc in subst (λ x. Reads field (bytes x)) is ((bytes_eq-Decides field (codes "-")).0 p)) (λ p e. some_bytes_spelled field (decode_of field) bs refl e) h

-- by shape
module _ {A : Type 0} (read : List ℕ → Option A) (word : A → Word) (spelled : (text : List ℕ) (a : A) → read text ≡ Some a → Reads text (word a)) where
  one_spelled : (fields : List (List ℕ)) (f : ℕ × A) → one_in read fields ≡ Some f → AllZip Reads fields (natural f.0 ∷ word f.1 ∷ [])
  one_spelled (t ∷ k ∷ []) f h = go (tenant_in t) (read k) refl refl h
    where
      go : (a : Option ℕ) (x : Option A) → tenant_in t ≡ a → read k ≡ x → one_from a x ≡ Some f → AllZip Reads (t ∷ k ∷ []) (natural f.0 ∷ word f.1 ∷ [])
      go (Some n) (Some key) p q e =
          let is : (n, key) ≡ f = cc in
          subst (λ (f : ℕ × A). AllZip Reads (t ∷ k ∷ []) (natural f.0 ∷ word f.1 ∷ [])) is (tenant_spelled t n p, (spelled k key q, tt))
      go a x p q e = cc
  one_spelled fields f h = cc

  module _ {B : Type 0} (then_read : List ℕ → Option B) (then_word : B → Word) (then_spelled : (text : List ℕ) (b : B) → then_read text ≡ Some b → Reads text (then_word b)) where
    two_spelled : (fields : List (List ℕ)) (f : ℕ × A × B) → two_in read then_read fields ≡ Some f → AllZip Reads fields (natural f.0 ∷ word f.1 ∷ then_word f.2 ∷ [])
    two_spelled (t ∷ k ∷ v ∷ []) f h = go (tenant_in t) (read k) (then_read v) refl refl refl h
      where
        go : (a : Option ℕ) (x : Option A) (y : Option B) → tenant_in t ≡ a → read k ≡ x → then_read v ≡ y → two_from a x y ≡ Some f
            → AllZip Reads (t ∷ k ∷ v ∷ []) (natural f.0 ∷ word f.1 ∷ then_word f.2 ∷ [])
        go (Some n) (Some key) (Some value) p q r e =
            let is : (n, key, value) ≡ f = cc in
            subst (λ (f : ℕ × A × B). AllZip Reads (t ∷ k ∷ v ∷ []) (natural f.0 ∷ word f.1 ∷ then_word f.2 ∷ [])) is
            (tenant_spelled t n p, (spelled k key q, (then_spelled v value r, tt)))
        go a x y p q r e = cc
    two_spelled fields f h = cc

alone_spelled : (fields : List (List ℕ)) (n : ℕ) → tenant_alone_in fields ≡ Some n → AllZip Reads fields (natural n ∷ [])
alone_spelled (t ∷ []) n h = (tenant_spelled t n h, tt)
alone_spelled fields n h = cc

nothing_spelled : (fields : List (List ℕ)) → nothing_in fields ≡ Some tt → AllZip Reads fields []
nothing_spelled [] h = tt
nothing_spelled (x ∷ xs) h = cc

after_spelled : (shape : Shape) (fs : List (List ℕ)) (v : FieldsFor shape) → fields_in shape fs ≡ Some v → AllZip Reads fs (words_after shape v)
after_spelled Key fs v h = one_spelled bytes_in of_bytes bytes_spelled fs v h
after_spelled KeyAndValue fs v h = two_spelled bytes_in of_bytes bytes_spelled bytes_in of_bytes bytes_spelled fs v h
after_spelled TwoKeys fs v h = two_spelled bytes_in of_bytes bytes_spelled bytes_in of_bytes bytes_spelled fs v h
after_spelled Number fs v h = one_spelled number_in of_number number_spelled fs v h
after_spelled NumberAndValue fs v h = two_spelled number_in of_number number_spelled bytes_in of_bytes bytes_spelled fs v h
after_spelled TwoNumbers fs v h = two_spelled number_in of_number number_spelled number_in of_number number_spelled fs v h
after_spelled Tenant fs v h = alone_spelled fs v h
after_spelled Nothing fs v h = nothing_spelled fs h

-- a word is found by what it is called
found_called : (ws : List Called) (field : List ℕ) (w : Called) → found_among ws field ≡ Some w → field ≡ called w
found_called [] field w h = cc
found_called (x ∷ ws) field w h =
    cond_both (bytes_eq field (called x)) (Some x) (found_among ws field) (λ o. o ≡ Some w → field ≡ called w)
    (λ same e. let is : x ≡ w = cc in (bytes_eq-Decides field (called x)).0 same ∙ ap called is) (λ other e. found_called ws field w e) h

-- and the line of what it makes begins with that
words_made : (w : Called) (v : FieldsFor (shape_of w)) → words_of (made_by w v) ≡ name (called w) ∷ words_after (shape_of w) v
words_made (LookUp look_up.Get) v = refl
words_made (LookUp look_up.Find) v = refl
words_made (LookUp look_up.List) v = refl
words_made (LookUp look_up.Span) v = refl
words_made (LookUp look_up.NGet) v = refl
words_made (LookUp look_up.NSpan) v = refl
words_made (Change change.Put) v = refl
words_made (Change change.Over) v = refl
words_made (Change change.Del) v = refl
words_made (Change change.NPut) v = refl
words_made (Change change.NDel) v = refl
words_made (Whole whole.Dump) v = refl
words_made (Whole whole.Audit) v = refl
words_made Drop v = refl

all_spelled : (fields : List (List ℕ)) (c : Command) → command_in fields ≡ Some c → AllZip Reads fields (words_of c)
all_spelled [] c h = cc
all_spelled (word ∷ rest) c h = go (word_in word) refl h
  where
    made : (w : Called) → word ≡ called w → (o : Option (FieldsFor (shape_of w))) → fields_in (shape_of w) rest ≡ o → option_map (made_by w) o ≡ Some c
        → AllZip Reads (word ∷ rest) (words_of c)
    made w is None read e = cc
    made w is (Some v) read e =
        let same : made_by w v ≡ c = cc in
        subst (λ c. AllZip Reads (word ∷ rest) (words_of c)) same
        (subst (AllZip Reads (word ∷ rest)) (sym (words_made w v)) (is, after_spelled (shape_of w) rest v read))

    go : (o : Option Called) → word_in word ≡ o → option_and_then (λ w. command_by w rest) o ≡ Some c → AllZip Reads (word ∷ rest) (words_of c)
    go None found e = cc
    go (Some w) found e = made w (found_called all_words word w found) (fields_in (shape_of w) rest) refl e

pub spells : (line : List ℕ) (c : Command) → command_of line ≡ Some c → Spells line c
unfolding command_of
spells line c h =
    cond_both (nat_le (length line) 4096) (command_in (fields_of line)) None (λ o. o ≡ Some c → Spells line c)
    (λ p e. record { short = leb-true (length line) 4096 p; read = all_spelled (fields_of line) c e }) (λ p e. cc) h

-- what is read of a line is what it spells
pub read_back : (line : List ℕ) (o : Option Command) → o ≡ command_of line → (c : Command) → (o ≡ Some c) ↔ Spells line c
read_back line o e c = (λ h. spells line c (sym e ∙ h), λ h. e ∙ spelled line c h)

pub spells_one : (line : List ℕ) (a b : Command) → Spells line a → Spells line b → a ≡ b
spells_one line a b h k = let p = sym (spelled line a h) ∙ spelled line b k in cc
