-- Decimal digits that a text begins with, one or eight at a time, and the field that they are.
use Rattle.std.proofs.Common.{◌≡◌, ℕ, ℤ, zero, suc, ◌+◌, ◌-◌, ◌*◌, ◌%◌, ◌^◌, ◌<◌, ◌≤◌, Bool, true, false, cond, List, [], ◌∷◌, ◌++◌, length, take, drop, replicate, get_or, Some, None, Option, refl, ap, sym, ◌∙◌, subst, arith, ◌⊎◌, inl, inr, take-add}
use Rattle.std.specs.Prelude.{◌==◌, pos, negsuc, IfNone, option_map, option_and_then, FitsSigned}
use Rattle.std.specs.List.{AllByRecursion, onto_first}
use Rattle.std.specs.Str.Parse.{digits_value, digits_value_after}
use Rattle.std.proofs.lemmas.Bool.{cases_lt, ne_eqb}
use Rattle.std.proofs.lemmas.Int.Digits.{digits_value-lt}
use Rattle.std.proofs.lemmas.List.{length-take-le, length-drop, take_all, take_more, get_or-take, get_or-drop}
use Rattle.std.proofs.Math.Nat.{pow-le-pow_right}
use Rattle.std.specs.Char.{digit_value}
use Rattle.std.specs.Result.{OkIff, result_ok}
use Rattle.std.proofs.Common.{Result, Ok, Err, Fits, w8, w64}
use Rattle.std.proofs.Math.Facts.{to_z-of_z}
use mir.Val.{to_z, of_z}
use lib.Lanes.{zip2, Each1, chunk}
use Rattle.art_lines.proofs.Terms.{fields_of, negated, IsFirst, HasNoFirst, AreFirstDigits, IsDigit, IsDigitAt, pairs_shown}
use Rattle.art_lines.proofs.Parsing.{digit_is, all_digits, fields_first, fields_none, fields_some, natural_empty, natural_long, natural_padded, natural_other, natural_read, natural_wide, natural_is, tenant_none, tenant_result, number_below, number_above, number_none, number_result, number_empty}
use Rattle.art_lines.specs.Reading.{natural_in, tenant_in, number_in}

-- ---- digits that a text begins with

value_append : (n : ℕ) (xs ys : List ℕ) → digits_value_after 10 n (xs ++ ys) ≡ digits_value_after 10 (digits_value_after 10 n xs) ys
value_append n [] ys = refl
value_append n (x ∷ xs) ys = value_append (n * 10 + digit_value x) xs ys

taken_digits : (text : List ℕ) (len : ℕ) → len ≤ length text → ((k : ℕ) → k < len → IsDigitAt text k) → (k : ℕ) → k < length (take len text)
    → (48 ≤ get_or (take len text) k 0) × (get_or (take len text) k 0 ≤ 57)
taken_digits text len within digits k lt =
    let long = length-take-le len text within in
    let inside : k < len = omega arith in
    subst IsDigit (sym (get_or-take len text k 0 inside)) ((digits k inside).1)

-- what they show has as many digits
pub shown_small : (text : List ℕ) (len n : ℕ) → AreFirstDigits text len n → n < 10 ^ len
shown_small text len n h =
    let long = length-take-le len text h.within in
    subst (λ (m : ℕ). m < 10 ^ len) h.shown (subst (λ (k : ℕ). digits_value 10 (take len text) < 10 ^ k) long
    (digits_value-lt 10 (take len text) (all_digits (take len text) (taken_digits text len h.within h.digits))))

-- one digit more
pub one_more : (text : List ℕ) (len n : ℕ) → AreFirstDigits text len n → IsDigitAt text len → AreFirstDigits text (len + 1) (n * 10 + (get_or text len 0 - 48))
one_more text len n h digit = record {
  within = let low = digit.0 in omega arith;
  digits = λ k lt. each k (cases k lt);
  shown = ap (digits_value 10) (take_more text len 0 digit.0) ∙ value_append 0 (take len text) (get_or text len 0 ∷ [])
      ∙ ap (λ m. digits_value_after 10 m (get_or text len 0 ∷ [])) h.shown ∙ ap (λ v. n * 10 + v) (digit_is (get_or text len 0) digit.1.0 digit.1.1);
}
  where
    cases : (k : ℕ) → k < len + 1 → (k < len) ⊎ (k ≡ len)
    cases k lt = elim (cases_lt k len) [ inl low ↦ inl low | inr high ↦ inr (omega arith) ]

    each : (k : ℕ) → (k < len) ⊎ (k ≡ len) → IsDigitAt text k
    each k (inl low) = h.digits k low
    each k (inr same) = subst (IsDigitAt text) (sym same) digit

-- fewer digits show less
pub shown_few : (most : ℕ) (text : List ℕ) (len n : ℕ) → AreFirstDigits text len n → len ≤ most → n < 10 ^ most
shown_few most text len n h few = let small = shown_small text len n h in let ten : 0 < 10 = omega arith in let more = pow-le-pow_right {n = 10} ten few in omega arith

-- ---- eight digits

-- one lane less another
abbrev pub minus : ℕ → ℕ → ℕ
minus a b = (a + (2 ^ 8 - b)) % 2 ^ 8

digit_range : (d : ℕ) → d < 256 → (d + 208) % 256 < 10 → (48 ≤ d) × (d ≤ 57)
digit_range d small low = (omega arith, omega arith)

digit_shown : (d : ℕ) → d < 256 → (d + 208) % 256 < 10 → digit_value d ≡ (d + 208) % 256
digit_shown d small low = let range = digit_range d small low in let from = range.0 in let to = range.1 in digit_is d from to ∙ omega arith

pair_shown : (d e a : ℕ) → d < 256 → e < 256 → (d + 208) % 256 < 10 → (e + 208) % 256 < 10 → a ≡ ((d + 208) % 256 * 10 + (e + 208) % 256) % 256 → a ≡ digit_value d * 10 + digit_value e
pair_shown d e a small less low few is = let p = digit_shown d small low in let q = digit_shown e less few in omega arith

four_pairs : (p q r s t u v w a b c d : ℕ) → a ≡ p * 10 + q → b ≡ r * 10 + s → c ≡ t * 10 + u → d ≡ v * 10 + w
    → (((((((0 * 10 + p) * 10 + q) * 10 + r) * 10 + s) * 10 + t) * 10 + u) * 10 + v) * 10 + w ≡ (a * 100 + b) * 10000 + (c * 100 + d)
four_pairs p q r s t u v w a b c d e f g h = omega arith

each_digit : (ds : List ℕ) → AllByRecursion IsDigit ds → (k : ℕ) → k < length ds → IsDigitAt ds k
each_digit [] all k lt = absurd (omega arith)
each_digit (d ∷ ds) all zero lt = (lt, all.0)
each_digit (d ∷ ds) all (suc k) lt = let within : k < length ds = omega arith in (lt, (each_digit ds all.1 k within).1)

pub eight_shown : (ds ps : List ℕ) (a b c d : ℕ) → length ds ≡ 8 → Each1 (Fits w8) ds → AllByRecursion (λ v. v < 10) (zip2 minus ds (replicate 8 48))
    → ps ≡ pairs_shown (zip2 minus ds (replicate 8 48)) → a ≡ get_or ps 0 0 → b ≡ get_or ps 1 0 → c ≡ get_or ps 2 0 → d ≡ get_or ps 3 0
    → AreFirstDigits ds 8 ((a * 100 + b) * 10000 + (c * 100 + d))
eight_shown (d0 ∷ d1 ∷ d2 ∷ d3 ∷ d4 ∷ d5 ∷ d6 ∷ d7 ∷ []) ps a b c d long f l is ea eb ec ed =
    let f0 = f.0.fits in let f1 = f.1.0.fits in let f2 = f.1.1.0.fits in let f3 = f.1.1.1.0.fits in
    let f4 = f.1.1.1.1.0.fits in let f5 = f.1.1.1.1.1.0.fits in let f6 = f.1.1.1.1.1.1.0.fits in let f7 = f.1.1.1.1.1.1.1.0.fits in
    let l0 = l.0 in let l1 = l.1.0 in let l2 = l.1.1.0 in let l3 = l.1.1.1.0 in
    let l4 = l.1.1.1.1.0 in let l5 = l.1.1.1.1.1.0 in let l6 = l.1.1.1.1.1.1.0 in let l7 = l.1.1.1.1.1.1.1.0 in
    record {
      within = omega arith;
      digits = λ k lt. each_digit (d0 ∷ d1 ∷ d2 ∷ d3 ∷ d4 ∷ d5 ∷ d6 ∷ d7 ∷ [])
          (digit_range d0 f0 l0, (digit_range d1 f1 l1, (digit_range d2 f2 l2, (digit_range d3 f3 l3, (digit_range d4 f4 l4, (digit_range d5 f5 l5, (digit_range d6 f6 l6, (digit_range d7 f7 l7, tt))))))))
          k lt;
      shown = four_pairs (digit_value d0) (digit_value d1) (digit_value d2) (digit_value d3) (digit_value d4) (digit_value d5) (digit_value d6) (digit_value d7) a b c d
          (pair_shown d0 d1 a f0 f1 l0 l1 (ea ∙ ap (λ l. get_or l 0 0) is)) (pair_shown d2 d3 b f2 f3 l2 l3 (eb ∙ ap (λ l. get_or l 1 0) is))
          (pair_shown d4 d5 c f4 f5 l4 l5 (ec ∙ ap (λ l. get_or l 2 0) is)) (pair_shown d6 d7 d f6 f7 l6 l7 (ed ∙ ap (λ l. get_or l 3 0) is));
    }
eight_shown ds ps a b c d long f l is ea eb ec ed = absurd (omega (arith, long))

eight_sum : (n p q r s t u v w : ℕ) → (((((((n * 10 + p) * 10 + q) * 10 + r) * 10 + s) * 10 + t) * 10 + u) * 10 + v) * 10 + w
    ≡ n * 100000000 + ((((((((0 * 10 + p) * 10 + q) * 10 + r) * 10 + s) * 10 + t) * 10 + u) * 10 + v) * 10 + w)
eight_sum n p q r s t u v w = omega arith

eight_after : (n : ℕ) (ds : List ℕ) → length ds ≡ 8 → digits_value_after 10 n ds ≡ n * 100000000 + digits_value 10 ds
eight_after n (d0 ∷ d1 ∷ d2 ∷ d3 ∷ d4 ∷ d5 ∷ d6 ∷ d7 ∷ []) long =
    eight_sum n (digit_value d0) (digit_value d1) (digit_value d2) (digit_value d3) (digit_value d4) (digit_value d5) (digit_value d6) (digit_value d7)
eight_after n ds long = absurd (omega (arith, long))

-- eight digits more
pub eight_digits : (text : List ℕ) (len n m : ℕ) → AreFirstDigits text len n → len + 8 ≤ length text → AreFirstDigits (chunk len 8 text) 8 m → AreFirstDigits text (len + 8) (n * 100000000 + m)
eight_digits text len n m h fits e = record {
  within = fits;
  digits = λ k lt. each k lt (cases_lt k len);
  shown =
      let rest = length-drop len text in
      let long : length (take 8 (drop len text)) ≡ 8 = length-take-le 8 (drop len text) (omega arith) in
      let all : take 8 (take 8 (drop len text)) ≡ take 8 (drop len text) = take_all 8 (take 8 (drop len text)) (omega arith) in
      ap (digits_value 10) (take-add len 8 text) ∙ value_append 0 (take len text) (take 8 (drop len text)) ∙ ap (λ k. digits_value_after 10 k (take 8 (drop len text))) h.shown
      ∙ eight_after n (take 8 (drop len text)) long ∙ ap (λ v. n * 100000000 + v) (ap (digits_value 10) (sym all) ∙ e.shown);
}
  where
    each : (k : ℕ) → k < len + 8 → (k < len) ⊎ (len ≤ k) → IsDigitAt text k
    each k lt (inl low) = h.digits k low
    each k lt (inr high) =
        let near : k - len < 8 = omega arith in let digit = (e.digits (k - len) near).1 in
        let same : len + (k - len) ≡ k = omega arith in
        let is : get_or (chunk len 8 text) (k - len) 0 ≡ get_or text k 0 = get_or-take 8 (drop len text) (k - len) 0 near ∙ get_or-drop len text (k - len) 0 ∙ ap (λ i. get_or text i 0) same in
        (omega arith, subst IsDigit is digit)

-- ---- the first field of a text

-- a byte that is no space, nor any before it, stands in the first field
first_longer : (text field : List ℕ) (rest : List (List ℕ)) (i : ℕ) → fields_of text ≡ field ∷ rest → i < length text → ((k : ℕ) → k ≤ i → get_or text k 0 ≡ 32 → ⊥)
    → (i < length field) × (get_or field i 0 ≡ get_or text i 0)
first_longer [] field rest i e lt none = absurd (omega arith)
first_longer (x ∷ xs) field rest i e lt none =
    let some = fields_some xs in
    let whole : fields_of (x ∷ xs) ≡ (x ∷ some.0) ∷ some.1 = rw (ne_eqb x 32 (none 0 (omega arith))) (ap (onto_first x) some.2) in
    let both : field ∷ rest ≡ (x ∷ some.0) ∷ some.1 = sym e ∙ whole in
    let same : field ≡ x ∷ some.0 = cc in
    subst (λ (f : List ℕ). (i < length f) × (get_or f i 0 ≡ get_or (x ∷ xs) i 0)) (sym same)
    (step some.0 i lt none (λ j within none. first_longer xs some.0 some.1 j some.2 within none))
  where
    step : (t : List ℕ) (i : ℕ) → i < length (x ∷ xs) → ((k : ℕ) → k ≤ i → get_or (x ∷ xs) k 0 ≡ 32 → ⊥)
        → ((j : ℕ) → j < length xs → ((k : ℕ) → k ≤ j → get_or xs k 0 ≡ 32 → ⊥) → (j < length t) × (get_or t j 0 ≡ get_or xs j 0))
        → (i < length (x ∷ t)) × (get_or (x ∷ t) i 0 ≡ get_or (x ∷ xs) i 0)
    step t zero lt none again = (omega arith, refl)
    step t (suc j) lt none again =
        let within : j < length xs = omega arith in
        let longer = again j within (λ k few s. none (suc k) (omega arith) s) in
        let more = longer.0 in (omega arith, longer.1)

-- a first field that is not empty begins as the text does
first_of : (text : List ℕ) (first : ℕ) (after : List ℕ) → text ≡ first ∷ after → (x : ℕ) (xs : List ℕ) (rest : List (List ℕ)) → fields_of text ≡ (x ∷ xs) ∷ rest → x ≡ first
first_of text first after is x xs rest e = go (first == 32) refl (fields_some after) (sym (ap fields_of is) ∙ e)
  where
    go : (b : Bool) → (first == 32) ≡ b → (t : List ℕ) × (ts : List (List ℕ)) × (fields_of after ≡ t ∷ ts) → fields_of (first ∷ after) ≡ (x ∷ xs) ∷ rest → x ≡ first
    go true s some h = let clash : [] ∷ fields_of after ≡ (x ∷ xs) ∷ rest = sym (rw s refl) ∙ h in cc
    go false s some h = let both : (first ∷ some.0) ∷ some.1 ≡ (x ∷ xs) ∷ rest = sym (rw s (ap (onto_first first) some.2)) ∙ h in cc

-- ---- the natural number that they are

module _ (text : List ℕ) (len n : ℕ) (h : AreFirstDigits text len n) where
  taken : length (take len text) ≡ len
  taken = length-take-le len text h.within

  pub natural_none : len ≡ 0 → None ≡ natural_in (2 ^ 63 + 1) (take len text)
  natural_none none = natural_empty (take len text) (taken ∙ none)

  pub natural_zero : get_or text 0 0 ≡ 48 → 1 < len → None ≡ natural_in (2 ^ 63 + 1) (take len text)
  natural_zero first more =
      let some : 0 < len = omega arith in let long = taken in
      natural_padded (take len text) (get_or-take len text 0 0 some ∙ first) (omega arith)

  pub natural_great : 2 ^ 63 < n → None ≡ natural_in (2 ^ 63 + 1) (take len text)
  natural_great high = natural_wide (take len text) n h.shown high

  pub natural_first : 0 < len → (get_or text 0 0 ≡ 48 → len ≡ 1) → n < 2 ^ 63 + 1 → Some n ≡ natural_in (2 ^ 63 + 1) (take len text)
  natural_first some front small =
      let long = taken in
      natural_read (take len text) n (omega arith) (λ e. taken ∙ front (sym (get_or-take len text 0 0 some) ∙ e)) (taken_digits text len h.within h.digits) h.shown small

  -- ---- the field that they are

  no_space : (k : ℕ) → k < len → get_or text k 0 ≡ 32 → ⊥
  no_space k lt e = let digit = (h.digits k lt).1 in let low = digit.0 in omega arith

  pub ended_by : len < length text → get_or text len 0 ≡ 32 → fields_of text ≡ take len text ∷ fields_of (take (length text - (len + 1)) (drop (len + 1) text))
  ended_by within space = fields_first text len within space no_space

  pub not_ended : {A : Type 0} (read : List ℕ → Option A) → length text ≤ len → HasNoFirst read text
  not_ended read all field next others e = cc (sym e ∙ fields_none text (λ k lt s. no_space k (omega arith) s))

  pub other_end : len < length text → (get_or text len 0 ≡ 32 → ⊥) → (len < 19 → IsDigitAt text len → ⊥) → HasNoFirst (natural_in (2 ^ 63 + 1)) text
  other_end within other end field next others e =
      let more = first_longer text field (next ∷ others) len e within (λ k few s. elim (cases_lt k len) [ inl low ↦ no_space k low s | inr high ↦ let same : k ≡ len = omega arith in other (subst (λ i. get_or text i 0 ≡ 32) same s) ]) in
      elim (cases_lt len 19) [
        | inl low ↦ natural_other field len more.0 (λ digit. end low (within, subst IsDigit more.1 digit))
        | inr high ↦ natural_long field (let long = more.0 in omega arith)
      ]

-- what is read of the first field, where a space ends it
pub only_first : {A : Type 0} (read : List ℕ → Option A) (text field rest : List ℕ) → fields_of text ≡ field ∷ fields_of rest → None ≡ read field → HasNoFirst read text
only_first read text field rest parts none other next others e =
    let both : other ∷ next ∷ others ≡ field ∷ fields_of rest = sym e ∙ parts in
    let same : other ≡ field = cc in
    none ∙ ap read (sym same)

pub if_none : {A : Type 0} {P : Type 0} (o : Option A) → P → IfNone o P
if_none None p = p
if_none (Some a) p = tt

-- ---- a tenant

pub no_tenant_first : (text : List ℕ) → HasNoFirst (natural_in (2 ^ 63 + 1)) text → HasNoFirst tenant_in text
no_tenant_first text h field next others e = tenant_none field (h field next others e)

module _ {E : Type 0} (text rest : List ℕ) (n : ℕ) (r : Result ℕ E) (h : IsFirst (natural_in (2 ^ 63 + 1)) text n rest) (fits : OkIff r (n < 2 ^ 32) n) where
  pub tenant_not_first : None ≡ result_ok r → HasNoFirst tenant_in text
  tenant_not_first is = only_first tenant_in text h.field rest h.parts (tenant_result h.field n r None h.meant fits is)

  pub tenant_first : (t : ℕ) → Some t ≡ result_ok r → IsFirst tenant_in text t rest
  tenant_first t is = record { field = h.field; parts = h.parts; meant = tenant_result h.field n r (Some t) h.meant fits is }

-- ---- a number

pub no_number_first : (text : List ℕ) (first : ℕ) (after : List ℕ) → text ≡ first ∷ after → (first ≡ 45 → ⊥) → HasNoFirst (natural_in (2 ^ 63 + 1)) text → HasNoFirst number_in text
no_number_first text first after is other h field next others e = go field e (h field next others e)
  where
    go : (field : List ℕ) → fields_of text ≡ field ∷ next ∷ others → None ≡ natural_in (2 ^ 63 + 1) field → None ≡ number_in field
    go [] e none = number_empty [] refl
    go (x ∷ xs) e none =
        let same : x ≡ first = first_of text first after is x xs (next ∷ others) e in
        number_above (x ∷ xs) x xs None refl (ne_eqb x 45 (λ s. other (sym same ∙ s))) (number_none (x ∷ xs) none)

module _ {E : Type 0} (text rest : List ℕ) (n : ℕ) (r : Result ℤ E) (first : ℕ) (after : List ℕ) (starts : text ≡ first ∷ after) (other : first ≡ 45 → ⊥)
    (h : IsFirst (natural_in (2 ^ 63 + 1)) text n rest) (fits : OkIff r (FitsSigned w64 (pos n)) (pos n)) where
  above : (o : Option ℤ) → o ≡ result_ok r → o ≡ number_in h.field
  above o is = go h.field h.parts h.meant
    where
      go : (field : List ℕ) → fields_of text ≡ field ∷ fields_of rest → Some n ≡ natural_in (2 ^ 63 + 1) field → o ≡ number_in field
      go [] e meant = cc (meant ∙ sym (natural_empty [] refl))
      go (x ∷ xs) e meant =
          let same : x ≡ first = first_of text first after starts x xs (fields_of rest) e in
          number_above (x ∷ xs) x xs o refl (ne_eqb x 45 (λ s. other (sym same ∙ s))) (number_result (x ∷ xs) n r o meant fits is)

  pub number_not_first : None ≡ result_ok r → HasNoFirst number_in text
  number_not_first is = only_first number_in text h.field rest h.parts (above None is)

  number_first : (z : ℤ) → Some z ≡ result_ok r → IsFirst number_in text z rest
  number_first z is = record { field = h.field; parts = h.parts; meant = above (Some z) is }

  number_fits : (r : Result ℤ E) (z : ℤ) → OkIff r (FitsSigned w64 (pos n)) (pos n) → Some z ≡ result_ok r → FitsSigned w64 z
  number_fits (Ok y) z h e = let same : z ≡ y = cc in subst (FitsSigned w64) (sym (same ∙ h.1)) h.0
  number_fits (Err y) z h e = cc e

  pub number_first_packed : (z : ℤ) → Some z ≡ result_ok r → IsFirst number_in text (to_z w64 (of_z w64 z)) rest
  number_first_packed z is = subst (λ (i : ℤ). IsFirst number_in text i rest) (sym (to_z-of_z (number_fits r z fits is))) (number_first z is)

-- ---- a number below 0

-- the first field of what a sign begins
signed_field : (digits : List ℕ) (field : List ℕ) (fs : List (List ℕ)) → fields_of digits ≡ field ∷ fs → fields_of (45 ∷ digits) ≡ (45 ∷ field) ∷ fs
signed_field digits field fs e = ap (onto_first 45) e

pub no_number_below : (digits : List ℕ) → HasNoFirst (natural_in (2 ^ 63 + 1)) digits → HasNoFirst number_in (45 ∷ digits)
no_number_below digits h field next others e =
    let some = fields_some digits in
    let both : field ∷ next ∷ others ≡ (45 ∷ some.0) ∷ some.1 = sym e ∙ signed_field digits some.0 some.1 some.2 in
    let same : field ≡ 45 ∷ some.0 = cc in
    let rest : next ∷ others ≡ some.1 = cc in
    number_below field some.0 None None same (h some.0 next others (some.2 ∙ ap (λ fs. some.0 ∷ fs) (sym rest))) refl

below_fits : (n : ℕ) (z : ℤ) → n ≤ 2 ^ 63 → Some z ≡ negated n → FitsSigned w64 z
below_fits zero z low e = cc e
below_fits (suc m) z low e = let same : z ≡ negsuc m = cc in subst (FitsSigned w64) (sym same) (record { sfits = omega arith })

module _ (digits rest : List ℕ) (n : ℕ) (h : IsFirst (natural_in (2 ^ 63 + 1)) digits n rest) where
  pub natural_low : n ≤ 2 ^ 63
  natural_low = let is = (natural_is (2 ^ 63 + 1) h.field n (sym h.meant)).1 in omega arith

  below_is : (o : Option ℤ) → o ≡ negated n → o ≡ number_in (45 ∷ h.field)
  below_is o is = number_below (45 ∷ h.field) h.field (Some n) o refl h.meant is

  pub below_not_first : None ≡ negated n → HasNoFirst number_in (45 ∷ digits)
  below_not_first is = only_first number_in (45 ∷ digits) (45 ∷ h.field) rest (signed_field digits h.field (fields_of rest) h.parts) (below_is None is)

  below_first : (z : ℤ) → Some z ≡ negated n → IsFirst number_in (45 ∷ digits) z rest
  below_first z is = record { field = 45 ∷ h.field; parts = signed_field digits h.field (fields_of rest) h.parts; meant = below_is (Some z) is }

  pub below_first_packed : (z : ℤ) → Some z ≡ negated n → IsFirst number_in (45 ∷ digits) (to_z w64 (of_z w64 z)) rest
  below_first_packed z is = subst (λ (i : ℤ). IsFirst number_in (45 ∷ digits) i rest) (sym (to_z-of_z (below_fits n z natural_low is))) (below_first z is)

-- a whole text of digits
pub whole_natural : (o : Option ℕ) (text : List ℕ) (len : ℕ) → o ≡ natural_in (2 ^ 63 + 1) (take len text) → length text ≤ len → o ≡ natural_in (2 ^ 63 + 1) text
whole_natural o text len is all = is ∙ ap (natural_in (2 ^ 63 + 1)) (take_all len text all)

pub not_whole : (text : List ℕ) (len : ℕ) → (len < 19 → IsDigitAt text len → ⊥) → len < length text → None ≡ natural_in (2 ^ 63 + 1) text
not_whole text len end within = elim (cases_lt len 19) [
  | inl low ↦ natural_other text len within (λ digit. end low (within, digit))
  | inr high ↦ natural_long text (omega arith)
]

pub natural_some : (text : List ℕ) (n : ℕ) → Some n ≡ natural_in (2 ^ 63 + 1) text → 0 < length text
natural_some [] n h = cc (h ∙ sym (natural_empty [] refl))
natural_some (x ∷ xs) n h = omega arith

-- a number that is read has 64 bits
pub number_range : (field : List ℕ) (z : ℤ) → Some z ≡ number_in field → FitsSigned w64 z
unfolding number_in
number_range [] z h = cc h
number_range (b ∷ rest) z h = go (b == 45) h
  where
    low : (o : Option ℕ) → natural_in (2 ^ 63 + 1) rest ≡ o → Some z ≡ option_and_then negated o → FitsSigned w64 z
    low None e f = cc f
    low (Some n) e f = below_fits n z (let small = (natural_is (2 ^ 63 + 1) rest n e).1 in omega arith) f

    high : (o : Option ℕ) → natural_in (2 ^ 63) (b ∷ rest) ≡ o → Some z ≡ option_map (λ n. pos n) o → FitsSigned w64 z
    high None e f = cc f
    high (Some n) e f = let same : z ≡ pos n = cc in subst (FitsSigned w64) (sym same) (record { sfits = (natural_is (2 ^ 63) (b ∷ rest) n e).1 })

    go : (o : Bool) → Some z ≡ cond o (option_and_then negated (natural_in (2 ^ 63 + 1) rest)) (option_map (λ n. pos n) (natural_in (2 ^ 63) (b ∷ rest))) → FitsSigned w64 z
    go true f = low (natural_in (2 ^ 63 + 1) rest) refl f
    go false f = high (natural_in (2 ^ 63) (b ∷ rest)) refl f
