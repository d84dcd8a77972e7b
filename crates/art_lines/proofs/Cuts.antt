-- Texts that are taken part by part, and where a write fails within one.
use Rattle.std.proofs.Common.{◌≡◌, ℕ, ◌≢◌, Bool, List, [], ◌∷◌, ◌++◌, length, take, refl, ap, sym, ◌∙◌, arith, subst, Result, Ok, Err, IsErr, OnErr, true, append_assoc, append-nil}
use Rattle.std.proofs.lemmas.Result.{on_err_weaker, on_ok_weaker}
use Rattle.art_lines.proofs.Terms.{IsCut, Writes, IsPartTaken}

not_empty : (missing rest : List ℕ) → missing ≢ [] → missing ++ rest ≢ []
not_empty [] rest some = absurd (some refl)
not_empty (x ∷ xs) rest some = λ e. let long = ap length e in absurd (omega arith)

-- a cut of a part is a cut of the text that begins with it
pub cut_before : (before after part rest : List ℕ) → IsCut before after part → IsCut before after (part ++ rest)
cut_before before after part rest c = record {
  begun = c.begun;
  missing = c.missing ++ rest;
  is_cut = not_empty c.missing rest c.is_cut;
  parts = sym (append_assoc c.begun c.missing rest) ∙ ap (λ t. t ++ rest) c.parts;
  output = c.output;
}

-- a cut after a part that is taken whole
pub cut_after : (before between after part rest : List ℕ) → between ≡ before ++ part → IsCut between after rest → IsCut before after (part ++ rest)
cut_after before between after part rest e c = record {
  begun = part ++ c.begun;
  missing = c.missing;
  is_cut = c.is_cut;
  parts = append_assoc part c.begun c.missing ∙ ap (λ t. part ++ t) c.parts;
  output = c.output ∙ ap (λ t. t ++ c.begun) e ∙ append_assoc before part c.begun;
}

-- a cut of a text that is written in another way
pub cut_same : (before after text text' : List ℕ) → text ≡ text' → IsCut before after text → IsCut before after text'
cut_same before after text text' e c = subst (IsCut before after) e c

-- what holds anyway holds of an error
pub when_err : {T E P : Type 0} (r : Result T E) → P → OnErr r P
when_err (Ok x) p = tt
when_err (Err e) p = p

-- where a write failed, a beginning was taken
pub writes_cut : {T E : Type 0} (r : Result T E) (before after text : List ℕ) (failed : Bool) → IsErr r → true ≡ failed → IsCut before after text → Writes r before after text failed
writes_cut (Ok x) before after text failed is f cut = cc
writes_cut (Err e) before after text failed is f cut = record { ok = tt; cut = cut; failed = f }

-- a text that is written in another way
pub writes_same : {T E : Type 0} (r : Result T E) (before after text text' : List ℕ) (failed : Bool) → text ≡ text' → Writes r before after text failed → Writes r before after text' failed
writes_same r before after text text' failed e w = subst (λ t. Writes r before after t failed) e w

-- at first nothing is taken
pub taken_none : (before rest text : List ℕ) → rest ≡ text → IsPartTaken before before rest text
taken_none before rest text e = record { begun = []; parts = e; output = sym (append-nil before) }

-- the rest in another way
pub taken_from : (before now rest rest' text : List ℕ) → rest ≡ rest' → IsPartTaken before now rest text → IsPartTaken before now rest' text
taken_from before now rest rest' text e t = subst (λ r. IsPartTaken before now r text) e t

-- a text that goes on, of whose beginning so much is left
pub taken_longer : (before now part rest text : List ℕ) → IsPartTaken before now part text → IsPartTaken before now (part ++ rest) (text ++ rest)
taken_longer before now part rest text t = record {
  begun = t.begun;
  parts = sym (append_assoc t.begun part rest) ∙ ap (λ p. p ++ rest) t.parts;
  output = t.output;
}

-- one part more is taken
pub taken_more : (before now now' part rest text : List ℕ) → IsPartTaken before now (part ++ rest) text → now' ≡ now ++ part → IsPartTaken before now' rest text
taken_more before now now' part rest text t more = record {
  begun = t.begun ++ part;
  parts = append_assoc t.begun part rest ∙ t.parts;
  output = more ∙ ap (λ n. n ++ part) t.output ∙ append_assoc before t.begun part;
}

-- of a part that was left, some is taken and some is left
pub taken_through : (before now now' part left rest text : List ℕ) → IsPartTaken before now (part ++ rest) text → IsPartTaken now now' left part → IsPartTaken before now' (left ++ rest) text
taken_through before now now' part left rest text t more = record {
  begun = t.begun ++ more.begun;
  parts = append_assoc t.begun more.begun (left ++ rest) ∙ ap (λ p. t.begun ++ p) (sym (append_assoc more.begun left rest))
      ∙ ap (λ p. t.begun ++ (p ++ rest)) more.parts ∙ t.parts;
  output = more.output ∙ ap (λ n. n ++ more.begun) t.output ∙ append_assoc before t.begun more.begun;
}

-- where nothing is left, all is taken
pub taken_all : (before now text : List ℕ) → IsPartTaken before now [] text → now ≡ before ++ text
taken_all before now text t = t.output ∙ ap (λ b. before ++ b) (sym (append-nil t.begun) ∙ t.parts)

-- a cut of the next part is a cut of the whole
pub taken_cut : (before now after part rest text : List ℕ) → IsPartTaken before now (part ++ rest) text → IsCut now after part → IsCut before after text
taken_cut before now after part rest text t c =
    let whole = cut_after before now after t.begun (part ++ rest) t.output (cut_before now after part rest c) in
    record { begun = whole.begun; missing = whole.missing; is_cut = whole.is_cut; parts = whole.parts ∙ t.parts; output = whole.output }

-- where a first part is taken, and then what writes the rest says how that went
pub writes_then : {T E : Type 0} (r : Result T E) (before between after part rest text : List ℕ) (failed : Bool) → between ≡ before ++ part → part ++ rest ≡ text
    → Writes r between after rest failed → Writes r before after text failed
writes_then r before between after part rest text failed first whole w = record {
  ok = on_ok_weaker r (λ output. output ∙ ap (λ t. t ++ rest) first ∙ append_assoc before part rest ∙ ap (λ t. before ++ t) whole) w.ok;
  cut = on_err_weaker r (λ cut. cut_same before after (part ++ rest) text whole (cut_after before between after part rest first cut)) w.cut;
  failed = w.failed;
}

-- where a part is taken of a text, and then what writes the rest says how that went
pub writes_rest : {T E : Type 0} (r : Result T E) (before now after rest text : List ℕ) (failed : Bool) → IsPartTaken before now rest text
    → Writes r now after rest failed → Writes r before after text failed
writes_rest r before now after rest text failed t w = writes_then r before now after t.begun rest text failed t.output t.parts w

-- a cut of what is put after a part, of which nothing is left
pub cut_alone : (before now after part line room : List ℕ) (at : ℕ) → at ≡ 0 → IsPartTaken before now (take at room) part → IsCut now after line → IsCut before after (part ++ line)
cut_alone before now after part line room at none t c =
    let left = taken_longer before now (take at room) line part t in
    let begun = taken_from before now (take at room ++ line) line (part ++ line) (ap (λ n. take n room ++ line) none) left in
    cut_same before after (begun.begun ++ line) (part ++ line) begun.parts (cut_after before now after begun.begun line begun.output c)
