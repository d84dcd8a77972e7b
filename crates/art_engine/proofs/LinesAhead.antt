-- Lines that were read before their turn: what the next one is, and what is left.
use Rattle.std.proofs.Common.{◌≡◌, ℕ, Bool, true, false, suc, zero, ◌+◌, ◌<◌, ◌≤◌, Some, List, [], ◌∷◌, ◌++◌, map, take, drop, length, get_or, refl, ap, sym, ◌∙◌, subst, arith}
use Rattle.std.proofs.lemmas.List.Sums.{sum_by-append, sum_by-cons, sum_by_push}
use Rattle.std.proofs.Math.ListN.{set}
use Rattle.std.specs.Prelude.{Option, None, option_map}
use Rattle.std.proofs.Common.{append_assoc}
use Rattle.art_lines.specs.Parsed.{command_with}
use Rattle.art_lines.specs.Reading.{command_of}
use Rattle.art_lines.specs.declared.command.fields.Fields.{Fields}
use Rattle.art_lines.specs.declared.command.word.Word.{Word}
use Rattle.art_lines.specs.Lines.{whole_lines_of}
use Rattle.std.specs.Prelude.{slice_get}
use Rattle.art_engine.specs.declared.read_ahead.line.Line.{Line}
use Rattle.std.proofs.lemmas.Bool.{false≢true}
use Rattle.std.specs.List.{AllByRecursion}
use Rattle.std.specs.Prelude.{if◌then◌else◌}
use Rattle.art_engine.specs.Landed.{IsLandingOf}
use Rattle.art_engine.specs.ReadAhead.{AreLanded, IsLandedLine, line_or, to_come}
use Rattle.art_engine.specs.declared.read_ahead.ReadAhead.{ReadAhead}
use Rattle.art_engine.specs.declared.read_ahead.landing.Landing.TheVariants.{Open}
use Rattle.art_engine.proofs.Terms.{AreNext, IsNextLine, NoNewline, Records, most_ahead, read_of, texts_of, total}
use Rattle.art_engine.proofs.LineLemmas.{whole_lines_of-front, no_whole_line}

-- the lines of a text that begins with a line: if any are to come, that is the first, and the others come after it
pub next_is : (lines : List (List ℕ)) (part following text : List ℕ) → NoNewline part → text ≡ (part ++ 10 ∷ []) ++ following → AreNext lines text → IsNextLine part lines × AreNext (drop 1 lines) following
next_is [] part following text none is next = (tt, (whole_lines_of following, refl))
next_is (l ∷ lines) part following text none is next =
    let same : part ∷ whole_lines_of following ≡ l ∷ (lines ++ next.0) = sym (whole_lines_of-front part following none) ∙ ap whole_lines_of (sym is) ∙ next.1 in (
      sym (ap (λ ls. first_of ls) same),
      (next.0, ap (λ (ls : List (List ℕ)). drop 1 ls) same),
    )
  where
    first_of : List (List ℕ) → List ℕ
    first_of [] = []
    first_of (x ∷ xs) = x

-- a text without a newline has none to come
pub none_to_come : {X : Type 0} (text_of : X → List ℕ) (lines : List X) (rest : List ℕ) → NoNewline rest → AreNext (map text_of lines) rest → lines ≡ []
none_to_come text_of [] rest none next = refl
none_to_come text_of (l ∷ lines) rest none next = absurd (no_cons (sym (no_whole_line rest none) ∙ next.1))
  where
    is_empty : List (List ℕ) → Type 0
    is_empty [] = Unit {0}
    is_empty (x ∷ xs) = ⊥

    no_cons : {x : List ℕ} {xs : List (List ℕ)} → [] ≡ x ∷ xs → ⊥
    no_cons e = subst is_empty e tt

-- what is told of one line more
pub told_more : (ns : List ℕ) (n : ℕ) (output : List ℕ) → output ≡ ns ++ n ∷ [] → total output ≡ total ns + n
told_more ns n output e = ap total e ∙ sum_by_push (λ (k : ℕ). k) ns n

-- of one and some more, that one is no more than the sum
pub told_cut : (ns output more : List ℕ) (n : ℕ) → output ≡ ns ++ n ∷ more → total ns + n ≤ total output
told_cut ns output more n e =
    let all = ap total e ∙ sum_by-append (λ (k : ℕ). k) ns (n ∷ more) in let first = sum_by-cons (λ (k : ℕ). k) n more in
    omega arith

-- what the line at a place tells, and what is left after it
pub counted_after : (lines : List Line) (len at : ℕ) → at < len → at < length lines
    → line_or 0 (λ (l : Line). l.read) (slice_get lines at) + read_of (drop (suc at) (take len lines)) ≡ read_of (drop at (take len lines))
counted_after lines zero at low fits = absurd (omega arith)
counted_after [] (suc len) at low fits = absurd (omega arith)
counted_after (x ∷ xs) (suc len) zero low fits = sym (sum_by-cons (λ (l : Line). l.read) x (take len xs))
counted_after (x ∷ xs) (suc len) (suc at) low fits = counted_after xs len at (omega arith) (omega arith)

-- the line at that place is the next one
pub next_there : (lines : List Line) (len at : ℕ) (line : List ℕ) → at < len → at < length lines → IsNextLine line (texts_of (drop at (take len lines)))
    → (l : Line) × (slice_get lines at ≡ Some l) × (l.text.items ≡ line)
next_there lines zero at line low fits next = absurd (omega arith)
next_there [] (suc len) at line low fits next = absurd (omega arith)
next_there (x ∷ xs) (suc len) zero line low fits next = (x, refl, next)
next_there (x ∷ xs) (suc len) (suc at) line low fits next = next_there xs len at line (omega arith) (omega arith) next

abbrev is_there : Option Line → Type 0
is_there None = ⊥
is_there (Some x) = Unit {0}

nothing : {x : Line} → None ≡ Some x → ⊥
nothing f = subst is_there (sym f) tt

-- a line that is found at a place is the one there
pub found_there : (lines : List Line) (at : ℕ) (l d : Line) → slice_get lines at ≡ Some l → get_or lines at d ≡ l
found_there [] at l d e = absurd (nothing e)
found_there (x ∷ xs) zero l d e = ap (λ (o : Option Line). line_or x (λ y. y) o) e
found_there (x ∷ xs) (suc at) l d e = found_there xs at l d e

-- what is asked by a line that is found
pub read_there : (o : Option Line) (word : Option Word) (fields : Fields) (l : Line) (line : List ℕ) → o ≡ Some l → l.text.items ≡ line
    → option_map (λ w. command_with w l.fields) l.word ≡ command_of l.text.items
    → option_map (λ w. command_with w (line_or fields (λ (x : Line). x.fields) o)) (line_or word (λ (x : Line). x.word) o) ≡ command_of line
read_there o word fields l line e t h =
    subst (λ (p : Option Line). option_map (λ w. command_with w (line_or fields (λ (x : Line). x.fields) p)) (line_or word (λ (x : Line). x.word) p) ≡ command_of line) (sym e) (h ∙ ap command_of t)

pub few_there : (o : Option Line) (l : Line) (line : List ℕ) → o ≡ Some l → l.text.items ≡ line → l.read ≤ most_ahead (command_of l.text.items)
    → line_or 0 (λ (x : Line). x.read) o ≤ most_ahead (command_of line)
few_there o l line e t h =
    subst (λ (p : Option Line). line_or 0 (λ (x : Line). x.read) p ≤ most_ahead (command_of line)) (sym e) (subst (λ b. l.read ≤ most_ahead (command_of b)) t h)

-- a line in another's place whose bytes are the same
pub texts_kept : (lines : List Line) (at : ℕ) (y d : Line) → at < length lines → y.text.items ≡ (get_or lines at d).text.items → texts_of (set lines at y) ≡ texts_of lines
texts_kept [] at y d low same = absurd (omega arith)
texts_kept (x ∷ xs) zero y d low same = ap (λ t. t ∷ texts_of xs) same
texts_kept (x ∷ xs) (suc at) y d low same = ap (λ ts. x.text.items ∷ ts) (texts_kept xs at y d (omega arith) same)

-- one line more is read
pub texts_more : (lines : List Line) (len : ℕ) (y : Line) → len < length lines → texts_of (take (suc len) (set lines len y)) ≡ texts_of (take len lines) ++ y.text.items ∷ []
texts_more [] len y low = absurd (omega arith)
texts_more (x ∷ xs) zero y low = refl
texts_more (x ∷ xs) (suc len) y low = ap (λ ts. x.text.items ∷ ts) (texts_more xs len y (omega arith))

pub read_more : (lines : List Line) (len : ℕ) (y : Line) → len < length lines → read_of (take (suc len) (set lines len y)) ≡ read_of (take len lines) + y.read
read_more [] len y low = absurd (omega arith)
read_more (x ∷ xs) zero y low = refl
read_more (x ∷ xs) (suc len) y low =
    let all = sum_by-cons (λ (l : Line). l.read) x (take (suc len) (set xs len y)) in let some = sum_by-cons (λ (l : Line). l.read) x (take len xs) in
    let more = read_more xs len y (omega arith) in
    omega (arith, all, some, more)

pub next_more : (text rest part following : List ℕ) (before now : List (List ℕ)) → whole_lines_of text ≡ before ++ whole_lines_of rest → rest ≡ (part ++ 10 ∷ []) ++ following → NoNewline part
    → now ≡ before ++ part ∷ [] → whole_lines_of text ≡ now ++ whole_lines_of following
next_more text rest part following before now e is none more =
    e ∙ ap (λ t. before ++ whole_lines_of t) is ∙ ap (λ ls. before ++ ls) (whole_lines_of-front part following none)
    ∙ sym (append_assoc before (part ∷ []) (whole_lines_of following)) ∙ ap (λ ls. ls ++ whole_lines_of following) (sym more)

-- what the line at a place has read, and what is left after it
pub passed_after : (lines : List Line) (len at : ℕ) (d : Line) → at < len → at < length lines
    → (get_or lines at d).read + read_of (drop (suc at) (take len lines)) ≡ read_of (drop at (take len lines))
passed_after lines zero at d low fits = absurd (omega arith)
passed_after [] (suc len) at d low fits = absurd (omega arith)
passed_after (x ∷ xs) (suc len) zero d low fits = sym (sum_by-cons (λ (l : Line). l.read) x (take len xs))
passed_after (x ∷ xs) (suc len) (suc at) d low fits = passed_after xs len at d (omega arith) (omega arith)

-- the line at a place is the first of those from there on, and the others come after it
pub own_there : (lines : List Line) (len at : ℕ) → at < len → at < length lines → (slice_get lines at ≡ slice_get (drop at (take len lines)) 0) × (drop (suc at) (take len lines) ≡ drop 1 (drop at (take len lines)))
own_there lines zero at low fits = absurd (omega arith)
own_there [] (suc len) at low fits = absurd (omega arith)
own_there (x ∷ xs) (suc len) zero low fits = (refl, refl)
own_there (x ∷ xs) (suc len) (suc at) low fits = own_there xs len at (omega arith) (omega arith)

-- lines to come are told of as before
pub landed_same : (P : ℕ) (records : Records) (old new : ReadAhead) → to_come new ≡ to_come old → new.fresh ≡ old.fresh → AreLanded P records old → AreLanded P records new
landed_same P records old new come fresh all = λ now. subst (AllByRecursion (IsLandedLine P records)) (sym come) (all (sym fresh ∙ now))

-- where none are to come, or nothing is told, that is so of all
pub landed_none : (P : ℕ) (records : Records) (ahead : ReadAhead) → to_come ahead ≡ [] → AreLanded P records ahead
landed_none P records ahead none = λ now. subst (AllByRecursion (IsLandedLine P records)) (sym none) tt

pub landed_forgotten : (P : ℕ) (records : Records) (ahead : ReadAhead) → ahead.fresh ≡ false → AreLanded P records ahead
landed_forgotten P records ahead apart = λ now. absurd (false≢true (sym apart ∙ now))

-- what is told of the line at a place
pub landed_there : (P : ℕ) (records : Records) (lines : List Line) (len at : ℕ) (fresh : Bool) (word : Option Word) (fields : Fields) → at < len → at < length lines
    → (fresh ≡ true → AllByRecursion (IsLandedLine P records) (drop at (take len lines)))
    → IsLandingOf P records (option_map (λ w. command_with w (line_or fields (λ (x : Line). x.fields) (slice_get lines at))) (line_or word (λ (x : Line). x.word) (slice_get lines at)))
    (line_or Open (λ (x : Line). if fresh then x.landing else Open) (slice_get lines at)) (line_or [] (λ (x : Line). x.value.items) (slice_get lines at)) (line_or 0 (λ (x : Line). x.read) (slice_get lines at))
landed_there P records lines zero at fresh word fields low fits all = absurd (omega (arith, low))
landed_there P records [] (suc len) at fresh word fields low fits all = absurd (omega (arith, fits))
landed_there P records (x ∷ xs) (suc len) zero true word fields low fits all = subst (λ o. IsLandingOf P records o x.landing x.value.items x.read) (sym x.spelled) (all refl).0
landed_there P records (x ∷ xs) (suc len) zero false word fields low fits all = tt
landed_there P records (x ∷ xs) (suc len) (suc at) fresh word fields low fits all = landed_there P records xs len at fresh word fields (omega (arith, low)) (omega (arith, fits)) all

-- of all but the first
pub landed_rest : (P : ℕ) (records : Records) (lines : List Line) → AllByRecursion (IsLandedLine P records) lines → AllByRecursion (IsLandedLine P records) (drop 1 lines)
landed_rest P records [] all = tt
landed_rest P records (x ∷ xs) all = all.1
