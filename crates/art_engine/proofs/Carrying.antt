-- What more bytes do to a run over the bytes given so far.
use Rattle.std.proofs.Common.{◌≡◌, ℕ, ◌+◌, ◌<◌, ◌≤◌, List, [], ◌∷◌, ◌++◌, length, take, refl, ap, sym, ◌∙◌, subst, Bool, true, false, arith, append_assoc, append-nil, min}
use Rattle.std.proofs.Common.{inl, inr, ◌-◌}
use Rattle.std.proofs.Math.Seq.{take-append-add}
use Rattle.std.specs.Prelude.{filter, nat_lt}
use Rattle.std.proofs.lemmas.Bool.{lt-leb, lt-ltb, cases_lt}
use Rattle.std.proofs.lemmas.List.{take-append-le, take_all, length-take-le, length-take, take_min}
use Rattle.art_lines.specs.Lines.{whole_lines_of, unfinished_line_of}
use Rattle.art_lines.proofs.Common.{lines_of, Command, Spells}
use Rattle.art_lines.specs.Reading.{command_of}
use Rattle.art_engine.specs.declared.read_ahead.line.Line.{Line}
use Rattle.art_engine.proofs.OwnPathsAhead.{all_later}
use Rattle.art_engine.proofs.Terms.{most_ahead, IsShort, ReadsOwnPath, IsWithin, visits_of, line_visits, Records, State, LineMayRefuse, answer, left_by, records_in, AllOnOwnPath, IsLineDone, IsOnOwnPathIn, IsOutcome, Carried, NoNewline}
use Rattle.art_engine.proofs.LineLemmas.{whole_lines_of-part, unfinished_line_of-part, whole_lines_of-line, unfinished_line_of-newline}
use Rattle.art_engine.proofs.RunLemmas.{outcome-none, outcome-more, outcome-same}

pub carried_none : {P : ℕ} (start : State P) (before : List ℕ) → Carried start start [] [] before before []
unfolding whole_lines_of unfinished_line_of
carried_none start before = record { written = []; outcome = outcome-none start; output = sym (append-nil before); rest = refl; own = tt }

-- A line that stands for another: as long as a command may be it is that line, and both spell nothing otherwise.
pub record IsReadAs (held line : List ℕ) : Type 0 where
  pub command : command_of held ≡ command_of line
  pub spelled : (c : Command) → Spells held c → Spells line c

pub itself : (line held : List ℕ) → held ≡ line → IsReadAs held line
itself line held e = record { command = ap command_of e; spelled = λ c h. subst (λ l. Spells l c) e h }

-- a line past the limit spells nothing, and neither does its front past the limit
pub cut : (line held : List ℕ) → held ≡ take 4097 line → IsReadAs held line
unfolding command_of
cut line held e = elim (cases_lt (length line) 4097) [
  | inl short ↦ let all : length line ≤ 4097 = omega arith in itself line held (e ∙ take_all 4097 line all)
  | inr long ↦
      let same : length held ≡ 4097 = ap length e ∙ length-take-le 4097 line long in
      let held_long : 4096 < length held = omega arith in
      let line_long : 4096 < length line = omega arith in
      record {
        command = rw (lt-leb (length held) 4096 held_long, lt-leb (length line) 4096 line_long) refl;
        spelled = λ c h. let short = h.short in absurd (omega arith);
      }
]

pub same_answer : (memory : Bool) (now : Records) (held line : List ℕ) → IsReadAs held line → answer memory now held ≡ answer memory now line
same_answer true now held line s = refl
same_answer false now held line s = rw s.command refl

pub same_left : (memory : Bool) (now : Records) (held line : List ℕ) → IsReadAs held line → left_by memory now held ≡ left_by memory now line
same_left true now held line s = refl
same_left false now held line s = rw s.command refl

pub same_refusal : (now : Records) (held line : List ℕ) → IsReadAs held line → LineMayRefuse now held → LineMayRefuse now line
same_refusal now held line s may = (may.0, s.spelled may.0 may.1, may.2)

same_visits : (P : ℕ) (memory : Bool) (now : Records) (held line : List ℕ) (n : ℕ) → IsReadAs held line → IsWithin (line_visits P memory held now) n → IsWithin (line_visits P memory line now) n
same_visits P true now held line n s within = within
same_visits P false now held line n s within = subst (λ o. IsWithin (visits_of P o now) n) s.command within

pub same_most : (P : ℕ) (memory : Bool) (now : Records) (held line : List ℕ) (n : ℕ) → IsReadAs held line → n ≤ (line_visits P memory held now).most → n ≤ (line_visits P memory line now).most
same_most P true now held line n s few = few
same_most P false now held line n s few = subst (λ o. n ≤ (visits_of P o now).most) s.command few

same_done : {P : ℕ} (memory : Bool) (now new : State P) (held line : List ℕ) → IsReadAs held line → IsLineDone memory now held new → IsLineDone memory now line new
same_done {P} memory now new held line s d =
    record {
      lawful = λ yes. same_refusal now.records held line s (d.lawful yes);
      left = d.left ∙ same_left memory now.records held line s;
      are = d.are;
      visits = d.visits;
      within = same_visits P memory now.records held line d.visits s d.within;
      short = subst (λ o. IsShort o d.visits) s.command d.short;
      own_path = subst (λ o. ReadsOwnPath o now.records d.visits) s.command d.own_path;
      counted = d.counted;
      visits_ahead = d.visits_ahead;
      few = subst (λ o. d.visits_ahead ≤ most_ahead o) s.command d.few;
      counted_ahead = d.counted_ahead;
    }

-- a run that goes on by a line
goes_on : {P : ℕ} (start now new : State P) (text held before taken line handled : List ℕ) (ls : List (List ℕ)) (lines : List Line) (c : Carried start now text held before taken lines)
    → ls ≡ whole_lines_of text ++ line ∷ [] → IsReadAs handled line → (memory : Bool) (d : IsLineDone memory now handled new) → IsOnOwnPathIn (records_in c.outcome) (command_of handled) d.visits_ahead
    → IsOutcome start ls (c.written ++ answer memory now.records line) new
unfolding same_done
goes_on start now new text held before taken line handled ls lines c is s memory d own =
    outcome-more start now new (whole_lines_of text) ls c.written memory line is c.outcome (same_done memory now new handled line s d)
    (subst (λ o. IsOnOwnPathIn (records_in c.outcome) o d.visits_ahead) s.command own)

pub carried_line : {P : ℕ} (start now now' : State P) (text part handled held held' before taken taken' : List ℕ) (memory : Bool) (lines lines' : List Line)
    → (c : Carried start now text held before taken lines) → NoNewline part → IsReadAs handled (unfinished_line_of text ++ part)
    → (d : IsLineDone memory now handled now') → taken' ≡ taken ++ answer memory now.records handled → held' ≡ []
    → IsOnOwnPathIn (records_in c.outcome) (command_of handled) d.visits_ahead → AllOnOwnPath (records_in c.outcome) lines'
    → Carried start now' (text ++ part ++ 10 ∷ []) held' before taken' lines'
unfolding goes_on outcome-more
carried_line start now now' text part handled held held' before taken taken' memory lines lines' c none s d output empty own others =
    let line : List ℕ = unfinished_line_of text ++ part in
    record {
      written = c.written ++ answer memory now.records line;
      outcome = goes_on start now now' text held before taken line handled (whole_lines_of (text ++ part ++ 10 ∷ [])) lines c (whole_lines_of-line text part none) s memory d own;
      output = output ∙ ap (λ t. taken ++ t) (same_answer memory now.records handled line s) ∙ ap (λ t. t ++ answer memory now.records line) c.output
          ∙ append_assoc before c.written (answer memory now.records line);
      rest = empty ∙ sym (ap (take 4097) (unfinished_line_of-newline (text ++ part)));
      own = all_later lines' [] start.records c.outcome.asked (line, memory) others;
    }

-- what is held, and then more, as far as there is room
take-take : (n : ℕ) (xs ys : List ℕ) → take n (take n xs ++ ys) ≡ take n (xs ++ ys)
take-take n xs ys = elim (cases_lt (length xs) n) [
  | inl short ↦ let all : length xs ≤ n = omega arith in ap (λ t. take n (t ++ ys)) (take_all n xs all)
  | inr long ↦
      let full : length (take n xs) ≡ n = length-take-le n xs long in let enough : n ≤ length (take n xs) = omega arith in let within : length (take n xs) ≤ n = omega arith in
      take-append-le n (take n xs) ys enough ∙ take_all n (take n xs) within ∙ sym (take-append-le n xs ys long)
]

pub carried_part : {P : ℕ} (start now now' : State P) (text part held held' before taken taken' : List ℕ) (lines : List Line)
    → Carried start now text held before taken lines → NoNewline part → now' ≡ now → held' ≡ take 4097 (held ++ part) → taken' ≡ taken
    → Carried start now' (text ++ part) held' before taken' lines
unfolding outcome-same
carried_part start now now' text part held held' before taken taken' lines c none same longer output = record {
  written = c.written;
  outcome = outcome-same start now now' (whole_lines_of text) (whole_lines_of (text ++ part)) c.written same (whole_lines_of-part text part none) c.outcome;
  output = output ∙ c.output;
  rest = longer ∙ ap (λ t. take 4097 (t ++ part)) c.rest ∙ take-take 4097 (unfinished_line_of text) part ∙ sym (ap (take 4097) (unfinished_line_of-part text part none));
  own = c.own;
}

nothing_held : (l : List ℕ) → take 4097 l ≡ [] → l ≡ []
nothing_held [] e = refl
nothing_held (x ∷ xs) e = let cut = ap length e in let all : length (take 4097 (x ∷ xs)) ≡ min 4097 (length (x ∷ xs)) = length-take 4097 (x ∷ xs) in absurd (omega arith)

-- where nothing is held, a line that lies whole in the piece is the whole line
pub whole_in_piece : {P : ℕ} (start now : State P) (text held before taken part handled : List ℕ) (lines : List Line) → Carried start now text held before taken lines
    → held ≡ [] → handled ≡ part → IsReadAs handled (unfinished_line_of text ++ part)
whole_in_piece start now text held before taken part handled lines c empty same =
    itself (unfinished_line_of text ++ part) handled (same ∙ ap (λ l. l ++ part) (sym (nothing_held (unfinished_line_of text) (sym c.rest ∙ empty))))

-- where a part is held, the line is put together
pub put_together : {P : ℕ} (start now : State P) (text held before taken part handled : List ℕ) (lines : List Line) → Carried start now text held before taken lines
    → handled ≡ take 4097 (held ++ part) → IsReadAs handled (unfinished_line_of text ++ part)
put_together start now text held before taken part handled lines c same =
    cut (unfinished_line_of text ++ part) handled (same ∙ ap (λ t. take 4097 (t ++ part)) c.rest ∙ take-take 4097 (unfinished_line_of text) part)

pub closed : (l : List ℕ) → 0 < length l → filter (λ (line : List ℕ). nat_lt 0 (length line)) (l ∷ []) ≡ l ∷ []
closed l some = rw (lt-ltb 0 (length l) some) refl

-- the end of the input, after a line that no newline ends
pub outcome_last : {P : ℕ} (start now new : State P) (text held before taken handled : List ℕ) (lines : List Line) (c : Carried start now text held before taken lines) → 0 < length held → handled ≡ held
    → (memory : Bool) (d : IsLineDone memory now handled new) → IsOnOwnPathIn (records_in c.outcome) (command_of handled) d.visits_ahead
    → IsOutcome start (lines_of text) (c.written ++ answer memory now.records handled) new
outcome_last start now new text held before taken handled lines c some same memory d own =
    let shorter = ap length c.rest ∙ length-take 4097 (unfinished_line_of text) in
    let long : 0 < length (unfinished_line_of text) = omega arith in
    let line : List ℕ = unfinished_line_of text in
    let s : IsReadAs handled line = cut line handled (same ∙ c.rest) in
    subst (λ t. IsOutcome start (lines_of text) (c.written ++ t) new) (sym (same_answer memory now.records handled line s))
    (goes_on start now new text held before taken line handled (lines_of text) lines c (ap (λ ls. whole_lines_of text ++ ls) (closed line long)) s memory d own)

-- as much of a part as there is room for
pub held_as_fits : (held part : List ℕ) (room : ℕ) → length held ≤ 4097 → room ≤ length part → min (length part) (4097 - length held) ≡ room
    → held ++ take room part ≡ take 4097 (held ++ part)
held_as_fits held part room fits within is =
    let left : ℕ = 4097 - length held in
    let all : length held + left ≡ 4097 = omega arith in
    let least : min left (length part) ≡ room = omega arith in
    ap (λ n. held ++ take n part) (sym least) ∙ ap (λ t. held ++ t) (take_min left part) ∙ sym (take-append-add held part left) ∙ ap (λ n. take n (held ++ part)) all

-- a line that was carried out of a state that has the same records, and of which the same is told
unfoldable pub done_from : {P : ℕ} (memory : Bool) (first old new : State P) (line : List ℕ) → old.records ≡ first.records → old.reads ≡ first.reads → old.ahead ≡ first.ahead
    → IsLineDone memory old line new → IsLineDone memory first line new
done_from {P} memory first old new line r e a d =
    record {
      lawful = λ yes. subst (λ s. LineMayRefuse s line) r (d.lawful yes);
      left = d.left ∙ ap (λ s. left_by memory s line) r;
      are = d.are;
      visits = d.visits;
      within = subst (λ s. IsWithin (line_visits P memory line s) d.visits) r d.within;
      short = d.short;
      own_path = subst (λ s. ReadsOwnPath (command_of line) s d.visits) r d.own_path;
      counted = d.counted ∙ ap (λ ns. ns ++ d.visits ∷ []) e;
      visits_ahead = d.visits_ahead;
      few = d.few;
      counted_ahead = d.counted_ahead ∙ ap (λ ns. ns ++ d.visits_ahead ∷ []) a;
    }
