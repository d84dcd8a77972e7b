-- A run whose last write failed.
use Rattle.std.proofs.Common.{◌≡◌, ◌≢◌, ℕ, ◌<◌, ◌≤◌, List, [], ◌∷◌, ◌++◌, Bool, true, length, refl, ap, sym, ◌∙◌, subst, arith, append_assoc, length-append}
use Rattle.std.specs.Prelude.{IsTrue}
use Rattle.std.proofs.lemmas.Bool.{and_from, lt-ltb}
use Rattle.std.proofs.lemmas.Bool.Decides.{Decides-eqb}
use Rattle.std.proofs.lemmas.Slice.Eq.{starts_is}
use Rattle.std.proofs.lemmas.List.{length-take}
use Rattle.art_bytes.proofs.Common.{is_proper_front}
use Rattle.art_lines.specs.Lines.{whole_lines_of, unfinished_line_of}
use Rattle.art_lines.proofs.Common.{lines_of, IsCut}
use Rattle.art_lines.specs.Reading.{command_of}
use Rattle.art_engine.specs.declared.read_ahead.line.Line.{Line}
use Rattle.art_engine.proofs.Terms.{State, LineMayRefuse, answer, left_by, line_visits, most_ahead, records_in, IsAnswerCut, IsCutLine, IsOnOwnPathIn, AfterWriteFault, Carried, IsCutRun, NoNewline}
use Rattle.art_engine.proofs.LineLemmas.{whole_lines_of-line, whole_lines_of-more}
use Rattle.art_engine.proofs.Carrying.{IsReadAs, same_answer, same_left, same_most, same_refusal, closed, cut}

-- other lines after do not matter
fault_more : {P : ℕ} (start : State P) (ls more : List (List ℕ)) (written : List ℕ) (now : State P) → AfterWriteFault start ls written now → AfterWriteFault start (ls ++ more) written now
fault_more start ls more written now (answered, others, line, output, middle, are, outcome, cut, own) =
    (answered, others ++ more, line, output, middle, ap (λ t. t ++ more) are ∙ append_assoc answered (line ∷ others) more, outcome, cut, own)

pub cut_run-more : {P : ℕ} (start now : State P) (text more all before taken : List ℕ) → text ++ more ≡ all
    → IsCutRun start now (whole_lines_of text) before taken → IsCutRun start now (whole_lines_of all) before taken
cut_run-more start now text more all before taken e r =
    let others = whole_lines_of-more text more in
    record {
      written = r.written;
      output = r.output;
      fault = subst (λ ls. AfterWriteFault start ls r.written now) (sym others.1 ∙ ap whole_lines_of e) (fault_more start (whole_lines_of text) others.0 r.written now r.fault);
    }

-- the line after those that are carried out
cut_next : {P : ℕ} (start now new : State P) (text held before taken taken' line handled : List ℕ) (lines : List Line) (c : Carried start now text held before taken lines) → IsReadAs handled line
    → (l : IsCutLine now handled taken taken' new) → IsOnOwnPathIn (records_in c.outcome) (command_of handled) l.visits_ahead → IsCutRun start new (whole_lines_of text ++ line ∷ []) before taken'
cut_next {P} start now new text held before taken taken' line handled lines c s l own =
    let a = l.cut in
    let written : List ℕ = c.written ++ a.begun in
    let is_cut : IsCutLine now line c.written written new = record {
      cut = record {
        memory = a.memory;
        lawful = λ yes. same_refusal now.records handled line s (a.lawful yes);
        begun = a.begun;
        is_cut = subst (λ t. IsTrue (is_proper_front a.begun t)) (same_answer a.memory now.records handled line s) a.is_cut;
        output = refl;
        left = a.left ∙ same_left a.memory now.records handled line s;
        visits = a.visits;
        few = same_most P a.memory now.records handled line a.visits s a.few;
        counted = a.counted;
      };
      visits_ahead = l.visits_ahead;
      few = subst (λ o. l.visits_ahead ≤ most_ahead o) s.command l.few;
      unused = l.unused;
      counted_ahead = l.counted_ahead;
    } in
    record {
      written = written;
      output = a.output ∙ ap (λ t. t ++ a.begun) c.output ∙ append_assoc before c.written a.begun;
      fault = (whole_lines_of text, [], line, c.written, now, refl, c.outcome, is_cut, subst (λ o. IsOnOwnPathIn (records_in c.outcome) o l.visits_ahead) s.command own);
    }

-- a line that a newline ends
pub cut_run-line : {P : ℕ} (start now new : State P) (text part handled held before taken taken' : List ℕ) (lines : List Line) (c : Carried start now text held before taken lines) → NoNewline part
    → IsReadAs handled (unfinished_line_of text ++ part) → (l : IsCutLine now handled taken taken' new) → IsOnOwnPathIn (records_in c.outcome) (command_of handled) l.visits_ahead
    → IsCutRun start new (whole_lines_of (text ++ part ++ 10 ∷ [])) before taken'
cut_run-line start now new text part handled held before taken taken' lines c none s l own =
    subst (λ ls. IsCutRun start new ls before taken') (sym (whole_lines_of-line text part none))
    (cut_next start now new text held before taken taken' (unfinished_line_of text ++ part) handled lines c s l own)

-- the last line, which no newline ends
pub cut_run-last : {P : ℕ} (start now new : State P) (text held before taken taken' handled : List ℕ) (lines : List Line) (c : Carried start now text held before taken lines) → 0 < length held → handled ≡ held
    → (l : IsCutLine now handled taken taken' new) → IsOnOwnPathIn (records_in c.outcome) (command_of handled) l.visits_ahead → IsCutRun start new (lines_of text) before taken'
cut_run-last start now new text held before taken taken' handled lines c some same l own =
    let shorter = ap length c.rest ∙ length-take 4097 (unfinished_line_of text) in
    let long : 0 < length (unfinished_line_of text) = omega arith in
    subst (λ ls. IsCutRun start new (whole_lines_of text ++ ls) before taken') (sym (closed (unfinished_line_of text) long))
    (cut_next start now new text held before taken taken' (unfinished_line_of text) handled lines c (cut (unfinished_line_of text) handled (same ∙ c.rest)) l own)

-- a beginning after which some bytes are missing
is_proper : (begun missing text : List ℕ) → missing ≢ [] → begun ++ missing ≡ text → IsTrue (is_proper_front begun text)
is_proper begun [] text some e = absurd (some refl)
is_proper begun (b ∷ rest) text some e =
    let long = ap length e in let parts = length-append begun (b ∷ rest) in
    let longer : length begun < length text = omega arith in
    and_from _ _ (lt-ltb (length begun) (length text) longer) ((starts_is Decides-eqb text begun _ refl).1 (b ∷ rest) (sym e))

-- a line that was carried out, and whose answer was cut
pub cut_line : {P : ℕ} (memory : Bool) (old new : State P) (line before after output : List ℕ) (visits : ℕ) → output ≡ answer memory old.records line → IsCut before after output
    → new.records ≡ left_by memory old.records line → (memory ≡ true → LineMayRefuse old.records line) → visits ≤ (line_visits P memory line old.records).most → new.reads ≡ old.reads ++ visits ∷ []
    → IsAnswerCut old line before after new
cut_line memory old new line before after output visits is cut left lawful few counted =
    record {
      memory = memory;
      lawful = lawful;
      begun = cut.begun;
      is_cut = is_proper cut.begun cut.missing (answer memory old.records line) cut.is_cut (cut.parts ∙ is);
      output = cut.output;
      left = left;
      visits = visits;
      few = few;
      counted = counted;
    }

-- and what was read ahead of it is told, too
pub told_ahead : {P : ℕ} (old now new : State P) (line before after : List ℕ) (n : ℕ) → IsAnswerCut old line before after now → now.ahead ≡ old.ahead → n ≤ most_ahead (command_of line)
    → new.records ≡ now.records → new.reads ≡ now.reads → new.ahead ≡ now.ahead ++ n ∷ [] → IsCutLine old line before after new
told_ahead old now new line before after n a same few records reads ahead = record {
  cut = record { memory = a.memory; lawful = a.lawful; begun = a.begun; is_cut = a.is_cut; output = a.output; left = records ∙ a.left; visits = a.visits; few = a.few; counted = reads ∙ a.counted };
  visits_ahead = n;
  few = few;
  unused = [];
  counted_ahead = ahead ∙ ap (λ ns. ns ++ n ∷ []) same;
}

-- and then what was read ahead of lines that did not come
unfoldable pub told_unused : {P : ℕ} (old now new : State P) (line before after unused : List ℕ) → IsCutLine old line before after now
    → new.records ≡ now.records → new.reads ≡ now.reads → new.ahead ≡ now.ahead ++ unused → IsCutLine old line before after new
told_unused old now new line before after unused l records reads ahead =
    let a = l.cut in
    record {
      cut = record { memory = a.memory; lawful = a.lawful; begun = a.begun; is_cut = a.is_cut; output = a.output; left = records ∙ a.left; visits = a.visits; few = a.few; counted = reads ∙ a.counted };
      visits_ahead = l.visits_ahead;
      few = l.few;
      unused = l.unused ++ unused;
      counted_ahead = ahead ∙ ap (λ ns. ns ++ unused) l.counted_ahead ∙ append_assoc old.ahead (l.visits_ahead ∷ l.unused) unused;
    }

-- a line that was cut out of a state that has the same records, and of which the same is told
unfoldable pub cut_from : {P : ℕ} (first old new : State P) (line before after : List ℕ) → old.records ≡ first.records → old.reads ≡ first.reads → old.ahead ≡ first.ahead
    → IsCutLine old line before after new → IsCutLine first line before after new
cut_from {P} first old new line before after r e a l =
    let c = l.cut in
    record {
      cut = record {
        memory = c.memory;
        lawful = λ yes. subst (λ s. LineMayRefuse s line) r (c.lawful yes);
        begun = c.begun;
        is_cut = subst (λ s. IsTrue (is_proper_front c.begun (answer c.memory s line))) r c.is_cut;
        output = c.output;
        left = c.left ∙ ap (λ s. left_by c.memory s line) r;
        visits = c.visits;
        few = subst (λ s. c.visits ≤ (line_visits P c.memory line s).most) r c.few;
        counted = c.counted ∙ ap (λ ns. ns ++ c.visits ∷ []) e;
      };
      visits_ahead = l.visits_ahead;
      few = l.few;
      unused = l.unused;
      counted_ahead = l.counted_ahead ∙ ap (λ ns. ns ++ l.visits_ahead ∷ l.unused) a;
    }
