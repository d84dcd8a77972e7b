-- What is done for a command, by the family of its word, and what that says of a line.
use Rattle.std.proofs.Common.{◌≡◌, ℕ, ◌≤◌, List, [], ◌∷◌, ◌++◌, Bool, true, false, refl, ap, ap₂, sym, ◌∙◌, subst, append-nil, arith}
use Rattle.std.specs.Prelude.{Option, Some, Result, Ok, Err, IfOk, OnOk, flat_map, codes}
use Rattle.std.proofs.lemmas.Bool.{false≢true}
use Rattle.art_lines.specs.Words.{Word}
use Rattle.art_lines.proofs.Common.{line_of, looks_up, changes, spells, Command, Writes, writes_same, name, of_tenant, drop, put, audit}
use Rattle.art_lines.specs.declared.command.fields.Fields.{Fields}
use Rattle.art_lines.specs.declared.command.word.LookUp.{LookUp}
use Rattle.art_lines.specs.declared.command.word.LookUp.TheVariants as look_up
use Rattle.art_lines.specs.declared.command.word.Change.{Change}
use Rattle.art_lines.specs.declared.command.word.Change.TheVariants as change
use Rattle.art_lines.specs.Reading.{command_of}
use Rattle.art_map.specs.Audit.{audit_of}
use Rattle.art_walks.specs.declared.stats.WellFormedTreeStats.{WellFormedTreeStats}
use Rattle.art_engine.specs.declared.change.Changed.{Changed}
use Rattle.art_engine.specs.declared.change.Changed.TheVariants as changed
use Rattle.art_engine.specs.declared.drop_tenant.Dropped.{Dropped}
use Rattle.art_engine.specs.declared.drop_tenant.Dropped.TheVariants as dropped
use Rattle.art_engine.specs.Done.{IsCommandDone, IsLineAnswered, answer_to, counted_of, records_left}
use Rattle.art_engine.specs.Dropped.{IsDropDone, dropped_words, drop_is_memory, drop_visits}
use Rattle.art_engine.proofs.Terms.{AreRecords, IsAnswerCut, IsChangeDone, IsPutDone, IsShort, IsWithin, LineMayRefuse, MayRefuse, ReadsOwnPath, Records, State, changed_words, command_after, command_reply, count_words, change_is_memory, exactly, full_key_of, number_key_of, visits_of}
use Rattle.art_engine.proofs.CountLaws.{short_of, own_path_of}
use Rattle.art_engine.proofs.CutRuns.{cut_line}

-- a put is a change
pub put_done : (p : Changed) (old new : Records) (t : ℕ) (k v : List ℕ) → IsPutDone p old t k v new → IsChangeDone p (of_tenant t (put k v)) old new
put_done changed.Memory old new t k v h = (h, tt)
put_done p old new t k v h = h

-- what holds where all went well, and what always holds
on_ok : {T E A B : Type 0} (r : Result T E) → (A → B) → OnOk r A → OnOk r B
on_ok (Ok x) f a = f a
on_ok (Err e) f a = tt

pub always : {T E A : Type 0} (r : Result T E) → A → OnOk r A
always (Ok x) a = a
always (Err e) a = tt

-- and what follows from it
pub if_ok : {T E : Type 0} {P Q : T → Type 0} (r : Result T E) → ((x : T) → P x → Q x) → IfOk r P → IfOk r Q
if_ok (Ok x) f p = f x p
if_ok (Err e) f p = tt

-- what a reply of one line says
told_once : (ws : List Word) (o : Option Command) (r : Records) → ws ∷ [] ≡ command_reply o r → line_of ws ≡ answer_to false o r
told_once ws o r h = sym (append-nil (line_of ws)) ∙ ap (flat_map line_of) h

look_leaves : (w : LookUp) (f : Fields) (r : Records) → command_after (Some (looks_up w f)) r ≡ r
look_leaves look_up.Get f r = refl
look_leaves w f r = refl

change_reads : (P : ℕ) (w : Change) (f : Fields) (r : Records) → visits_of P (Some (changes w f)) r ≡ exactly 0
change_reads P change.Put f r = refl
change_reads P w f r = refl

change_own : (w : Change) (f : Fields) (r : Records) (n : ℕ) → ReadsOwnPath (Some (changes w f)) r n
change_own change.Put f r n = tt
change_own w f r n = tt

-- so many are no more than nothing
none_within : IsWithin (exactly 0) 0
none_within = (omega arith, omega arith)

module _ {T E : Type 0} {P : ℕ} (written : Result T E) (before after : List ℕ) (has_failed : Bool) where
  -- a look-up
  pub looked_up : (w : LookUp) (f : Fields) (r : Records) (visits : ℕ) → Writes written before after (flat_map line_of (command_reply (Some (looks_up w f)) r)) has_failed
      → OnOk written (IsWithin (visits_of P (Some (looks_up w f)) r) visits) → visits ≤ (visits_of P (Some (looks_up w f)) r).most → AreRecords r
      → IsCommandDone P (Some (looks_up w f)) false visits r r written before after has_failed
  looked_up w f r visits output within few are = record {
    lawful = λ e. absurd (false≢true e);
    left = sym (look_leaves w f r);
    output = output;
    few = few;
    within = within;
    short = on_ok written (short_of P (Some (looks_up w f)) r visits) within;
    own_path = on_ok written (own_path_of P (Some (looks_up w f)) r visits are) within;
  }

  -- a command of which nothing counts, and that finds memory
  pub uncounted : (o : Option Command) (old new : Records) → visits_of P o old ≡ exactly 0 → ReadsOwnPath o old 0 → new ≡ command_after o old
      → Writes written before after (answer_to false o old) has_failed → IsCommandDone P o false 0 old new written before after has_failed
  uncounted o old new none own left output =
      let within : IsWithin (visits_of P o old) 0 = subst (λ v. IsWithin v 0) (sym none) none_within in
      record {
        lawful = λ e. absurd (false≢true e);
        left = left;
        output = output;
        few = within.1;
        within = always written within;
        short = always written (short_of P o old 0 within);
        own_path = always written own;
      }

  -- a command that finds none
  pub refused : (c : Command) (old new : Records) → MayRefuse old c → IsShort (Some c) 0 → ReadsOwnPath (Some c) old 0 → new ≡ old
      → Writes written before after (flat_map line_of ((name (codes "memory") ∷ []) ∷ [])) has_failed → IsCommandDone P (Some c) true 0 old new written before after has_failed
  refused c old new may short own left output = record {
    lawful = λ _. (c, refl, may);
    left = left;
    output = output;
    few = omega arith;
    within = always written none_within;
    short = always written short;
    own_path = always written own;
  }

  -- a count that is none
  pub at_none : (o : Option Command) (memory : Bool) (n : ℕ) (old new : Records) → n ≡ 0 → IsCommandDone P o memory 0 old new written before after has_failed
      → IsCommandDone P o memory n old new written before after has_failed
  at_none o memory n old new none done = subst (λ k. IsCommandDone P o memory k old new written before after has_failed) (sym none) done

  -- a change
  change_done : (d : Changed) (w : Change) (f : Fields) (old new : Records) → IsChangeDone d (changes w f) old new → Writes written before after (line_of (changed_words d)) has_failed
      → IsCommandDone P (Some (changes w f)) (change_is_memory d) 0 old new written before after has_failed
  change_done changed.Memory w f old new h output =
      let within : IsWithin (visits_of P (Some (changes w f)) old) 0 = subst (λ v. IsWithin v 0) (sym (change_reads P w f old)) none_within in
      refused (changes w f) old new h.1 (short_of P (Some (changes w f)) old 0 within) (change_own w f old 0) h.0 output
  change_done p w f old new h output =
      uncounted (Some (changes w f)) old new (change_reads P w f old) (change_own w f old 0) h.1
      (writes_same written before after (line_of (changed_words p)) (answer_to false (Some (changes w f)) old) has_failed (told_once (changed_words p) (Some (changes w f)) old h.0) output)

  pub change_told : (d : Changed) (w : Change) (f : Fields) (old new : Records) (memory : Bool) (visits : ℕ) → memory ≡ change_is_memory d → visits ≡ 0
      → IsChangeDone d (changes w f) old new → Writes written before after (line_of (changed_words d)) has_failed
      → IsCommandDone P (Some (changes w f)) memory visits old new written before after has_failed
  change_told d w f old new memory visits found none h output =
      subst (λ m. IsCommandDone P (Some (changes w f)) m visits old new written before after has_failed) (sym found)
      (at_none (Some (changes w f)) (change_is_memory d) visits old new none (change_done d w f old new h output))

  -- a drop
  drop_done : (d : Dropped) (t : ℕ) (old new : Records) → IsDropDone P d t old new → Writes written before after (line_of (dropped_words d)) has_failed
      → IsCommandDone P (Some (of_tenant t drop)) (drop_is_memory d) (drop_visits d) old new written before after has_failed
  drop_done dropped.Memory t old new h output = refused (of_tenant t drop) old new h.1 tt tt h.0 output
  drop_done (dropped.Gone k n v) t old new h output = record {
    lawful = λ e. absurd (false≢true e);
    left = h.left;
    output = writes_same written before after (line_of (dropped_words (dropped.Gone k n v))) (answer_to false (Some (of_tenant t drop)) old) has_failed
        (told_once (dropped_words (dropped.Gone k n v)) (Some (of_tenant t drop)) old h.output) output;
    few = h.counted.1;
    within = always written h.counted;
    short = always written tt;
    own_path = always written tt;
  }

  pub drop_told : (d : Dropped) (t : ℕ) (old new : Records) (memory : Bool) (visits : ℕ) → memory ≡ drop_is_memory d → visits ≡ drop_visits d
      → IsDropDone P d t old new → Writes written before after (line_of (dropped_words d)) has_failed
      → IsCommandDone P (Some (of_tenant t drop)) memory visits old new written before after has_failed
  drop_told d t old new memory visits found counted h output =
      subst (λ m. IsCommandDone P (Some (of_tenant t drop)) m visits old new written before after has_failed) (sym found)
      (subst (λ n. IsCommandDone P (Some (of_tenant t drop)) (drop_is_memory d) n old new written before after has_failed) (sym counted) (drop_done d t old new h output))

  -- an audit
  pub audited : (r : Records) (keys numbers : WellFormedTreeStats) → keys ≡ audit_of full_key_of r.keys → numbers ≡ audit_of number_key_of r.numbers
      → Writes written before after (flat_map line_of (count_words (codes "bytes") keys ∷ count_words (codes "numbers") numbers ∷ [])) has_failed
      → IsCommandDone P (Some audit) false 0 r r written before after has_failed
  audited r keys numbers of_keys of_numbers output =
      uncounted (Some audit) r r refl tt refl
      (writes_same written before after _ _ has_failed (ap₂ (λ (n m : WellFormedTreeStats). flat_map line_of (count_words (codes "bytes") n ∷ count_words (codes "numbers") m ∷ [])) of_keys of_numbers) output)

-- a line may be refused, since its command may be
pub line_may : (o : Option Command) (line : List ℕ) (held old : Records) (memory : Bool) → o ≡ command_of line → held ≡ old
    → (memory ≡ true → (c : Command) × (o ≡ Some c) × MayRefuse held c) → memory ≡ true → LineMayRefuse old line
line_may o line held old memory read same may m =
    let h = may m in (h.0, spells line h.0 (sym read ∙ h.1), subst (λ r. MayRefuse r h.0) same h.2)

-- a line whose answer is whole
pub line_answered : {T E : Type 0} {P : ℕ} (o : Option Command) (line : List ℕ) (memory : Bool) (visits : ℕ) (held left : Records) (written : Result T E) (before after : List ℕ)
    (has_failed : Bool) (x : T) (old new : State P) → o ≡ command_of line → IsCommandDone P o memory visits held left written before after has_failed → held ≡ old.records
    → new.records ≡ left → written ≡ Ok x → new.reads ≡ old.reads ++ visits ∷ [] → IsLineAnswered memory visits line old new before after
line_answered {T} {E} {P} o line memory visits held left written before after has_failed x old new read done same kept is counted =
    let d = subst (λ r. IsCommandDone P o memory visits r left written before after has_failed) same done in
    record {
      output = (rw is at d.output).ok ∙ ap (λ p. before ++ answer_to memory p old.records) read;
      left = kept ∙ d.left ∙ ap (λ p. records_left memory p old.records) read;
      lawful = line_may o line old.records old.records memory read refl d.lawful;
      within = subst (λ p. IsWithin (counted_of P memory p old.records) visits) read (rw is at d.within);
      short = subst (λ p. IsShort p visits) read (rw is at d.short);
      own_path = subst (λ p. ReadsOwnPath p old.records visits) read (rw is at d.own_path);
      counted = counted;
    }

-- a line whose answer was cut
pub line_cut : {T E : Type 0} {P : ℕ} (o : Option Command) (line : List ℕ) (memory : Bool) (visits : ℕ) (held left : Records) (written : Result T E) (before after : List ℕ)
    (has_failed : Bool) (e : E) (old new : State P) → o ≡ command_of line → IsCommandDone P o memory visits held left written before after has_failed → held ≡ old.records
    → new.records ≡ left → written ≡ Err e → new.reads ≡ old.reads ++ visits ∷ [] → IsAnswerCut old line before after new
line_cut {T} {E} {P} o line memory visits held left written before after has_failed e old new read done same kept is counted =
    let d = subst (λ r. IsCommandDone P o memory visits r left written before after has_failed) same done in
    cut_line memory old new line before after _ visits (ap (λ p. answer_to memory p old.records) read) (rw is at d.output).cut
    (kept ∙ d.left ∙ ap (λ p. records_left memory p old.records) read) (line_may o line old.records old.records memory read refl d.lawful)
    (subst (λ p. visits ≤ (counted_of P memory p old.records).most) read d.few) counted
