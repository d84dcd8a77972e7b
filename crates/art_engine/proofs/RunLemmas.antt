-- What one more line does to a run.
use Rattle.std.proofs.Common.{◌≡◌, ℕ, List, [], ◌∷◌, ◌++◌, refl, ap, sym, ◌∙◌, subst, Bool, append_assoc, append-nil}
use Rattle.std.proofs.lemmas.Fn.{FoldsTo-push}
use Rattle.std.proofs.lemmas.List.{map-append}
use Rattle.std.specs.List.{FoldsTo}
use Rattle.art_lines.specs.Reading.{command_of}
use Rattle.art_engine.proofs.OwnPathsAhead.{AsMarked, told_on}
use Rattle.art_engine.proofs.Terms.{State, answer, left_by, answers, records_in, IsLineDone, IsOnOwnPathIn, IsOutcome}

pub answers-snoc : {P : ℕ} (start now : State P) (ms : List (List ℕ × Bool)) (l : List ℕ × Bool) → FoldsTo AsMarked start ms now
    → answers start.records (ms ++ l ∷ []) ≡ answers start.records ms ++ answer l.1 now.records l.0
answers-snoc {P} start now [] l done = append-nil _ ∙ ap (λ (s : State P). answer l.1 s.records l.0) done
answers-snoc start now (m ∷ ms) l done =
    let first : List ℕ = answer m.1 start.records m.0 in let last : List ℕ = answer l.1 now.records l.0 in
    let again = subst (λ r. answers r (ms ++ l ∷ []) ≡ answers r ms ++ last) done.1.left (answers-snoc done.0 now ms l done.2) in
    ap (λ t. first ++ t) again ∙ sym (append_assoc first (answers (left_by m.1 start.records m.0) ms) last)

pub outcome-none : {P : ℕ} (start : State P) → IsOutcome start [] [] start
outcome-none start = record { asked = []; are = refl; output = refl; done = refl; told = []; told_ahead = sym (append-nil start.ahead); own_ahead = refl }

-- the same, told of other lists that are equal
unfoldable pub outcome-same : {P : ℕ} (start now new : State P) (ls lines : List (List ℕ)) (written : List ℕ) → new ≡ now → lines ≡ ls → IsOutcome start ls written now → IsOutcome start lines written new
outcome-same {P} start now new ls lines written same is o = record {
  asked = o.asked;
  are = is ∙ o.are;
  output = o.output;
  done = subst (FoldsTo AsMarked start o.asked) (sym same) o.done;
  told = o.told;
  told_ahead = ap (λ (s : State P). s.ahead) same ∙ o.told_ahead;
  own_ahead = o.own_ahead;
}

unfoldable pub outcome-more : {P : ℕ} (start now new : State P) (ls lines : List (List ℕ)) (written : List ℕ) (memory : Bool) (l : List ℕ) → lines ≡ ls ++ l ∷ [] → (o : IsOutcome start ls written now)
    → (h : IsLineDone memory now l new) → IsOnOwnPathIn (records_in o) (command_of l) h.visits_ahead → IsOutcome start lines (written ++ answer memory now.records l) new
outcome-more start now new ls lines written memory l is o h own =
    record {
      asked = o.asked ++ (l, memory) ∷ [];
      are = is ∙ ap (λ t. t ++ l ∷ []) o.are ∙ sym (map-append (λ (m : List ℕ × Bool). m.0) o.asked ((l, memory) ∷ []));
      output = ap (λ t. t ++ answer memory now.records l) o.output ∙ sym (answers-snoc start now o.asked (l, memory) o.done);
      done = FoldsTo-push AsMarked start o.asked now (l, memory) new o.done h;
      told = o.told ++ h.visits_ahead ∷ [];
      told_ahead = h.counted_ahead ∙ ap (λ ns. ns ++ h.visits_ahead ∷ []) o.told_ahead ∙ append_assoc start.ahead o.told (h.visits_ahead ∷ []);
      own_ahead = told_on [] start.records o.asked o.told (l, memory) h.visits_ahead o.own_ahead own;
    }
