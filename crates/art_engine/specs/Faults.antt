-- What was written and what is held where a write fails.
use Rattle.std.specs.Prelude.{◌≡◌, ℕ, ◌≤◌, Bool, true, IsTrue, List, [], ◌∷◌, ◌++◌}
use Rattle.art_bytes.specs.Keys.{is_proper_front}
use Rattle.art_lines.specs.Reading.{command_of}
use Rattle.art_engine.specs.Ahead.{most_ahead}
use Rattle.art_engine.specs.Counts.{line_visits}
use Rattle.art_engine.specs.State.{State}
use Rattle.art_engine.specs.Refusals.{LineMayRefuse}
use Rattle.art_engine.specs.Outcome.{answer, left_by, records_in, IsOnOwnPathIn, IsOutcome}

-- A line was carried out, and of its answer a beginning was taken that is not all of it. What it has read is counted,
-- at most what a line may read whose answer is whole.
pub record IsAnswerCut {P : ℕ} (old : State P) (line before after : List ℕ) (new : State P) : Type 0 where
  pub memory : Bool
  pub lawful : memory ≡ true → LineMayRefuse old.records line
  pub begun : List ℕ
  pub is_cut : IsTrue (is_proper_front begun (answer memory old.records line))
  pub output : after ≡ before ++ begun
  pub left : new.records ≡ left_by memory old.records line
  pub visits : ℕ
  pub few : visits ≤ (line_visits P memory line old.records).most
  pub counted : new.reads ≡ old.reads ++ visits ∷ []

-- So it was, and what was read ahead of it is counted, too, and then what was read ahead of lines that did not come.
pub record IsCutLine {P : ℕ} (old : State P) (line before after : List ℕ) (new : State P) : Type 0 where
  pub cut : IsAnswerCut old line before after new
  pub visits_ahead : ℕ
  pub few : visits_ahead ≤ most_ahead (command_of line)
  pub unused : List ℕ
  pub counted_ahead : new.ahead ≡ old.ahead ++ visits_ahead ∷ unused

-- After a failed write, one line more than the `answered` ones was carried out. Their answers were written whole,
-- and of the answer to the last a beginning that is not all of it. What was read ahead of it was read on its own path,
-- too.
abbrev pub AfterWriteFault : {P : ℕ} → State P → List (List ℕ) → List ℕ → State P → Type 0
AfterWriteFault {P} start lines written now =
    (answered others : List (List ℕ)) × (line output : List ℕ) × (middle : State P)
    × (lines ≡ answered ++ line ∷ others) × (outcome : IsOutcome start answered output middle)
    × (cut : IsCutLine middle line output written now)
    × IsOnOwnPathIn (records_in outcome) (command_of line) cut.visits_ahead
