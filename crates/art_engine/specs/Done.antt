-- What is done for a command, and for a line.
use Rattle.std.specs.Prelude.{◌≡◌, ℕ, ◌≤◌, Bool, true, if◌then◌else◌, List, [], ◌∷◌, ◌++◌, flat_map, codes}
use Rattle.std.specs.Prelude.{Option, Some, Result, OnOk}
use Rattle.art_lines.specs.Words.{name, line_of}
use Rattle.art_lines.specs.Writes.{Writes}
use Rattle.art_lines.specs.Commands.{Command}
use Rattle.art_lines.specs.Reading.{command_of}
use Rattle.art_engine.specs.Counts.{IsShort, IsWithin, ReadsOwnPath, Visits, exactly, line_visits, visits_of}
use Rattle.art_engine.specs.Outcome.{answer, left_by}
use Rattle.art_engine.specs.Records.{Records}
use Rattle.art_engine.specs.Refusals.{LineMayRefuse, MayRefuse}
use Rattle.art_engine.specs.Replies.{command_reply, command_after}
use Rattle.art_engine.specs.State.{State}

-- What is written for a command: `memory` where it finds none, else its reply. Where it finds no memory, it changes
-- nothing and reads nothing that counts.
abbrev pub answer_to : Bool → Option Command → Records → List ℕ
answer_to memory command records =
    flat_map line_of (if memory then (name (codes "memory") ∷ []) ∷ [] else command_reply command records)

abbrev pub records_left : Bool → Option Command → Records → Records
records_left memory command records = if memory then records else command_after command records

abbrev pub counted_of : ℕ → Bool → Option Command → Records → Visits
counted_of P memory command records = if memory then exactly 0 else visits_of P command records

-- A command was carried out, and found no memory only if it may. Its answer was written, or a write failed within it.
-- What it has read is told: as many nodes as it reads, or no more, if its answer was cut.
pub record IsCommandDone {T E : Type 0} (P : ℕ) (command : Option Command) (memory : Bool) (visits : ℕ)
    (old new : Records) (written : Result T E) (before after : List ℕ) (has_failed : Bool) : Type 0 where
  pub lawful : memory ≡ true → (c : Command) × (command ≡ Some c) × MayRefuse old c
  pub left : new ≡ records_left memory command old
  pub output : Writes written before after (answer_to memory command old) has_failed
  pub few : visits ≤ (counted_of P memory command old).most
  pub within : OnOk written (IsWithin (counted_of P memory command old) visits)
  pub short : OnOk written (IsShort command visits)
  pub own_path : OnOk written (ReadsOwnPath command old visits)

-- A line was carried out and answered, with so many nodes read, which are counted.
pub record IsLineAnswered {P : ℕ} (memory : Bool) (visits : ℕ) (line : List ℕ) (old new : State P)
    (before after : List ℕ) : Type 0 where
  pub output : after ≡ before ++ answer memory old.records line
  pub left : new.records ≡ left_by memory old.records line
  pub lawful : memory ≡ true → LineMayRefuse old.records line
  pub within : IsWithin (line_visits P memory line old.records) visits
  pub short : IsShort (command_of line) visits
  pub own_path : ReadsOwnPath (command_of line) old.records visits
  pub counted : new.reads ≡ old.reads ++ visits ∷ []
