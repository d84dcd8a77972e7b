-- What comes of a list of lines, some of which find no memory.
use Rattle.std.specs.Prelude.{◌≡◌, ℕ, ◌≤◌, Bool, true, false, if◌then◌else◌, List, [], ◌∷◌, ◌++◌, map, flat_map, codes}
use Rattle.std.specs.Prelude.{Option}
use Rattle.std.specs.List.{FoldsTo}
use Rattle.art_arena.specs.tree.Changes.{IsIn}
use Rattle.art_lines.specs.Commands.{Command}
use Rattle.art_lines.specs.Words.{name, line_of}
use Rattle.art_lines.specs.Reading.{command_of}
use Rattle.art_engine.specs.Ahead.{most_ahead}
use Rattle.art_engine.specs.Counts.{IsWithin, IsShort, ReadsOwnPath, line_visits}
use Rattle.art_engine.specs.OwnAhead.{own_path_nodes}
use Rattle.art_engine.specs.Records.{Records, AreRecords}
use Rattle.art_engine.specs.Replies.{command_reply, command_after}
use Rattle.art_engine.specs.Refusals.{LineMayRefuse}
use Rattle.art_engine.specs.State.{State}

-- the answer to a line: `memory` where it finds none, else the reply to its command
abbrev pub answer : Bool → Records → List ℕ → List ℕ
answer memory records line =
    flat_map line_of (if memory then (name (codes "memory") ∷ []) ∷ [] else command_reply (command_of line) records)

-- the records that it leaves: where it finds no memory, it changes nothing
abbrev pub left_by : Bool → Records → List ℕ → Records
left_by memory records line = if memory then records else command_after (command_of line) records

-- both of a line that finds memory
abbrev pub reply_to : Records → List ℕ → List ℕ
reply_to records line = answer false records line

abbrev pub records_after : Records → List ℕ → Records
records_after records line = left_by false records line

-- the answers to lines in order, each of which finds no memory where `true` stands beside it
abbrev pub answers : Records → List (List ℕ × Bool) → List ℕ
answers records [] = []
answers records (l ∷ lines) = answer l.1 records l.0 ++ answers (left_by l.1 records l.0) lines

-- A line was carried out, and found no memory only if it may. It left records as an index may hold them. What it has
-- read is counted after what was read before, and so is what was read ahead of it.
pub record IsLineDone {P : ℕ} (memory : Bool) (old : State P) (line : List ℕ) (new : State P) : Type 0 where
  pub lawful : memory ≡ true → LineMayRefuse old.records line
  pub left : new.records ≡ left_by memory old.records line
  pub are : AreRecords new.records
  pub visits : ℕ
  pub within : IsWithin (line_visits P memory line old.records) visits
  pub short : IsShort (command_of line) visits
  pub own_path : ReadsOwnPath (command_of line) old.records visits
  pub counted : new.reads ≡ old.reads ++ visits ∷ []
  pub visits_ahead : ℕ
  pub few : visits_ahead ≤ most_ahead (command_of line)
  pub counted_ahead : new.ahead ≡ old.ahead ++ visits_ahead ∷ []

-- the records before each of these lines and after the last, the latest first, and then earlier ones
abbrev pub records_so_far : List Records → Records → List (List ℕ × Bool) → List Records
records_so_far earlier records [] = records ∷ earlier
records_so_far earlier records (l ∷ lines) = records_so_far (records ∷ earlier) (left_by l.1 records l.0) lines

-- so many nodes at most has the path of a command's own full key in the tree of one of these records
abbrev pub IsOnOwnPathIn : List Records → Option Command → ℕ → Type 0
IsOnOwnPathIn all command n = (held : Records) × IsIn held all × (n ≤ own_path_nodes command held)

-- What is told as read ahead of each of these lines was read on the path of its own full key in the tree of the records
-- before that line, or before an earlier one.
abbrev pub AreOnOwnPaths : List Records → Records → List (List ℕ × Bool) → List ℕ → Type 0
AreOnOwnPaths earlier records [] told = told ≡ []
AreOnOwnPaths earlier records (l ∷ lines) [] = ⊥
AreOnOwnPaths earlier records (l ∷ lines) (n ∷ told) = IsOnOwnPathIn (records ∷ earlier) (command_of l.0) n
    × AreOnOwnPaths (records ∷ earlier) (left_by l.1 records l.0) lines told

-- From the state at the start, lines were carried out one by one, some of which found no memory. This was written in
-- answer to them, and they left the state now. What was read ahead of each was read on the path of its own full key.
pub record IsOutcome {P : ℕ} (start : State P) (lines : List (List ℕ)) (written : List ℕ) (now : State P) : Type 0 where
  pub asked : List (List ℕ × Bool)
  pub are : lines ≡ map (λ l. l.0) asked
  pub output : written ≡ answers start.records asked
  pub done : FoldsTo (λ old l new. IsLineDone l.1 old l.0 new) start asked now
  pub told : List ℕ
  pub told_ahead : now.ahead ≡ start.ahead ++ told
  pub own_ahead : AreOnOwnPaths [] start.records asked told

-- the records before each line of a run, and after the last
abbrev pub records_in : {P : ℕ} {start now : State P} {lines : List (List ℕ)} {written : List ℕ}
    → IsOutcome start lines written now → List Records
records_in {start} o = records_so_far [] start.records o.asked
