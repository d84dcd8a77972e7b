-- How far a run has come with the bytes given so far.
use Rattle.std.specs.Prelude.{◌≡◌, ℕ, ◌==◌, false, List, ◌++◌, take}
use Rattle.std.specs.List.{AllByRecursion}
use Rattle.art_lines.specs.Lines.{whole_lines_of, unfinished_line_of}
use Rattle.art_engine.specs.State.{State}
use Rattle.art_lines.specs.Reading.{command_of}
use Rattle.art_engine.specs.Outcome.{IsOnOwnPathIn, IsOutcome, records_in}
use Rattle.art_engine.specs.Records.{Records}
use Rattle.art_engine.specs.Faults.{AfterWriteFault}
use Rattle.art_engine.specs.declared.read_ahead.line.Line.{Line}

-- what was read ahead of each of these lines was read on the path of its own full key in the tree of one of the records
abbrev pub AllOnOwnPath : List Records → List Line → Type 0
AllOnOwnPath all lines = AllByRecursion (λ line. IsOnOwnPathIn all (command_of line.text.items) line.read) lines

-- All whole lines of a text are carried out and counted, and the unfinished one is held, as far as it can be a command.
-- What was read ahead of lines that are still to come was read in the tree of the records now, or before one of those.
pub record Carried {P : ℕ} (start now : State P) (text held before taken : List ℕ) (lines : List Line) : Type 0 where
  pub written : List ℕ
  pub outcome : IsOutcome start (whole_lines_of text) written now
  pub output : taken ≡ before ++ written
  pub rest : held ≡ take 4097 (unfinished_line_of text)
  pub own : AllOnOwnPath (records_in outcome) lines

-- A write failed within the answer to one of these lines, and the ones before it were answered.
pub record IsCutRun {P : ℕ} (start now : State P) (ls : List (List ℕ)) (before taken : List ℕ) : Type 0 where
  pub written : List ℕ
  pub output : taken ≡ before ++ written
  pub fault : AfterWriteFault start ls written now

-- no byte is a newline
abbrev pub NoNewline : List ℕ → Type 0
NoNewline bytes = AllByRecursion (λ b. (b == 10) ≡ false) bytes
