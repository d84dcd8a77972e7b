-- Laws of the grammar, each proved on a function of `laws`.
use Rattle.std.specs.Prelude.{◌≡◌, ◌↔◌, ℕ, List, Some}
use Rattle.art_lines.specs.Commands.{Command, Spells}
use Rattle.art_lines.specs.Reading.{command_of}

-- what is read of a line is the command that it spells, and nothing is read where it spells none
abbrev pub ReadingIsSpelling : Type 0
ReadingIsSpelling = (line : List ℕ) (command : Command) → (command_of line ≡ Some command) ↔ Spells line command

-- no line spells two commands
abbrev pub SpellsOneCommand : Type 0
SpellsOneCommand = (line : List ℕ) (a b : Command) → Spells line a → Spells line b → a ≡ b
