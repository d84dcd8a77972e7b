use Rattle.std.proofs.Common.{refl}
use Rattle.art_lines.specs.Reading.{command_of}
use Rattle.art_lines.proofs.Spelling.{read_back}
use Rattle.art_lines.proofs.laws.reading_is_spelling.Goals as goal

pub returns : goal.returns
returns c = λ line. read_back line (command_of line) refl
