use Rattle.art_lines.proofs.Parsing.{row_found}
use Rattle.art_lines.proofs.command.word.word_of.Goals as goal

pub returns : goal.returns
returns c = (row_found _ c.in_ok-word.word _ c.in_ok-word.ensures).0
