use Rattle.std.proofs.Common.{Some, None, ap, ◌∙◌}
use Rattle.art_set.proofs.Common.{is_member}
use Rattle.use_inverted_index.specs.Notes.{number_bytes}
use Rattle.use_inverted_index.proofs.Noted.{told-numbers}
use Rattle.use_inverted_index.proofs.stands_in.Goals as goal

pub returns-in-Some : goal.returns-in-Some
returns-in-Some c =
    c.contains.ensures ∙ ap (is_member number_bytes c.args.number.now) (told-numbers c.args.word.now c.args.index.now.pairs (Some c.in-Some.numbers.now) c.in-Some.ensures)

pub returns-in-None : goal.returns-in-None
returns-in-None c = ap (is_member number_bytes c.args.number.now) (told-numbers c.args.word.now c.args.index.now.pairs None c.in-None.ensures)
