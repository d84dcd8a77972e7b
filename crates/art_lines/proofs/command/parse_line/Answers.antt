use Rattle.std.proofs.Common.{ap, ◌∙◌, Some}
use Rattle.std.specs.Prelude.{option_map}
use Rattle.art_lines.proofs.Terms.{meaning}
use Rattle.art_lines.proofs.Spelling.{read_back}
use Rattle.art_lines.proofs.command.parse_line.Goals as goal

pub returns-in_err-word-clause-spelled : goal.returns-in_err-word-clause-spelled
returns-in_err-word-clause-spelled c = read_back c.args.line.now (option_map meaning c.from_residual.result) (ap (option_map meaning) c.from_residual.ensures ∙ c.in_err-word.ensures)

pub returns-clause-spelled : goal.returns-clause-spelled
returns-clause-spelled c = read_back c.args.line.now (Some (meaning c.command_of_fields.result)) (ap (λ x. Some x) c.command_of_fields.ensures ∙ c.in_ok-word.ensures)
