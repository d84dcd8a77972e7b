use Rattle.std.proofs.Common.{ap, ◌∙◌}
use Rattle.std.specs.Prelude.{option_map, option_copied}
use Rattle.art_lines.proofs.Terms.{fields_after}
use Rattle.art_lines.proofs.Parsing.{row_found, no_row, fits_after, too_long, says_word, says_nothing, read_none, read_some}
use Rattle.art_lines.proofs.Shapes.{command_read}
use Rattle.art_lines.proofs.command.read_line.Goals as goal

pub returns-then-line-gt-LINE : goal.returns-then-line-gt-LINE
returns-then-line-gt-LINE c = too_long c.args.line.now c.if-line-gt-LINE.true

pub returns-in_err-word : goal.returns-in_err-word
returns-in_err-word c =
    ap (option_map (λ w. _)) c.from_residual.ensures
    ∙ says_nothing c.args.line.now c.split_field.result.0.now (fields_after (option_copied c.split_field.result.1)) c.if-line-gt-LINE.false c.split_field.ensures.split
    (no_row _ c.in_err-word.ensures)

pub returns-then-not-read_fields : goal.returns-then-not-read_fields
returns-then-not-read_fields c =
    let rest = fields_after (option_copied c.split_field.result.1) in
    let row = row_found _ c.in_ok-word.word c.in_ok-word.shape c.in_ok-word.ensures in
    read_none c.read_fields.result _ _ (command_read c.read_fields.new.fields c.read_fields.result rest c.in_ok-word.word c.in_ok-word.shape row.1 c.read_fields.ensures) c.if-not-read_fields.true
    ∙ says_word c.args.line.now c.split_field.result.0.now rest c.if-line-gt-LINE.false c.split_field.ensures.split c.in_ok-word.word row.0

pub returns : goal.returns
returns c =
    let rest = fields_after (option_copied c.split_field.result.1) in
    let row = row_found _ c.in_ok-word.word c.in_ok-word.shape c.in_ok-word.ensures in
    read_some c.read_fields.result _ _ (command_read c.read_fields.new.fields c.read_fields.result rest c.in_ok-word.word c.in_ok-word.shape row.1 c.read_fields.ensures) c.if-not-read_fields.false
    ∙ says_word c.args.line.now c.split_field.result.0.now rest c.if-line-gt-LINE.false c.split_field.ensures.split c.in_ok-word.word row.0

pub read_fields-requires : goal.read_fields-requires
read_fields-requires c =
    let row = row_found _ c.in_ok-word.word c.in_ok-word.shape c.in_ok-word.ensures in
    fits_after c.split_field.result.1 c.split_field.result.0.now c.args.line.now c.in_ok-word.word row.0 c.split_field.ensures.shorter c.if-line-gt-LINE.false
