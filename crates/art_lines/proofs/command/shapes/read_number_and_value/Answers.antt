use Rattle.std.proofs.Common.{◌∷◌, refl, ap, ◌∙◌}
use Rattle.art_lines.proofs.Terms.{tenant_in_place, number_in_place, value_in_place}
use Rattle.art_lines.specs.Reading.{number_in, bytes_in}
use Rattle.art_lines.proofs.LastField.{no_bytes}
use Rattle.std.proofs.Math.Facts.{to_z-of_z}
use Rattle.art_lines.proofs.Decimals.{number_range}
use Rattle.art_lines.proofs.Shapes.{tenant_kept, number_kept, none_first_of_two, none_second, two_read}
use Rattle.art_lines.proofs.command.shapes.read_number_and_value.Goals as goal

pub returns-in_default : goal.returns-in_default
returns-in_default c = none_first_of_two c.args.text.now number_in bytes_in c.in_default.ensures.none

pub returns-in_default-split_number : goal.returns-in_default-split_number
returns-in_default-split_number c =
    let first = c.in-Some.ensures.some in
    none_second c.args.text.now first.field c.in-Some.rest.now number_in bytes_in first.parts c.in_default-split_number.ensures.none

pub returns : goal.returns
returns c =
    let first = c.in-Some.ensures.some in let second = c.in-Some-split_number.ensures.some in
    two_read c.args.text.now first.field second.field c.in-Some-split_number.value.now (first.parts ∙ ap (λ l. first.field ∷ l) second.parts) number_in bytes_in no_bytes
    _ _ c.read_value.result c.in-Some.tenant (tenant_in_place c.read_value.new.self) (number_in_place c.read_value.new.self) c.in-Some-split_number.number (value_in_place c.read_value.new.self)
    first.meant refl second.meant refl
    (tenant_kept c.read_value.ensures.kept ∙ tenant_kept c.set_number.ensures ∙ tenant_kept c.set_tenant.ensures)
    (number_kept c.read_value.ensures.kept ∙ number_kept c.set_number.ensures ∙ to_z-of_z (number_range second.field _ second.meant)) c.read_value.ensures.read
