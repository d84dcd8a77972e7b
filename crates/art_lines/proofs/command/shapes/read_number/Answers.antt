use Rattle.std.proofs.Common.{refl, ◌∙◌}
use Rattle.art_lines.proofs.Terms.{tenant_in_place, number_in_place}
use Rattle.art_lines.specs.Reading.{number_in}
use Rattle.art_lines.proofs.LastField.{no_number}
use Rattle.art_lines.proofs.Shapes.{tenant_kept, none_first, one_read}
use Rattle.art_lines.proofs.command.shapes.read_number.Goals as goal

pub returns-in_default : goal.returns-in_default
returns-in_default c = none_first c.args.text.now number_in c.in_default.ensures.none

pub returns : goal.returns
returns c =
    let first = c.in-Some.ensures.some in
    one_read c.args.text.now first.field c.in-Some.number.now first.parts number_in no_number
    _ c.read_number.result c.in-Some.tenant (tenant_in_place c.read_number.new.self) (number_in_place c.read_number.new.self)
    first.meant refl (tenant_kept c.read_number.ensures.kept ∙ tenant_kept c.set_tenant.ensures) c.read_number.ensures.read
