use Rattle.std.proofs.Common.{refl, ◌∙◌}
use Rattle.art_lines.proofs.Terms.{tenant_in_place, key_in_place}
use Rattle.art_lines.specs.Reading.{bytes_in}
use Rattle.art_lines.proofs.LastField.{no_bytes}
use Rattle.art_lines.proofs.Shapes.{tenant_kept, none_first, one_read}
use Rattle.art_lines.proofs.command.shapes.read_key.Goals as goal

pub returns-in_default : goal.returns-in_default
returns-in_default c = none_first c.args.text.now bytes_in c.in_default.ensures.none

pub returns : goal.returns
returns c =
    let first = c.in-Some.ensures.some in
    one_read c.args.text.now first.field c.in-Some.key.now first.parts bytes_in no_bytes
    _ c.read_key.result c.in-Some.tenant (tenant_in_place c.read_key.new.self) (key_in_place c.read_key.new.self)
    first.meant refl (tenant_kept c.read_key.ensures.kept ∙ tenant_kept c.set_tenant.ensures) c.read_key.ensures.read
