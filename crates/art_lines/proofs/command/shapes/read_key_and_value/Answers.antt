use Rattle.std.proofs.Common.{◌∷◌, refl, ap, ◌∙◌}
use Rattle.art_lines.proofs.Terms.{tenant_in_place, key_in_place, value_in_place}
use Rattle.art_lines.specs.Reading.{bytes_in}
use Rattle.art_lines.proofs.LastField.{no_bytes}
use Rattle.art_lines.proofs.Shapes.{tenant_kept, key_kept, none_first_of_two, one_second, middle_not_read, two_read}
use Rattle.art_lines.proofs.command.shapes.read_key_and_value.Goals as goal

pub returns-in_default : goal.returns-in_default
returns-in_default c = none_first_of_two c.args.text.now bytes_in bytes_in c.in_default.ensures.none

pub returns-in_default-split_once : goal.returns-in_default-split_once
returns-in_default-split_once c =
    let first = c.in-Some.ensures.some in
    one_second c.args.text.now first.field c.in-Some.rest.now bytes_in bytes_in first.parts c.in_default-split_once.ensures.one

pub returns-then-not-read_key : goal.returns-then-not-read_key
returns-then-not-read_key c =
    let first = c.in-Some.ensures.some in let second = c.in-Some-split_once.ensures.fields in
    middle_not_read c.args.text.now first.field c.in-Some-split_once.key.now c.in-Some-split_once.value.now (first.parts ∙ ap (λ l. first.field ∷ l) second) bytes_in bytes_in no_bytes
    c.read_key.result (key_in_place c.read_key.new.self) c.read_key.ensures.read c.if-not-read_key.true

pub returns : goal.returns
returns c =
    let first = c.in-Some.ensures.some in let second = c.in-Some-split_once.ensures.fields in
    two_read c.args.text.now first.field c.in-Some-split_once.key.now c.in-Some-split_once.value.now (first.parts ∙ ap (λ l. first.field ∷ l) second) bytes_in bytes_in no_bytes
    _ c.read_key.result c.read_value.result c.in-Some.tenant (tenant_in_place c.read_value.new.self) (key_in_place c.read_value.new.self) (key_in_place c.read_key.new.self) (value_in_place c.read_value.new.self)
    first.meant refl c.read_key.ensures.read c.if-not-read_key.false
    (tenant_kept c.read_value.ensures.kept ∙ tenant_kept c.read_key.ensures.kept ∙ tenant_kept c.set_tenant.ensures) (key_kept c.read_value.ensures.kept) c.read_value.ensures.read
