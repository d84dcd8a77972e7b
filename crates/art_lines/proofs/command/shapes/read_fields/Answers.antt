use Rattle.art_lines.proofs.Terms.{Key, KeyAndValue, Number, NumberAndValue, TwoKeys, TwoNumbers, Tenant, tenant_in_place}
use Rattle.art_lines.proofs.Shapes.{by_shape, alone_read, nothing_after, something_lacks, too_much}
use Rattle.art_lines.proofs.command.shapes.read_fields.Goals as goal

pub returns-in-Nothing : goal.returns-in-Nothing
returns-in-Nothing c = nothing_after c.args.shape c.args.fields.now c.args.rest c.in_default.is c.in-Nothing.is

pub returns-in_default-matches : goal.returns-in_default-matches
returns-in_default-matches c = something_lacks c.args.shape c.args.rest c.in_default.is c.in_default-matches.not-Nothing

pub returns-in-Key : goal.returns-in-Key
returns-in-Key c = by_shape c.args.shape Key _ _ c.args.rest c.in-Some.text c.in-Key.is c.in-Some.is c.read_key.ensures

pub returns-in-KeyAndValue : goal.returns-in-KeyAndValue
returns-in-KeyAndValue c = by_shape c.args.shape KeyAndValue _ _ c.args.rest c.in-Some.text c.in-KeyAndValue.is c.in-Some.is c.read_key_and_value.ensures

pub returns-in-TwoKeys : goal.returns-in-TwoKeys
returns-in-TwoKeys c = by_shape c.args.shape TwoKeys _ _ c.args.rest c.in-Some.text c.in-TwoKeys.is c.in-Some.is c.read_two_keys.ensures

pub returns-in-Number : goal.returns-in-Number
returns-in-Number c = by_shape c.args.shape Number _ _ c.args.rest c.in-Some.text c.in-Number.is c.in-Some.is c.read_number.ensures

pub returns-in-NumberAndValue : goal.returns-in-NumberAndValue
returns-in-NumberAndValue c = by_shape c.args.shape NumberAndValue _ _ c.args.rest c.in-Some.text c.in-NumberAndValue.is c.in-Some.is c.read_number_and_value.ensures

pub returns-in-TwoNumbers : goal.returns-in-TwoNumbers
returns-in-TwoNumbers c = by_shape c.args.shape TwoNumbers _ _ c.args.rest c.in-Some.text c.in-TwoNumbers.is c.in-Some.is c.read_two_numbers.ensures

pub returns-in-Tenant : goal.returns-in-Tenant
returns-in-Tenant c =
    by_shape c.args.shape Tenant _ _ c.args.rest c.in-Some.text c.in-Tenant.is c.in-Some.is
    (alone_read c.in-Some.text.now c.read_tenant.result (tenant_in_place c.read_tenant.new.self) c.read_tenant.ensures.read)

pub returns-in-Nothing-shape : goal.returns-in-Nothing-shape
returns-in-Nothing-shape c = too_much c.args.shape c.args.fields.now c.args.rest c.in-Some.text c.in-Nothing-shape.is c.in-Some.is
