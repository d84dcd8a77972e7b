-- What the parser's values stand for.
use Rattle.std.specs.Prelude.{ℕ, ℤ, Bool, true, false, List, [], take, drop, option_map, unwrap_or}
use Rattle.std.specs.Int.{from_be_bytes, w32}
use Rattle.art_lines.specs.declared.command.Command.{Command}
use Rattle.art_lines.specs.declared.command.Command.TheVariants.{Put, Over, Del, Get, Find, List as ListOf, Span}
use Rattle.art_lines.specs.declared.command.Command.TheVariants.{NPut, NGet, NDel, NSpan, Drop as DropOf, Dump, Audit}
use Rattle.art_lines.specs.declared.command.fields.Fields.{Fields}
use Rattle.art_lines.specs.declared.command.word.Word.{Word}
use Rattle.art_lines.specs.declared.command.word.Word.TheVariants.{LookUp, Change, Drop}
use Rattle.art_lines.specs.declared.command.word.LookUp.{LookUp as LookUpWord}
use Rattle.art_lines.specs.declared.command.word.Change.{Change as ChangeWord}
use Rattle.art_lines.specs.declared.command.word.Shape.{Shape}
use Rattle.art_lines.specs.declared.command.word.Shape.TheVariants.{Key, KeyAndValue, Number, NumberAndValue}
use Rattle.art_lines.specs.declared.command.word.Shape.TheVariants.{TwoKeys, TwoNumbers, Tenant, Nothing}
use Rattle.art_lines.specs.Commands as said
use Rattle.art_lines.specs.Table.{FieldsFor, Row, row, row_of_word}
pub use Rattle.art_lines.specs.Table.{asks_all}

abbrev pub meaning : Command → said.Command
meaning (Put tenant key value) = said.of_tenant tenant (said.put key.items value.items)
meaning (Over tenant key value) = said.of_tenant tenant (said.over key.items value.items)
meaning (Del tenant key) = said.of_tenant tenant (said.del key.items)
meaning (Get tenant key) = said.of_tenant tenant (said.get key.items)
meaning (Find tenant key) = said.of_tenant tenant (said.find key.items)
meaning (ListOf tenant front) = said.of_tenant tenant (said.list front.items)
meaning (Span tenant low high) = said.of_tenant tenant (said.span low.items high.items)
meaning (NPut tenant number value) = said.of_tenant tenant (said.nput number value.items)
meaning (NGet tenant number) = said.of_tenant tenant (said.nget number)
meaning (NDel tenant number) = said.of_tenant tenant (said.ndel number)
meaning (NSpan tenant low high) = said.of_tenant tenant (said.nspan low high)
meaning (DropOf tenant) = said.of_tenant tenant said.drop
meaning Dump = said.dump
meaning Audit = said.audit

-- the tenant, the key, the upper one of two keys, if one was read, and the value that were read in place
abbrev pub tenant_in_place : Fields → ℕ
tenant_in_place f = from_be_bytes w32 (take 4 f.full_key.items)

abbrev pub key_in_place : Fields → List ℕ
key_in_place f = drop 4 f.full_key.items

abbrev pub upper_in_place : Fields → List ℕ
upper_in_place f = unwrap_or (option_map (λ u. drop 4 u.items) f.upper) []

abbrev pub value_in_place : Fields → List ℕ
value_in_place f = f.value.items

-- the number and the upper one of two numbers
abbrev pub number_in_place : Fields → ℤ
number_in_place f = f.number

abbrev pub bound_in_place : Fields → ℤ
bound_in_place f = f.bound

-- all that was read in place
pub record AllInPlace : Type 0 where
  pub tenant : ℕ
  pub key : List ℕ
  pub upper : List ℕ
  pub value : List ℕ
  pub number : ℤ
  pub bound : ℤ

abbrev pub all_in_place : Fields → AllInPlace
all_in_place f = record {
  tenant = tenant_in_place f;
  key = key_in_place f;
  upper = upper_in_place f;
  value = value_in_place f;
  number = number_in_place f;
  bound = bound_in_place f;
}

-- what was read in place of a shape
abbrev pub fields_in_place : (shape : Shape) → Fields → FieldsFor shape
fields_in_place Key f = (tenant_in_place f, key_in_place f)
fields_in_place KeyAndValue f = (tenant_in_place f, key_in_place f, value_in_place f)
fields_in_place TwoKeys f = (tenant_in_place f, key_in_place f, upper_in_place f)
fields_in_place Number f = (tenant_in_place f, number_in_place f)
fields_in_place NumberAndValue f = (tenant_in_place f, number_in_place f, value_in_place f)
fields_in_place TwoNumbers f = (tenant_in_place f, number_in_place f, bound_in_place f)
fields_in_place Tenant f = tenant_in_place f
fields_in_place Nothing f = tt

-- the command of a row and of what was read after its word; of a word; and of the words of each family
abbrev pub command_of_row : Row → Fields → said.Command
command_of_row (row shape make) f = make (fields_in_place shape f)

abbrev pub command_with : Word → Fields → said.Command
command_with w f = command_of_row (row_of_word w) f

abbrev pub looks_up : LookUpWord → Fields → said.Command
looks_up w f = command_with (LookUp w) f

abbrev pub changes : ChangeWord → Fields → said.Command
changes w f = command_with (Change w) f

abbrev pub drops : Fields → said.Command
drops f = command_with Drop f

-- whether it is one of the six look-ups
abbrev pub is_look_up : Command → Bool
is_look_up (Get tenant key) = true
is_look_up (Find tenant key) = true
is_look_up (ListOf tenant front) = true
is_look_up (Span tenant low high) = true
is_look_up (NGet tenant number) = true
is_look_up (NSpan tenant low high) = true
is_look_up other = false
