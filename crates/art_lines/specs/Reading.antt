-- The command that a line spells, computed. That it is the one that `Spells` relates to the line is a law,
-- `laws::reading_is_spelling`.
use Rattle.std.specs.Prelude.{ℕ, zero, suc, ℤ, pos, negsuc, ◌+◌, ◌^◌, ◌==◌, ◌&&◌, nat_lt, nat_le, if◌then◌else◌}
use Rattle.std.specs.Prelude.{List, [], ◌∷◌, length, codes, decimal}
use Rattle.std.specs.Prelude.{Option, Some, None, option_and_then, option_map, Result, Ok, Err}
use Rattle.std.specs.Str.{bytes_eq}
use Rattle.std.specs.Str.Parse.{digits_value}
use Rattle.hex.specs.Hex.{decode_of}
use Rattle.hex.specs.declared.error.FromHexError.{FromHexError}
use Rattle.art_lines.specs.declared.command.word.Word.{Word}
use Rattle.art_lines.specs.declared.command.word.Shape.{Shape}
use Rattle.art_lines.specs.declared.command.word.Shape.TheVariants.{Key, KeyAndValue, Number, NumberAndValue}
use Rattle.art_lines.specs.declared.command.word.Shape.TheVariants.{TwoKeys, TwoNumbers, Tenant, Nothing}
use Rattle.art_lines.specs.Commands.{Command, fields_of}
use Rattle.art_lines.specs.Table.{FieldsFor, shape_of, made_by, word_in}

infixl 10 ◌>>=◌
abbrev pub ◌>>=◌ : {A B : Type 0} → Option A → (A → Option B) → Option B
o >>= f = option_and_then f o

-- the natural number below a limit that a field is read as
unfoldable pub natural_in : ℕ → List ℕ → Option ℕ
natural_in limit field =
    let n = digits_value 10 field in
    if nat_lt n limit && bytes_eq field (decimal n) then Some n else None

-- the tenant that a field is read as
unfoldable pub tenant_in : List ℕ → Option ℕ
tenant_in field = natural_in (2 ^ 32) field

-- the number below 0 by so much, if that is not 0
abbrev pub negated : ℕ → Option ℤ
negated zero = None
negated (suc n) = Some (negsuc n)

-- the number of 64 bits with its sign that a field is read as
unfoldable pub number_in : List ℕ → Option ℤ
number_in [] = None
number_in (first ∷ rest) =
    if first == 45 then option_and_then negated (natural_in (2 ^ 63 + 1) rest)
    else option_map (λ n. pos n) (natural_in (2 ^ 63) (first ∷ rest))

-- decoded bytes, at least one
abbrev pub some_bytes : Result (List ℕ) FromHexError → Option (List ℕ)
some_bytes (Ok []) = None
some_bytes (Ok (b ∷ bs)) = Some (b ∷ bs)
some_bytes (Err e) = None

-- the bytes that a field is read as
unfoldable pub bytes_in : List ℕ → Option (List ℕ)
bytes_in field = if bytes_eq field (codes "-") then Some [] else some_bytes (decode_of field)

-- a tenant and what a field is read as
abbrev pub one_in : {A : Type 0} → (List ℕ → Option A) → List (List ℕ) → Option (ℕ × A)
one_in read (t ∷ x ∷ []) = do
  tenant ← tenant_in t
  a ← read x
  Some (tenant, a)
one_in read other = None

-- a tenant and what two fields are read as
abbrev pub two_in : {A B : Type 0} → (List ℕ → Option A) → (List ℕ → Option B) → List (List ℕ) → Option (ℕ × A × B)
two_in read then_read (t ∷ x ∷ y ∷ []) = do
  tenant ← tenant_in t
  a ← read x
  b ← then_read y
  Some (tenant, a, b)
two_in read then_read other = None

-- a tenant alone
abbrev pub tenant_alone_in : List (List ℕ) → Option ℕ
tenant_alone_in (t ∷ []) = tenant_in t
tenant_alone_in other = None

-- nothing
abbrev pub nothing_in : List (List ℕ) → Option (Unit {0})
nothing_in [] = Some tt
nothing_in other = None

-- What stands after a word, by its shape. A prefix is read as a key, and so is each of two bounds.
abbrev pub fields_in : (shape : Shape) → List (List ℕ) → Option (FieldsFor shape)
fields_in Key fields = one_in bytes_in fields
fields_in KeyAndValue fields = two_in bytes_in bytes_in fields
fields_in TwoKeys fields = two_in bytes_in bytes_in fields
fields_in Number fields = one_in number_in fields
fields_in NumberAndValue fields = two_in number_in bytes_in fields
fields_in TwoNumbers fields = two_in number_in number_in fields
fields_in Tenant fields = tenant_alone_in fields
fields_in Nothing fields = nothing_in fields

-- the command that a word makes of the fields after it
abbrev pub command_by : Word → List (List ℕ) → Option Command
command_by w fields = option_map (made_by w) (fields_in (shape_of w) fields)

-- the command that some fields make
abbrev pub command_in : List (List ℕ) → Option Command
command_in [] = None
command_in (word ∷ rest) = option_and_then (λ w. command_by w rest) (word_in word)

-- the command that a line spells
unfoldable pub command_of : List ℕ → Option Command
command_of line = if nat_le (length line) 4096 then command_in (fields_of line) else None
