-- The table of words. The reading takes from it what each word is called, what stands after it, and what it asks for.
use Rattle.std.specs.Prelude.{ℕ, ℤ, pos, if◌then◌else◌, List, [], ◌∷◌, Option, Some, None}
use Rattle.std.specs.Str.{bytes_eq}
use Rattle.art_lines.specs.declared.command.word.Word.{Word}
use Rattle.art_lines.specs.declared.command.word.Word.TheVariants.{LookUp, Change, Whole, Drop}
use Rattle.art_lines.specs.declared.command.word.Whole.{Whole as WholeWord}
use Rattle.art_lines.specs.declared.command.word.LookUp.TheVariants as look_up
use Rattle.art_lines.specs.declared.command.word.Change.TheVariants as change
use Rattle.art_lines.specs.declared.command.word.Whole.TheVariants as whole
use Rattle.art_lines.specs.declared.command.word.Shape.{Shape}
use Rattle.art_lines.specs.declared.command.word.Shape.TheVariants.{Key, KeyAndValue, Number, NumberAndValue}
use Rattle.art_lines.specs.declared.command.word.Shape.TheVariants.{TwoKeys, TwoNumbers, Tenant, Nothing}
use Rattle.art_lines.specs.Words.{Word as Part, name}
use Rattle.art_lines.specs.Commands.{Request, put, over, del, get, find, list, span, nput, nget, ndel, nspan, drop}
use Rattle.art_lines.specs.Commands.{Command, of_tenant, dump, audit, words_of}

-- what stands after a word of this shape
abbrev pub FieldsFor : Shape → Type 0
FieldsFor Key = ℕ × List ℕ
FieldsFor KeyAndValue = ℕ × List ℕ × List ℕ
FieldsFor TwoKeys = ℕ × List ℕ × List ℕ
FieldsFor Number = ℕ × ℤ
FieldsFor NumberAndValue = ℕ × ℤ × List ℕ
FieldsFor TwoNumbers = ℕ × ℤ × ℤ
FieldsFor Tenant = ℕ
FieldsFor Nothing = Unit {0}

-- A row of the table: a word's shape, and the command that it makes of what stands after it.
pub data Row : Type 0 where
  row : (shape : Shape) → (FieldsFor shape → Command) → Row

abbrev pub shape_in : Row → Shape
shape_in (row shape make) = shape

abbrev pub made_in : (r : Row) → FieldsFor (shape_in r) → Command
made_in (row shape make) = make

-- what makes a request of one part after the tenant, and of two
abbrev pub of_one : {A : Type 0} → (A → Request) → ℕ × A → Command
of_one ask parts = of_tenant parts.0 (ask parts.1)

abbrev pub of_two : {A B : Type 0} → (A → B → Request) → ℕ × A × B → Command
of_two ask parts = of_tenant parts.0 (ask parts.1 parts.2)

-- what a word over all records asks for
abbrev pub asks_all : WholeWord → Command
asks_all whole.Dump = dump
asks_all whole.Audit = audit

-- The table. What a word is called stands in the grammar, in `request_words` and `words_of`.
abbrev pub row_of_word : Word → Row
row_of_word (LookUp look_up.Get) = row Key (of_one get)
row_of_word (LookUp look_up.Find) = row Key (of_one find)
row_of_word (LookUp look_up.List) = row Key (of_one list)
row_of_word (LookUp look_up.Span) = row TwoKeys (of_two span)
row_of_word (LookUp look_up.NGet) = row Number (of_one nget)
row_of_word (LookUp look_up.NSpan) = row TwoNumbers (of_two nspan)
row_of_word (Change change.Put) = row KeyAndValue (of_two put)
row_of_word (Change change.Over) = row KeyAndValue (of_two over)
row_of_word (Change change.Del) = row Key (of_one del)
row_of_word (Change change.NPut) = row NumberAndValue (of_two nput)
row_of_word (Change change.NDel) = row Number (of_one ndel)
row_of_word (Whole w) = row Nothing (λ nothing. asks_all w)
row_of_word Drop = row Tenant (λ tenant. of_tenant tenant drop)

-- all words, in the order in which a field is compared with them
abbrev pub all_words : List Word
all_words =
    Change change.Put ∷ LookUp look_up.Get ∷ Change change.Over ∷ Change change.Del ∷ LookUp look_up.Find
    ∷ LookUp look_up.List ∷ LookUp look_up.Span ∷ Change change.NPut ∷ LookUp look_up.NGet ∷ Change change.NDel
    ∷ LookUp look_up.NSpan ∷ Drop ∷ Whole whole.Dump ∷ Whole whole.Audit ∷ []

-- what stands after a word
abbrev pub shape_of : Word → Shape
shape_of w = shape_in (row_of_word w)

abbrev pub with_shape : Word → Word × Shape
with_shape w = (w, shape_of w)

-- the command that a word makes of what stands after it
abbrev pub made_by : (w : Word) → FieldsFor (shape_of w) → Command
made_by w = made_in (row_of_word w)

-- What a word is called: the name that each of its commands begins with. So it is taken from any one of them.
abbrev pub any_fields : (shape : Shape) → FieldsFor shape
any_fields Key = (0, [])
any_fields KeyAndValue = (0, [], [])
any_fields TwoKeys = (0, [], [])
any_fields Number = (0, pos 0)
any_fields NumberAndValue = (0, pos 0, [])
any_fields TwoNumbers = (0, pos 0, pos 0)
any_fields Tenant = 0
any_fields Nothing = tt

abbrev pub first_name : List Part → List ℕ
first_name (name text ∷ parts) = text
first_name other = []

abbrev pub called : Word → List ℕ
called w = first_name (words_of (made_by w (any_fields (shape_of w))))

-- the one of some words that a field is, and of all
abbrev pub found_among : List Word → List ℕ → Option Word
found_among [] field = None
found_among (w ∷ ws) field = if bytes_eq field (called w) then Some w else found_among ws field

abbrev pub word_in : List ℕ → Option Word
word_in field = found_among all_words field
