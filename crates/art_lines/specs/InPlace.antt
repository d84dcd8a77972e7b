-- What a reader in place says.
use Rattle.std.specs.Prelude.{◌≡◌, ℕ, Bool, true, false, List, [], ◌∷◌, Option, Some, None}
use Rattle.art_lines.specs.Commands.{fields_of}

-- the fields of what stands after a space
abbrev pub fields_after : Option (List ℕ) → List (List ℕ)
fields_after None = []
fields_after (Some rest) = fields_of rest

-- Whether something was read: it is what is meant, and where nothing was, nothing is meant.
abbrev pub IsRead : {A : Type 0} → Bool → A → Option A → Type 0
IsRead true read meant = Some read ≡ meant
IsRead false read meant = None ≡ meant

-- The first field of a text is read so, and a space ends it, after which this rest stands.
pub record IsFirst {A : Type 0} (read : List ℕ → Option A) (text : List ℕ) (a : A) (rest : List ℕ) : Type 0 where
  pub field : List ℕ
  pub parts : fields_of text ≡ field ∷ fields_of rest
  pub meant : Some a ≡ read field

-- no first field that a space ends is read
abbrev pub HasNoFirst : {A : Type 0} → (List ℕ → Option A) → List ℕ → Type 0
HasNoFirst read text = (field next : List ℕ) (others : List (List ℕ)) → fields_of text ≡ field ∷ next ∷ others
    → None ≡ read field
