-- What a catalogue has at a path.
use Rattle.std.specs.Prelude.{ℕ, List, Option, bytes_eq}
use Rattle.std.specs.Map.{lookup}

-- the size at a path, of a list of paths with their sizes
abbrev pub size_at : List ℕ → List (List ℕ × ℕ) → Option ℕ
size_at path entries = lookup (λ other. bytes_eq other path) entries
