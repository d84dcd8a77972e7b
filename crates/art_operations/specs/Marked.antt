-- The longest key that begins a query once its mark is put after it, where each key ends with a mark.
use Rattle.std.specs.Prelude.{◌≡◌, ℕ, zero, suc, List, [], ◌∷◌, ◌++◌, length, take, Option, Some, None}
use Rattle.std.specs.Str.{bytes_eq}
use Rattle.art_nodes.specs.Name.{Name}
use Rattle.art_arena.specs.arena.Arena.{Arena}
use Rattle.art_arena.specs.arena.Descents.{leaf_where}
use Rattle.art_arena.specs.arena.Shapes.{leaves}
use Rattle.art_operations.specs.Whichever.{OfTree}

-- so many bytes of the query, and the mark after them
abbrev pub marked_key : List ℕ → ℕ → ℕ → List ℕ
marked_key query mark n = take n query ++ mark ∷ []

-- the first, or the second where the first is none
abbrev pub option_or : {X : Type 0} → Option X → Option X → Option X
option_or (Some x) other = Some x
option_or None other = other

-- what is found for the key of so many bytes of the query and the mark, or else for that of one byte less, and so on
-- down to the mark alone
abbrev pub longest_marked : {X : Type 0} → (List ℕ → Option X) → List ℕ → ℕ → ℕ → Option X
longest_marked find query mark zero = find (marked_key query mark 0)
longest_marked find query mark (suc n) =
    option_or (find (marked_key query mark (suc n))) (longest_marked find query mark n)

-- the answer is the leaf of the longest such key in the tree that stands below the name
abbrev pub FindsMarked : {K V : Type 0} → (K → List ℕ) → ℕ → Arena K V → Name → List ℕ → ℕ → Option ℕ → Type 0
FindsMarked bytes P arena root query mark found =
    OfTree bytes P arena root (λ s. found
    ≡ longest_marked (λ key. leaf_where bytes (λ k. bytes_eq k key) (leaves s)) query mark (length query))
