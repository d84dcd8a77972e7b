-- The pairs whose keys begin a query, where each key ends with a mark.
use Rattle.std.specs.Prelude.{◌≡◌, ℕ, zero, suc, Bool, List, [], ◌∷◌, length, Option, Some, None}
use Rattle.art_operations.specs.Marked.{marked_key}
use Rattle.art_map.specs.Contents.{found_pair}
use Rattle.art_c.specs.Calls.{whole}
use Rattle.art_c.specs.Handles.{Pairs}
use Rattle.art_c.specs.Layouts.{words_pair}
use Rattle.art_c.specs.Walks.{AreTold, words_code}
use Rattle.art_c.specs.declared.code.Code.{Code}
use Rattle.art_c.specs.declared.value.WordsPair.{WordsPair}

-- what is found, if anything, before these
abbrev pub found_before : {X : Type 0} → Option X → List X → List X
found_before (Some x) xs = x ∷ xs
found_before None xs = xs

-- what is found for the key of so many bytes of a query and the mark, and for that of each number below, down to the
-- mark alone
abbrev pub each_marked : {X : Type 0} → (List ℕ → Option X) → List ℕ → ℕ → ℕ → List X
each_marked find query mark zero = found_before (find (marked_key query mark 0)) []
each_marked find query mark (suc n) =
    found_before (find (marked_key query mark (suc n))) (each_marked find query mark n)

-- the pairs whose keys are some bytes of a query, from its first, and the mark: the longest first
abbrev pub marked_pairs : {V : Type 0} → List ℕ → ℕ → Pairs V → Pairs V
marked_pairs query mark pairs = each_marked (λ key. found_pair whole key pairs) query mark (length query)

-- as many of them are told as there are places: how long their keys are, and their words
abbrev pub AreMarkedTold : List ℕ → ℕ → Pairs ℕ → List WordsPair × ℕ → Code → List WordsPair × ℕ → Type 0
AreMarkedTold query mark pairs x code y =
    (is_more : Bool) × AreTold (λ p. words_pair p.0 p.1) (marked_pairs query mark pairs) x.0 y.1 is_more y.0
    × (code ≡ words_code y.1 is_more)
