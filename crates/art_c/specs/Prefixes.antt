-- What becomes of a map from which pairs with a prefix are taken, some at a time.
use Rattle.std.specs.Prelude.{◌≡◌, ◌⊎◌, ℕ, suc, ◌≤◌, Bool, true, false, List, [], ◌∷◌, ◌++◌, length}
use Rattle.art_arena.specs.arena.Arena.{Arena, HasRoom, UsesRoom}
use Rattle.art_arena.specs.arena.Shapes.{key_of}
use Rattle.art_arena.specs.tree.Shrinks.{Shrinks}
use Rattle.art_arena.specs.tree.Tenants.{begins_with, with_front}
use Rattle.art_operations.specs.KeyedLists.{without_key}
use Rattle.art_c.specs.Calls.{whole}
use Rattle.art_c.specs.Copies.{written}
use Rattle.art_c.specs.Handles.{Map, Pairs}
use Rattle.art_c.specs.Spans.{while_so}
use Rattle.art_c.specs.Walks.{words_of_pairs, words_code}
use Rattle.art_c.specs.declared.code.Code.{Code}
use Rattle.art_c.specs.declared.code.Code.TheVariants.{NoMemory}

-- whether the next of some pairs has a key that begins with the prefix
abbrev pub IsNextWith : List ℕ → Pairs ℕ → Bool → Type 0
IsNextWith prefix [] is = is ≡ false
IsNextWith prefix (p ∷ rest) is = is ≡ begins_with prefix p.0

-- the pairs without those that have the keys of these
abbrev pub without_keys : Pairs ℕ → Pairs ℕ → Pairs ℕ
without_keys [] pairs = pairs
without_keys (p ∷ ps) pairs = without_keys ps (without_key (key_of whole) p.0 pairs)

-- How it ends after so many that were taken, with these left: there is no other, or it has no place, or no memory is
-- found for the smaller node that its loss makes.
abbrev pub TakeEnds : ℕ → ℕ → Pairs ℕ → Pairs ℕ → Code → Type 0
TakeEnds taken places [] pairs code = code ≡ words_code taken false
TakeEnds taken places (p ∷ rest) pairs code =
    ((taken ≡ places) × (code ≡ words_code taken true)) ⊎ (Shrinks (key_of whole) pairs p.0 × (code ≡ NoMemory))

-- The first of these pairs were taken out of a map, and their words were copied out in order, one to a place.
abbrev pub AreTakenOut : Pairs ℕ → Pairs ℕ → List ℕ → ℕ × Code → Pairs ℕ → List ℕ → Type 0
AreTakenOut with old x r new y =
    (taken : Pairs ℕ) × (left : Pairs ℕ) × (with ≡ taken ++ left) × (length taken ≤ length x)
    × (new ≡ without_keys taken old) × (y ≡ written (words_of_pairs taken) x) × (r.0 ≡ length taken)
    × TakeEnds (length taken) (length x) left new r.1

-- of the room for nodes, that of so many may be used; where no memory is found, there was none for one more
abbrev pub TakingLeavesRoom : ℕ → Code → Arena (List ℕ) ℕ → Arena (List ℕ) ℕ → Type 0
TakingLeavesRoom taken code old new = UsesRoom taken old new × (code ≡ NoMemory → HasRoom old (suc taken) → ⊥)

-- the same of those that come first and have the prefix
abbrev pub AreFirstTaken : List ℕ → Pairs ℕ → Pairs ℕ → List ℕ → ℕ × Code → Pairs ℕ → List ℕ → Type 0
AreFirstTaken prefix left old x r new y = AreTakenOut (while_so (λ p. begins_with prefix p.0) left) old x r new y

-- The first of the pairs with the prefix are gone, as many as there are places for their words, and all others stay.
-- Room for as many nodes may be used; want of memory is told only where there was no room for one more.
abbrev pub IsPrefixTaken : List ℕ → Map ℕ → List ℕ × ℕ → Code → Map ℕ → List ℕ × ℕ → Type 0
IsPrefixTaken prefix old x code new y =
    AreTakenOut (with_front (key_of whole) prefix old.pairs) old.pairs x.0 (y.1, code) new.pairs y.0
    × TakingLeavesRoom y.1 code old.nodes new.nodes
