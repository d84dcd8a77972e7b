-- What becomes of a map into which the pairs of a buffer are put.
use Rattle.std.specs.Prelude.{◌≡◌, ◌⊎◌, ℕ, suc, ◌+◌, ◌*◌, ◌<◌, ◌≤◌, Bool, true, false, IsTrue}
use Rattle.std.specs.Prelude.{List, [], ◌∷◌, ◌++◌, length, Option, Some, None}
use Rattle.std.specs.List.{AllByRecursion}
use Rattle.art_arena.specs.arena.Arena.{HasRoom}
use Rattle.art_arena.specs.arena.Shapes.{key_of}
use Rattle.art_bytes.specs.Keys.{is_below}
use Rattle.art_map.specs.Asked.{with_pairs_put}
use Rattle.art_operations.specs.KeyedLists.{IsBlocked}
use Rattle.art_c.specs.Calls.{whole}
use Rattle.art_c.specs.Handles.{Map, Pairs}
use Rattle.art_c.specs.Layouts.{end_to_end, items_of_pairs}
use Rattle.art_c.specs.declared.code.Code.{Code}
use Rattle.art_c.specs.declared.code.Code.TheVariants.{Done, Conflict, NoMemory, NotAbove, CutOff}

-- the test that a key is above the one before it, if there is one
abbrev pub is_above : Option (List ℕ) → List ℕ → Bool
is_above None key = true
is_above (Some before) key = is_below before key

-- none of the keys and values of a buffer is long
abbrev pub AreShort : {I : Type 0} → (I → ℕ) → (I → ℕ) → List I → Type 0
AreShort key_len text_len items = AllByRecursion (λ it. (key_len it ≤ 30) × (text_len it ≤ 30)) items

module _ {V : Type 0} where
  -- the key of the last pair, if there is one
  abbrev pub last_key : Pairs V → Option (List ℕ)
  last_key [] = None
  last_key (p ∷ []) = Some p.0
  last_key (p ∷ q ∷ ps) = last_key (q ∷ ps)

  -- each key is above the one before it
  abbrev pub Rises : Pairs V → Type 0
  Rises [] = Unit {0}
  Rises (p ∷ []) = Unit {0}
  Rises (p ∷ q ∷ ps) = IsTrue (is_below p.0 q.0) × Rises (q ∷ ps)

  -- why a pair is refused, of a map with these pairs
  abbrev pub IsRefused : Option (List ℕ) → List ℕ → Pairs V → Code → Type 0
  IsRefused before key pairs NotAbove = is_above before key ≡ false
  IsRefused before key pairs Conflict = IsTrue (is_above before key) × IsBlocked (key_of whole) key pairs
  IsRefused before key pairs NoMemory =
      IsTrue (is_above before key) × (IsBlocked (key_of whole) key pairs → ⊥)
  IsRefused before key pairs _ = ⊥

  -- the bytes begin with this pair, which is told so, and these are after it
  abbrev pub BeginsWithPair : {I : Type 0} → (V → List ℕ) → (List ℕ → V → I)
      → I → List ℕ → List ℕ → V → List ℕ → Type 0
  BeginsWithPair text item is bytes key value rest = (bytes ≡ key ++ (text value ++ rest)) × (is ≡ item key value)

  module _ {I : Type 0} (text : V → List ℕ) (item : List ℕ → V → I) (key_len text_len : I → ℕ) where
    -- how it ends after the pairs that were taken: there is no other, the bytes end before it does, or it is refused
    abbrev pub LoadEnds : Option (List ℕ) → List ℕ → List I → Pairs V → Code → Type 0
    LoadEnds before bytes [] pairs code = code ≡ Done
    LoadEnds before bytes (is ∷ items) pairs code =
        ((code ≡ CutOff) × (length bytes < key_len is + text_len is))
        ⊎ ((key rest : List ℕ) × (value : V)
        × BeginsWithPair text item is bytes key value rest × IsRefused before key pairs code)

    -- The pairs that lie first in the buffer were put in, one after the other, and they rise. So many they are, and
    -- after them it ended so.
    abbrev pub IsLoaded : List ℕ → List I → Pairs V → ℕ → Code → Pairs V → ℕ → Type 0
    IsLoaded bytes items old _ code new count =
        (taken : Pairs V) × (more : List ℕ) × (left : List I)
        × (bytes ≡ end_to_end text taken ++ more) × (items ≡ items_of_pairs item taken ++ left) × (count ≡ length taken)
        × Rises taken × (new ≡ with_pairs_put whole taken old) × LoadEnds (last_key taken) more left new code

    -- The same of a map. Of its room that of two nodes a pair may be used. No memory is lacking where there was as much
    -- for the next pair, too, and nothing in the buffer is long.
    abbrev pub IsLoadedIn : List ℕ → List I → Map V → ℕ → Code → Map V → ℕ → Type 0
    IsLoadedIn bytes items old x code new count =
        IsLoaded bytes items old.pairs x code new.pairs count
        × ((n : ℕ) → 1 ≤ n → HasRoom old.nodes (n + 2 * count) → HasRoom new.nodes n)
        × (code ≡ NoMemory → HasRoom old.nodes (2 * suc count) → AreShort key_len text_len items → ⊥)
