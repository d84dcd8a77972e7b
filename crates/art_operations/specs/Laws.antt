-- The statements that the functions of `laws` ensure.
use Rattle.std.specs.Prelude.{◌≡◌, ℕ, ◌-◌, ◌≤◌, Bool, List, [], length, Option, Some, None}
use Rattle.std.specs.List.{AllByRecursion}
use Rattle.std.specs.declared.ops.Bound.{Bound}
use Rattle.art_arena.specs.tree.Fronts.{fronts_with}
use Rattle.art_arena.specs.tree.Order.{AscendsByKey}
use Rattle.art_arena.specs.tree.TreeOf.{tree_of}
use Rattle.art_arena.specs.tree.Trees.{Tree, IsCanonical, items, nodes_with}
use Rattle.art_operations.specs.Openings.{EndReads, PlaceReads, SpanReads, bound_reads, part_reads, place_reads}
use Rattle.art_operations.specs.Openings.{range_reads}

module _ {X : Type 0} where
  -- how many leaves a tree has, if there is one
  abbrev pub leaf_count : Option (Tree X) → ℕ
  leaf_count None = 0
  leaf_count (Some t) = length (items t)

  -- how many inner nodes it has whose number of children passes the test
  abbrev pub inner_count : (ℕ → Bool) → Option (Tree X) → ℕ
  inner_count test None = 0
  inner_count test (Some t) = nodes_with test t

-- The tree of pairs has a leaf for each, and as many inner nodes of a width as their keys have fronts of it.
abbrev pub CountsAreFrontsOfPairs : (X : Type 0) → Type 0
CountsAreFrontsOfPairs X = (key : X → List ℕ) (pairs : List X) → AscendsByKey key pairs
    → (leaf_count (tree_of key pairs) ≡ length pairs)
    × ((test : ℕ → Bool) → inner_count test (tree_of key pairs) ≡ fronts_with test key pairs)

-- It has fewer inner nodes than leaves, and none where there is no leaf or one.
abbrev pub HasFewInnerNodes : (X : Type 0) → Type 0
HasFewInnerNodes X = (key : X → List ℕ) (pairs : List X) → AscendsByKey key pairs
    → (test : ℕ → Bool) → inner_count test (tree_of key pairs) ≤ length pairs - 1

-- Whatever number of bytes the keys of a canonical tree have at most, its counts are few by it: those of a key's place,
-- of an end of a range, of a range, and of the part with a front.
abbrev pub CountsAreFew : (X : Type 0) → Type 0
CountsAreFew X = (key : X → List ℕ) (t : Tree X) → IsCanonical key [] t → (longest : ℕ)
    → AllByRecursion (λ x. length (key x) ≤ longest) (items t) → (P : ℕ)
    → ((k : List ℕ) → PlaceReads longest 0 (place_reads P t k))
    × ((is_start : Bool) (bound : Bound (List ℕ)) → EndReads longest 0 (bound_reads P is_start t bound))
    × ((start end : Bound (List ℕ)) → SpanReads longest 0 (range_reads key P t start end))
    × ((front : List ℕ) → SpanReads longest 0 (part_reads key P t front))
