-- The pairs of a map whose keys overlap a key, and the leaf of the one that does so alone.
use Rattle.std.specs.Prelude.{◌≡◌, ℕ, Bool, List, [], ◌∷◌, filter, Option, Some, None}
use Rattle.std.specs.Map.{set_value}
use Rattle.art_operations.specs.KeyedLists.{overlaps}
use Rattle.art_map.specs.Contents.{Contents}
use Rattle.art_map.specs.Found.{HasPairAt}
use Rattle.art_map.specs.Lends.{with_value_at}

-- the test that a key overlaps these bytes
abbrev pub overlaps_query : {K : Type 0} → (K → List ℕ) → List ℕ → K → Bool
overlaps_query bytes query k = overlaps query (bytes k)

-- the item of a list that has one alone
abbrev pub lone_item : {X : Type 0} → List X → Option X
lone_item [] = None
lone_item (x ∷ []) = Some x
lone_item (x ∷ y ∷ xs) = None

module _ {K V : Type 0} where
  -- the leaf has the only pair whose key passes the test, which has another value where the leaf has; or no pair is
  -- the only one
  abbrev pub IsLoneAt : (K → Bool) → Contents K V → Option ℕ → Type 0
  IsLoneAt test m None = lone_item (filter (λ p. test p.0) m.pairs) ≡ None
  IsLoneAt test m (Some slot) =
      (p : K × V) × HasPairAt m slot p × (lone_item (filter (λ p. test p.0) m.pairs) ≡ Some p)
      × ((w : V) → (with_value_at m slot w).pairs ≡ set_value test m.pairs w)
