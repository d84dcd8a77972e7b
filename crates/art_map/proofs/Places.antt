-- A leaf that is met where a key goes, told by the pairs.
use Rattle.std.specs.Prelude.{MatchOption}
use Rattle.std.proofs.Common.{◌≡◌, ℕ, List, bytes_eq, Option, Some, None, refl}
use mathlib.Core.HLevel.{⊥_prop}
use mathlib.Core.Logic.{∥∥₁_elim}
use Rattle.art_nodes.proofs.Common.{Name}
use Rattle.art_arena.proofs.Common.{Arena}
use Rattle.art_operations.proofs.Common.{IsPlaceFor}
use Rattle.art_operations.specs.declared.insert.point.InsertPoint.{InsertPoint}
use Rattle.art_operations.specs.declared.insert.point.InsertKind.TheVariants as kind
use Rattle.art_operations.proofs.KnownPlaces.{met-found}
use Rattle.art_map.proofs.Terms.{contents, has_bytes, IsMap, IsFound}
use Rattle.art_map.proofs.Maps.{looked-up}

module _ {K V : Type 0} (bytes : K → List ℕ) (is_key : K → Type 0) (P : ℕ) (arena : Arena K V) (key : List ℕ) where
  -- at a point
  pub met-at : (root : Option Name) → IsMap bytes is_key P arena root → (point : InsertPoint) → ∥ IsPlaceFor bytes P arena root key (Some point) ∥₁ → (found : Option ℕ)
      → MatchOption found ((slot : ℕ) → point.insert_kind ≡ kind.Exact slot → ⊥) (λ slot. point.insert_kind ≡ kind.Exact slot) → IsFound (has_bytes bytes key) (contents arena root) found
  met-at None map point known found met = absurd (∥∥₁_elim known ⊥_prop (λ x. x))
  met-at (Some root) map point known found met = looked-up bytes is_key P arena (Some root) root refl map (λ k. bytes_eq k key) found (met-found bytes P arena key root point known found met)

  -- nowhere
  pub met-nowhere : (root : Option Name) → ∥ IsPlaceFor bytes P arena root key None ∥₁ → IsFound (has_bytes bytes key) (contents arena root) None
  met-nowhere None known = refl
  met-nowhere (Some root) known = absurd (∥∥₁_elim known ⊥_prop (λ x. x))
