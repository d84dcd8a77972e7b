-- The forms of what an export answers: of no map, of one that is only read, and of one that is changed.
use Rattle.std.specs.Prelude.{◌≡◌, ℕ, Option, Some, None}
use Rattle.art_c.specs.Codes.{code_number}
use Rattle.art_c.specs.Handles.{Map, MapState, own, shut, Pairs, View, state_pairs}
use Rattle.art_c.specs.declared.code.Code.{Code}
use Rattle.art_c.specs.declared.code.Code.TheVariants.{NoMap, Frozen}
use Rattle.art_c.specs.declared.handle.store.Store.{Store}

module _ {V X : Type 0} where
  -- Where no map of the kind is made, the call says so, and leaves alone what the handle has and what C lent. Else a
  -- map of the kind stays made, and what the call answers fits its state before and after, and what C lent before and
  -- after.
  abbrev pub OnFound : View V → (MapState V → X → Code → MapState V → X → Type 0)
      → Option (MapState V) → Option Store → X → Code → Option Store → X → Type 0
  OnFound view Fits None o x code new y = (code ≡ NoMap) × (new ≡ o) × (y ≡ x)
  OnFound view Fits (Some s) o x code new y = (t : MapState V) × (view new ≡ Some t) × Fits s x code t y

  abbrev pub OnMade : View V → (MapState V → X → Code → MapState V → X → Type 0)
      → Option Store → X → Code → Option Store → X → Type 0
  OnMade view Fits o x code new y = OnFound view Fits (view o) o x code new y

  -- the same, and the number of the code is returned
  abbrev pub Answers : View V → (MapState V → X → Code → MapState V → X → Type 0)
      → Option Store → X → ℕ → Option Store → X → Type 0
  Answers view Fits o x result new y = (code : Code) × (result ≡ code_number code) × OnMade view Fits o x code new y

  -- a map that is only read: what is answered of its pairs
  abbrev pub OnlyReads : (Pairs V → X → Code → X → Type 0) → MapState V → X → Code → MapState V → X → Type 0
  OnlyReads Fits s x code t y = (t ≡ s) × Fits (state_pairs s) x code y

  -- a map that is changed, unless it is frozen: then the call says so and leaves all alone
  abbrev pub Changes : (Map V → X → Code → Map V → X → Type 0) → MapState V → X → Code → MapState V → X → Type 0
  Changes Fits (own m) x code (own new) y = Fits m x code new y
  Changes Fits (own m) x code (shut new) y = ⊥
  Changes Fits (shut m) x code t y = (code ≡ Frozen) × (t ≡ shut m) × (y ≡ x)
