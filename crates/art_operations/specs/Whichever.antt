-- Contracts speak of whatever an arena holds: that there is such a tree, or such a thing, and what is so of it.
use Rattle.std.specs.Prelude.{◌≡◌, ℕ, Bool, List, Option}
use Rattle.art_nodes.specs.Name.{Name}
use Rattle.art_arena.specs.arena.Arena.{Arena}
use Rattle.art_arena.specs.arena.Cells.{Cell}
use Rattle.art_arena.specs.arena.Descents.{leaf_where}
use Rattle.art_arena.specs.arena.Shapes.{Shape, leaves}
use Rattle.art_arena.specs.arena.Stores.{Stores, StoresBeside}

module _ {K V : Type 0} (bytes : K → List ℕ) (P : ℕ) (arena : Arena K V) (root : Name) where
  -- a tree stands below the name
  abbrev pub HasTree : Type 0
  HasTree = (s : Shape K V) × Stores bytes P arena root s

  -- this is so of the tree that stands there
  abbrev pub OfTree : (Shape K V → Type 0) → Type 0
  OfTree IsSo = (s : Shape K V) → Stores bytes P arena root s → IsSo s

  -- the answer is the first of its leaves whose key passes the test
  abbrev pub FindsLeaf : (List ℕ → Bool) → Option ℕ → Type 0
  FindsLeaf test found = OfTree (λ s. found ≡ leaf_where bytes test (leaves s))

  -- a tree of which this is so stands there, and other nodes beside it
  abbrev pub HasTreeWhere : (Shape K V → Type 0) → Type 0
  HasTreeWhere IsSo = (s : Shape K V) × (rest : _) × StoresBeside bytes P arena root rest s × IsSo s

  -- and this is so of each such tree and what stands beside it
  abbrev pub OfTreeWhere : (Shape K V → Type 0) → (Shape K V → List (Name × Cell K V) → Type 0) → Type 0
  OfTreeWhere IsSo Then = (s : Shape K V) (rest : _) → StoresBeside bytes P arena root rest s → IsSo s → Then s rest

module _ {A B : Type 0} (Are : A → B → Type 0) where
  -- some two are so
  abbrev pub HasSome : Type 0
  HasSome = (x : A) × (y : B) × Are x y

  -- this follows of each two that are
  abbrev pub OfEach : (A → B → Type 0) → Type 0
  OfEach Follow = (x : A) (y : B) → Are x y → Follow x y
