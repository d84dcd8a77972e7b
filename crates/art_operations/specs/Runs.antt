-- What a run leaves: an arena that holds the tree of clones of the pairs, and nothing else.
use Rattle.std.specs.Prelude.{◌≡◌, ◌⊎◌, ℕ, zero, suc, List, [], Option, Some, None}
use Rattle.std.specs.List.{AllZip}
use Rattle.art_nodes.specs.Name.{Name}
use Rattle.art_arena.specs.arena.Arena.{Arena, node_at, links_at}
use Rattle.art_arena.specs.arena.Meaning.{MeansAll}
use Rattle.art_arena.specs.arena.Shapes.{key_of}
use Rattle.art_arena.specs.tree.TreeOf.{tree_of}
use Rattle.art_arena.specs.tree.Trees.{Tree}

-- it is a clone of this, or a clone of a clone of it, with at most so many clones between
abbrev pub IsCloned : {X : Type 0} → (X → X → Type 0) → ℕ → X → X → Type 0
IsCloned IsClone zero x y = IsClone x y
IsCloned {X} IsClone (suc n) x y =
    IsCloned IsClone n x y ⊎ ((between : X) × IsCloned IsClone n x between × IsClone between y)

module _ {K V : Type 0} (KeyClone : K → K → Type 0) (ValueClone : V → V → Type 0) where
  -- these are clones of the pairs, in the same order
  abbrev pub AreClones : List (K × V) → List (K × V) → Type 0
  AreClones pairs clones = AllZip (λ p q. KeyClone p.0 q.0 × ValueClone p.1 q.1) pairs clones

module _ {K V : Type 0} (bytes : K → List ℕ) (P : ℕ) (arena : Arena K V) where
  -- The root means the tree of these pairs, and the arena holds nothing else. Where there are none it has no root, and
  -- holds nothing.
  abbrev pub HoldsTreeOf : Option Name → List (K × V) → Type 0
  HoldsTreeOf None pairs = (pairs ≡ []) × ((n : Name) → node_at arena n ≡ None)
  HoldsTreeOf (Some root) pairs =
      (t : Tree (K × V)) × (tree_of (key_of bytes) pairs ≡ Some t)
      × MeansAll bytes P (node_at arena) root (links_at arena) t

  -- the root means the tree of clones of these pairs, and the arena holds nothing else
  abbrev pub HoldsClonesOf : (K → K → Type 0) → (V → V → Type 0) → Option Name → List (K × V) → Type 0
  HoldsClonesOf KeyClone ValueClone root pairs =
      (clones : List (K × V)) × AreClones KeyClone ValueClone pairs clones × HoldsTreeOf root clones
