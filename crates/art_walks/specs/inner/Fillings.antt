-- Which nodes of a shape fit what stands directly below them, so that whole prefixes can be read from keys.
use Rattle.std.specs.Prelude.{◌≡◌, ℕ, ◌+◌, ◌≤◌, List, [], ◌∷◌, ◌++◌, length, take, drop, map, Option, Some}
use Rattle.std.specs.List.{AllByRecursion}
use Rattle.art_nodes.specs.Name.{Name}
use Rattle.art_nodes.specs.InnerNode.{InnerNode, names_of}
use Rattle.art_arena.specs.arena.Cells.{Cell, pair, branches, leaf_name}
use Rattle.art_arena.specs.arena.Meaning.{IsPart}
use Rattle.art_arena.specs.tree.Kinds.{IsKindOf}
use Rattle.art_arena.specs.arena.Shapes.{Shape, Branches, leaf_at, inner_at, no_branch, branch, width}
use Rattle.art_walks.specs.declared.checker.keys.Place.{Place}
use Rattle.art_walks.specs.inner.Skeletons.{HasKinds}

-- the names of places
abbrev pub placed : List Place → List Name
placed places = map (λ p. p.name) places

module _ {K V : Type 0} (bytes : K → List ℕ) where
  -- the bytes of the first key below
  abbrev mutual
    pub first_key : Shape K V → List ℕ
    first_key (leaf_at slot k v) = bytes k
    first_key (inner_at n prefix kids) = first_key_in kids

    pub first_key_in : Branches K V → List ℕ
    first_key_in no_branch = []
    first_key_in (branch b s rest) = first_key s

  module _ (P : ℕ) where
    -- Each node fits: it has as many children as its kind; the first key below it has its prefix, as the header stores
    -- it; and the first key below each child goes on with the child's byte after the same bytes.
    abbrev mutual
      pub Fits : ℕ → Shape K V → Type 0
      Fits d (leaf_at slot k v) = d ≤ length (bytes k)
      Fits d (inner_at n prefix kids) =
          IsKindOf n.kind (width kids) × (d + length prefix ≤ length (first_key_in kids))
          × (take P prefix ≡ take P (take (length prefix) (drop d (first_key_in kids))))
          × FitIn (d + length prefix) (first_key_in kids) 0 kids

      pub FitIn : ℕ → List ℕ → ℕ → Branches K V → Type 0
      FitIn e key low no_branch = Unit {0}
      FitIn e key low (branch b s rest) =
          (low ≤ b) × (take (e + 1) (first_key s) ≡ take e key ++ b ∷ []) × Fits (e + 1) s × FitIn e key (b + 1) rest

    module _ (at : Name → Option (Cell K V)) where
      -- a shape stands below the name, each node with as many children as its kind
      pub record HasShape (n : Name) : Type 0 where
        pub shape : Shape K V
        pub part : IsPart P at n shape
        pub kinds : HasKinds shape

      -- a leaf with this slab key has a key of these bytes
      abbrev pub LeafHasKey : ℕ → List ℕ → Type 0
      LeafHasKey slot key = (k : K) × (v : V) × (at (leaf_name slot) ≡ Some (pair k v)) × (bytes k ≡ key)

      -- a shape stands at the place, and the first leaf below is as told
      pub record StandsAsTold (place : Place) : Type 0 where
        pub below : HasShape place.name
        pub first : LeafHasKey place.first (first_key below.shape)
        pub deep : place.depth ≤ length (first_key below.shape)

      -- each node below the name fits, where so many bytes lead there
      abbrev pub FitBelow : ℕ → Name → Type 0
      FitBelow d n = (s : Shape K V) → IsPart P at n s → Fits d s

      abbrev pub FitAt : Place → Type 0
      FitAt place = FitBelow place.depth place.name

      -- the first key below the child goes on with its byte after so many bytes of the key, and each node below fits
      abbrev pub ChildFits : ℕ → List ℕ → ℕ × Name → Type 0
      ChildFits e key c =
          (s : Shape K V) → IsPart P at c.1 s → (take (e + 1) (first_key s) ≡ take e key ++ c.0 ∷ []) × Fits (e + 1) s

      -- what is left to be seen is whether all fits at these places, which are those of the children
      pub record Await (e : ℕ) (key : List ℕ) (children : List (ℕ × Name)) (places : List Place) : Type 0 where
        pub stand : AllByRecursion StandsAsTold places
        pub names : placed places ≡ names_of children
        pub enough : AllByRecursion FitAt places → AllByRecursion (ChildFits e key) children
        pub needed : AllByRecursion (ChildFits e key) children → AllByRecursion FitAt places

      -- the node at a place fits if all fits at the places that wait now
      pub record Opens (place : Place) (old new : List Place) : Type 0 where
        pub node : InnerNode
        pub held : at place.name ≡ Some (branches node)
        pub places : List Place
        pub wait : new ≡ old ++ places
        pub stand : AllByRecursion StandsAsTold places
        pub names : placed places ≡ names_of node.children
        pub enough : AllByRecursion FitAt places → FitAt place
        pub needed : FitAt place → AllByRecursion FitAt places
