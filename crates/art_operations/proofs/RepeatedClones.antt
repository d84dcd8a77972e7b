-- Clones of clones: what they keep, and the pairs of a tree that is cloned once more.
use Rattle.std.proofs.Common.{◌≡◌, ℕ, zero, suc, List, [], ◌∷◌, ◌++◌, Option, Some, inl, inr, refl, ◌∙◌}
use Rattle.std.proofs.lemmas.List.{map-append}
use Rattle.art_nodes.proofs.Common.{Name}
use Rattle.art_arena.proofs.Common.{Arena, Shape, Branches, leaf_at, inner_at, no_branch, branch, leaves, leaves_in, pairs_of, StoresOnly}
use Rattle.art_operations.specs.Clones.{IsShapeClone, AreBranchClones, IsClonedTree}
use Rattle.art_operations.proofs.Terms.{AreClones, IsCloned, HasClones}
use Rattle.art_operations.specs.declared.clone.CloneResult.{CloneResult}
use Rattle.art_operations.proofs.LeafPairs.{leaf_pair}

module _ {X : Type 0} (IsClone : X → X → Type 0) where
  -- a clone is reached however many more there may be
  pub cloned-once : (n : ℕ) (x y : X) → IsClone x y → IsCloned IsClone n x y
  cloned-once zero x y h = h
  cloned-once (suc n) x y h = inl (cloned-once n x y h)

  -- what a clone keeps, all keep
  pub cloned-keeps : {Y : Type 0} (f : X → Y) → ((x y : X) → IsClone x y → f y ≡ f x) → (n : ℕ) (x y : X) → IsCloned IsClone n x y → f y ≡ f x
  cloned-keeps f keeps zero x y h = keeps x y h
  cloned-keeps f keeps (suc n) x y (inl h) = cloned-keeps f keeps n x y h
  cloned-keeps f keeps (suc n) x y (inr (between, h, last)) = keeps between y last ∙ cloned-keeps f keeps n x between h

module _ {K V : Type 0} (KeyClone : K → K → Type 0) (ValueClone : V → V → Type 0) where
  zip-append : (xs xs' ys ys' : List (K × V)) → AreClones KeyClone ValueClone xs xs' → AreClones KeyClone ValueClone ys ys' → AreClones KeyClone ValueClone (xs ++ ys) (xs' ++ ys')
  zip-append [] [] ys ys' h k = k
  zip-append [] (x ∷ xs') ys ys' h k = absurd h
  zip-append (x ∷ xs) [] ys ys' h k = absurd h
  zip-append (x ∷ xs) (x' ∷ xs') ys ys' h k = (h.0, zip-append xs xs' ys ys' h.1 k)

  -- the pairs of a clone of a shape are clones of its pairs
  mutual
    pub shape-pairs : (s t : Shape K V) → IsShapeClone KeyClone ValueClone s t → AreClones KeyClone ValueClone (pairs_of (leaves s)) (pairs_of (leaves t))
    shape-pairs (leaf_at slot k v) (leaf_at same c d) h = ((h.1, h.2), tt)
    shape-pairs (leaf_at slot k v) (inner_at m same clones) h = absurd h
    shape-pairs (inner_at n prefix kids) (leaf_at same c d) h = absurd h
    shape-pairs (inner_at n prefix kids) (inner_at m same clones) h = branch-pairs kids clones h.2

    branch-pairs : (f g : Branches K V) → AreBranchClones KeyClone ValueClone f g → AreClones KeyClone ValueClone (pairs_of (leaves_in f)) (pairs_of (leaves_in g))
    branch-pairs no_branch no_branch h = tt
    branch-pairs no_branch (branch c t clones) h = absurd h
    branch-pairs (branch b s rest) no_branch h = absurd h
    branch-pairs (branch b s rest) (branch c t clones) h =
        rw (map-append leaf_pair (leaves s) (leaves_in rest), map-append leaf_pair (leaves t) (leaves_in clones))
        (zip-append (pairs_of (leaves s)) (pairs_of (leaves t)) (pairs_of (leaves_in rest)) (pairs_of (leaves_in clones)) (shape-pairs s t h.1) (branch-pairs rest clones h.2))

  abbrev After : ℕ → List (K × V) → List (K × V) → Type 0
  After n pairs clones = AreClones (IsCloned KeyClone n) (IsCloned ValueClone n) pairs clones

  zip-more : (n : ℕ) (xs ys : List (K × V)) → After n xs ys → After (suc n) xs ys
  zip-more n [] [] h = tt
  zip-more n [] (y ∷ ys) h = absurd h
  zip-more n (x ∷ xs) [] h = absurd h
  zip-more n (x ∷ xs) (y ∷ ys) h = ((inl h.0.0, inl h.0.1), zip-more n xs ys h.1)

  zip-again : (n : ℕ) (xs ys zs : List (K × V)) → After n xs ys → AreClones KeyClone ValueClone ys zs → After (suc n) xs zs
  zip-again n [] [] [] h k = tt
  zip-again n [] [] (z ∷ zs) h k = absurd k
  zip-again n [] (y ∷ ys) zs h k = absurd h
  zip-again n (x ∷ xs) [] zs h k = absurd h
  zip-again n (x ∷ xs) (y ∷ ys) [] h k = absurd k
  zip-again n (x ∷ xs) (y ∷ ys) (z ∷ zs) h k = ((inr (y.0, h.0.0, k.0.0), inr (y.1, h.0.1, k.0.1)), zip-again n xs ys zs h.1 k.1)

  module _ (bytes : K → List ℕ) (P n : ℕ) (old : Arena K V) (pairs : List (K × V)) where
    abbrev Has : ℕ → Arena K V → Option Name → Type 0
    Has m arena root = HasClones bytes P arena (IsCloned KeyClone m) (IsCloned ValueClone m) root pairs

    -- nothing was cloned
    pub more-clones : (root : Option Name) → Has n old root → Has (suc n) old root
    more-clones root (clones, are, has) = (clones, zip-more n pairs clones are, has)

    -- the tree was cloned once more
    pub clones-again : (root : Option Name) (top : Name) (cloned : CloneResult K V P) → root ≡ Some top
        → ((s : Shape K V) → StoresOnly bytes P old top s → IsClonedTree KeyClone ValueClone bytes P s cloned) → Has n old root → Has (suc n) cloned.arena (Some cloned.root)
    clones-again root top cloned is clone (clones, are, has) =
        let (s, tree, pairs_are) = rw is at has in
        let twin = clone s tree in
        (pairs_of (leaves twin.shape), zip-again n pairs clones (pairs_of (leaves twin.shape)) are (rw pairs_are at (shape-pairs s twin.shape twin.clone)), (twin.shape, twin.is_tree, refl))
