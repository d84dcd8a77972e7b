-- The leaves of an arena as a doubly linked list.
use Rattle.std.specs.Prelude.{◌≡◌, ◌≢◌, ℕ, ◌+◌, ◌≤◌, nat_eq, if◌then◌else◌, List, [], ◌∷◌, Option, Some, None, IsSome}
use Rattle.art_arena.specs.arena.Shapes.{LeafAt}

-- the slab keys of the leaves before and after a leaf
pub record Links : Type 0 where
  pub previous : Option ℕ
  pub next : Option ℕ

module _ {K V : Type 0} where
  -- the slab key of the first leaf, or else this one
  abbrev pub first_slot : List (LeafAt K V) → Option ℕ → Option ℕ
  first_slot [] after = after
  first_slot (l ∷ rest) after = Some l.slot

  -- the slab key of the last leaf, or else this one
  abbrev pub last_slot : Option ℕ → List (LeafAt K V) → Option ℕ
  last_slot before [] = before
  last_slot before (l ∷ rest) = last_slot (Some l.slot) rest

  -- each leaf's links name the leaves beside it, and at the ends what stands before and after the list
  abbrev pub AreLinked : (ℕ → Option Links) → Option ℕ → List (LeafAt K V) → Option ℕ → Type 0
  AreLinked links before [] after = Unit {0}
  AreLinked links before (l ∷ rest) after =
      (links l.slot ≡ Some (record { previous = before; next = first_slot rest after }))
      × AreLinked links (Some l.slot) rest after

  -- how often a slab key stands in the list
  abbrev pub times : ℕ → List (LeafAt K V) → ℕ
  times n [] = 0
  times n (l ∷ rest) = (if nat_eq n l.slot then 1 else 0) + times n rest

-- Two lists without a leaf in common: `xs` from its open start, at whose end stands a link to `after`, and `ys`, at
-- whose start stands a link back to `before`, to its open end.
pub record AreHalves {K V : Type 0} (links : ℕ
    → Option Links) (xs : List (LeafAt K V)) (after before : Option ℕ) (ys : List (LeafAt K V)) : Type 0 where
  pub left : AreLinked links None xs after
  pub right : AreLinked links before ys None
  pub once : (n : ℕ) → times n xs + times n ys ≤ 1

-- the leaf with this slab key, which is in neither list, can be linked in between them: after `previous`, before
-- `next`
pub record CanLink {K V : Type 0} (links : ℕ
    → Option Links) (xs ys : List (LeafAt K V)) (previous : Option ℕ) (leaf : ℕ) (next : Option ℕ) : Type 0 where
  pub after : Option ℕ
  pub before : Option ℕ
  pub halves : AreHalves links xs after before ys
  pub last : last_slot None xs ≡ previous
  pub first : first_slot ys None ≡ next
  pub apart : times leaf xs + times leaf ys ≡ 0
  pub held : IsSome (links leaf)

-- a list with open ends, no leaf in it twice
pub record IsList {K V : Type 0} (links : ℕ → Option Links) (ls : List (LeafAt K V)) : Type 0 where
  pub linked : AreLinked links None ls None
  pub once : (n : ℕ) → times n ls ≤ 1

-- a list with open ends, and a leaf with this slab key that isn't in it
pub record IsBeside {K V : Type 0} (links : ℕ → Option Links) (ls : List (LeafAt K V)) (leaf : ℕ) : Type 0 where
  pub list : IsList links ls
  pub apart : times leaf ls ≡ 0
  pub held : IsSome (links leaf)

-- every leaf that isn't in the list keeps its links
abbrev pub KeepsLinksOutside : {K V : Type 0} → (ℕ → Option Links) → (ℕ → Option Links) → List (LeafAt K V) → Type 0
KeepsLinksOutside old new ls = (n : ℕ) → times n ls ≡ 0 → new n ≡ old n

-- every leaf but this one and those beside it keeps its links
abbrev pub KeepsOtherLinks : (ℕ → Option Links) → (ℕ → Option Links) → Option ℕ → ℕ → Option ℕ → Type 0
KeepsOtherLinks old new previous leaf next = (n : ℕ) → n ≢ leaf → previous ≢ Some n → next ≢ Some n → new n ≡ old n
