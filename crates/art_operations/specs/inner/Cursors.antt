-- A cursor in a list of leaves while it is edited: the list stands in two parts, and steps over lesser keys.
use Rattle.std.specs.Prelude.{◌≡◌, ℕ, List, [], ◌∷◌, ◌++◌, Option, None, Some}
use Rattle.std.specs.declared.cmp.Ordering.TheVariants.{Less, Greater}
use Rattle.art_bytes.specs.Keys.{bytes_cmp}
use Rattle.art_arena.specs.arena.Arena.{Arena, links_at, node_at}
use Rattle.art_arena.specs.arena.Cells.{leaf_name, pair, UpdatesAt}
use Rattle.art_arena.specs.arena.Linked.{AreHalves, AreLinked, IsList, Links, first_slot, last_slot}
use Rattle.art_arena.specs.arena.Shapes.{LeafAt}
use Rattle.art_operations.specs.LeafCursors.{StandsBetween}
use Rattle.art_operations.specs.LeafLists.{HoldsLeaves}
use Rattle.art_operations.specs.declared.leaf_list.LeafCursor.{LeafCursor}
use Rattle.art_operations.specs.inner.Nearest.{Compare}

module _ {K V : Type 0} (arena : Arena K V) (cursor : LeafCursor) where
  -- the first part goes on with the leaf `next`, or with none, and the second leads back to `previous`
  pub record StandsParted (front : List (LeafAt K V)) (next previous : Option ℕ) (back : List (LeafAt K V))
      : Type 0 where
    pub halves : AreHalves (links_at arena) front next previous back
    pub first : first_slot front next ≡ cursor.first
    pub before : last_slot None front ≡ cursor.before
    pub after : first_slot back None ≡ cursor.after

  -- the first leaf of the second part, which has this slab key, has this pair now, in the place of that one, and stands
  -- before the cursor
  pub record HasReplaced (slot : ℕ) (key : K) (value : V) (old : K × V) (front back : List (LeafAt K V)) : Type 0 where
    pub rest : List (LeafAt K V)
    pub had : back ≡ record { slot = slot; key = old.0; value = old.1 } ∷ rest
    pub stands : StandsBetween arena cursor (front ++ record { slot = slot; key = key; value = value } ∷ []) rest

module _ {K V : Type 0} (bytes : K → List ℕ) (key : List ℕ) where
  -- the list begins with this leaf, which has the key, or with none but greater keys
  abbrev pub StopsAfterLess : Option ℕ → List (LeafAt K V) → Type 0
  StopsAfterLess None [] = Unit {0}
  StopsAfterLess None (l ∷ rest) = bytes_cmp (bytes l.key) key ≡ Greater
  StopsAfterLess (Some leaf) [] = ⊥
  StopsAfterLess (Some leaf) (l ∷ rest) = (l.slot ≡ leaf) × (bytes l.key ≡ key)

  -- the cursor has stepped over all lesser keys at the start of the second part
  pub record HasPassed (arena : Arena K V) (cursor : LeafCursor) (found : Option ℕ)
      (front back : List (LeafAt K V)) : Type 0 where
    pub passed : List (LeafAt K V)
    pub rest : List (LeafAt K V)
    pub parts : back ≡ passed ++ rest
    pub stands : StandsBetween arena cursor (front ++ passed) rest
    pub less : Compare bytes key Less passed
    pub stops : StopsAfterLess found rest

-- the arena holds these leaves, linked in order from this one on, and nothing else
pub record HoldsFrom {K V : Type 0} (arena : Arena K V) (first : Option ℕ) (ls : List (LeafAt K V)) : Type 0 where
  pub holds : HoldsLeaves arena ls
  pub first_is : first_slot ls None ≡ first

-- the last leaf of the list is gone, and one of its pair stands before those of the other arena
pub record HasMovedOne {K V : Type 0} (from : Arena K V) (cursor : LeafCursor) (to : Arena K V) (first : Option ℕ)
    (ls moved : List (LeafAt K V)) : Type 0 where
  pub rest : List (LeafAt K V)
  pub was : LeafAt K V
  pub slot : ℕ
  pub had : ls ≡ rest ++ was ∷ []
  pub stands : StandsBetween from cursor rest []
  pub held : HoldsFrom to first (record { slot = slot; key = was.key; value = was.value } ∷ moved)

-- these leaves are a list with open ends, whose last leaf is this one; or there is none
pub record IsListTo {K V : Type 0} (links : ℕ → Option Links) (last : Option ℕ) (ls : List (LeafAt K V))
    : Type 0 where
  pub list : IsList links ls
  pub last_is : last_slot None ls ≡ last

-- a leaf of this pair stands now after the list, and all other nodes as they did, the links of leaves aside
pub record HasStoredLast {K V : Type 0} (old new : Arena K V) (slot : ℕ) (key : K) (value : V) (ls : List (LeafAt K V))
    : Type 0 where
  pub vacant : node_at old (leaf_name slot) ≡ None
  pub cells : UpdatesAt (node_at old) (node_at new) (leaf_name slot) (Some (pair key value))
  pub linked : AreLinked (links_at new) None (ls ++ record { slot = slot; key = key; value = value } ∷ []) None
