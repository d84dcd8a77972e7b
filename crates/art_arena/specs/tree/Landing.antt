-- Where the descent of a key ends, by its bytes and those of the prefixes.
use Rattle.std.specs.Prelude.{ℕ, ◌==◌, if◌then◌else◌, List, [], ◌∷◌}
use Rattle.art_bytes.specs.Keys.{Conflict}
use Rattle.art_arena.specs.tree.Trees.{Tree, Forest, leaf, inner, no_child, child}

-- how a key meets a prefix: it ends within it or with it, has another byte there, or goes on after it by a byte and a
-- rest
pub data Passing : Type 0 where
  ends : Passing
  differs : Passing
  passes : ℕ → List ℕ → Passing

-- how k meets the prefix
abbrev pub pass : List ℕ → List ℕ → Passing
pass [] [] = ends
pass [] (b ∷ k) = passes b k
pass (a ∷ prefix) [] = ends
pass (a ∷ prefix) (b ∷ k) = if a == b then pass prefix k else differs

-- at a leaf; where the key is a front of all keys below; where it has another byte within a prefix; at a node that has
-- no child for its byte
pub data Landing (X : Type 0) : Type 0 where
  on_leaf : X → Landing X
  begins_all : Landing X
  splits_prefix : Landing X
  lacks_child : ℕ → Landing X

-- where the descent of k ends
abbrev mutual
  pub landing : {X : Type 0} → Tree X → List ℕ → Landing X
  landing (leaf x) k = on_leaf x
  landing (inner prefix children) k =
      elim (pass prefix k) [ ends ↦ begins_all | differs ↦ splits_prefix | passes b rest ↦ landing_in children b rest ]

  pub landing_in : {X : Type 0} → Forest X → ℕ → List ℕ → Landing X
  landing_in no_child b k = lacks_child b
  landing_in (child byte tree others) b k = if b == byte then landing tree k else landing_in others b k

-- the key is a front of a stored one, or that of the key
abbrev pub EndsInConflict : {X : Type 0} → (X → List ℕ) → List ℕ → Landing X → Type 0
EndsInConflict key k (on_leaf x) = Conflict k (key x)
EndsInConflict key k begins_all = Unit {0}
EndsInConflict key k splits_prefix = ⊥
EndsInConflict key k (lacks_child b) = ⊥
