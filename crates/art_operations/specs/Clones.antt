-- A clone of a tree.
use Rattle.std.specs.Prelude.{◌≡◌, ℕ, List, Some, None}
use Rattle.art_arena.specs.arena.Linked.{first_slot, last_slot}
use Rattle.art_arena.specs.arena.Shapes.{Shape, Branches, leaf_at, inner_at, no_branch, branch, leaves}
use Rattle.art_arena.specs.arena.Stores.{StoresOnly}
use Rattle.art_operations.specs.declared.clone.CloneResult.{CloneResult}

module _ {K V : Type 0} (KeyClone : K → K → Type 0) (ValueClone : V → V → Type 0) where
  -- a shape of the same names, prefixes and bytes, with clones of the keys and values
  abbrev mutual
    pub IsShapeClone : Shape K V → Shape K V → Type 0
    IsShapeClone (leaf_at slot k v) (leaf_at same c d) = (same ≡ slot) × KeyClone k c × ValueClone v d
    IsShapeClone (inner_at n prefix kids) (inner_at m same clones) =
        (m ≡ n) × (same ≡ prefix) × AreBranchClones kids clones
    IsShapeClone s t = ⊥

    pub AreBranchClones : Branches K V → Branches K V → Type 0
    AreBranchClones no_branch no_branch = Unit {0}
    AreBranchClones (branch b s rest) (branch c t clones) =
        (c ≡ b) × IsShapeClone s t × AreBranchClones rest clones
    AreBranchClones f g = ⊥

  -- the new arena holds nothing but a clone of this tree, with these ends
  pub record IsClonedTree (bytes : K → List ℕ) (P : ℕ) (s : Shape K V) (cloned : CloneResult K V P) : Type 0 where
    pub shape : Shape K V
    pub is_tree : StoresOnly bytes P cloned.arena cloned.root shape
    pub clone : IsShapeClone s shape
    pub first : first_slot (leaves shape) None ≡ Some cloned.min_leaf
    pub last : last_slot None (leaves shape) ≡ Some cloned.max_leaf
