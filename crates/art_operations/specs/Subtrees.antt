-- The part of a tree whose keys begin with a prefix, and what its deletion leaves.
use Rattle.std.specs.Prelude.{◌≡◌, ◌≢◌, ℕ, ◌-◌, List, [], ◌∷◌, ◌++◌, length, take, Option, Some, None}
use Rattle.art_bytes.specs.Keys.{BeginsWith}
use Rattle.art_nodes.specs.InnerNode.{InnerNode}
use Rattle.art_nodes.specs.Kind.{shrunk_kind, CanShrink}
use Rattle.art_nodes.specs.declared.kind.NodeType.{NodeType}
use Rattle.art_nodes.specs.Name.{Name}
use Rattle.art_arena.specs.arena.Arena.{Arena, HasRoomOf, KeepsRoomOf}
use Rattle.art_arena.specs.arena.Cells.{Cell}
use Rattle.art_arena.specs.arena.Context.{Frame, path_to, leaves_before, leaves_after}
use Rattle.art_arena.specs.arena.Linked.{first_slot, last_slot}
use Rattle.art_arena.specs.arena.Places.{IsPlace}
use Rattle.art_arena.specs.arena.Shapes.{Shape, LeafAt, name_of, leaves, pairs_of, key_of}
use Rattle.art_arena.specs.arena.Steps.{Step, steps_to, steps_of}
use Rattle.art_arena.specs.tree.Fronts.{width_of}
use Rattle.art_arena.specs.tree.Kinds.{IsLimit}
use Rattle.art_arena.specs.tree.Shrinks.{IsCrossing}
use Rattle.art_arena.specs.tree.Tenants.{with_front, without_front}
use Rattle.art_operations.specs.Deletions.{HasLeavesBeside}
use Rattle.art_operations.specs.Held.{HasInner}
use Rattle.art_operations.specs.NodeCounts.{nodes_counted}
use Rattle.art_operations.specs.declared.delete.subtree.SubtreeDeletePoint.{SubtreeDeletePoint}
use Rattle.art_operations.specs.declared.delete.subtree.SubtreeDeleteResult.{SubtreeDeleteResult}

-- the longest front that keys with the prefix share with others has a width of which the loss of one changes the kind
abbrev pub ShrinksWithout : {X : Type 0} → (X → List ℕ) → List X → List ℕ → Type 0
ShrinksWithout key xs front = (m : List ℕ) × IsCrossing key xs front m × IsLimit (width_of key xs m)

module _ {K V : Type 0} (bytes : K → List ℕ) where
  -- the part of the tree that has this name stands at a place to which these last steps lead
  pub record IsPartPlace (s : Shape K V) (name : Name) (last : List Step) : Type 0 where
    pub ctx : List (Frame K V)
    pub part : Shape K V
    pub place : IsPlace bytes s ctx part
    pub here : name_of part ≡ name
    pub steps : take 2 (steps_to ctx) ≡ last

  module _ (front : List ℕ) where
    -- the leaves whose keys begin with the prefix, and the others
    abbrev pub leaves_with : List (LeafAt K V) → List (LeafAt K V)
    leaves_with ls = with_front (λ l. bytes l.key) front ls

    abbrev pub leaves_without : List (LeafAt K V) → List (LeafAt K V)
    leaves_without ls = without_front (λ l. bytes l.key) front ls

    -- the part, after a front of the prefix, has the leaves whose keys begin with the prefix, from the first to the
    -- last, and no others
    pub record IsSubtreePoint (s : Shape K V) (point : SubtreeDeletePoint) : Type 0 where
      pub named : name_of s ≡ point.root
      pub at : IsPartPlace s point.subtree (steps_of point.path)
      pub begins : BeginsWith (path_to at.ctx) front
      pub first_is : first_slot (leaves at.part) None ≡ Some point.first_leaf
      pub last_is : last_slot None (leaves at.part) ≡ Some point.last_leaf
      pub block : leaves at.part ≡ leaves_with (leaves s)
      pub others : leaves_before at.ctx ++ leaves_after at.ctx ≡ leaves_without (leaves s)

    -- there is such a part, or no key begins with the prefix
    abbrev pub IsSubtreeAnswer : Shape K V → Option SubtreeDeletePoint → Type 0
    IsSubtreeAnswer s None = leaves_with (leaves s) ≡ []
    IsSubtreeAnswer s (Some point) = IsSubtreePoint s point

    -- beside these nodes the arena has nothing but the tree of the leaves whose keys don't begin with the prefix; so
    -- many others there were, and so many nodes their part had
    pub record IsCutBeside (P : ℕ) (arena : Arena K V) (rest : List (Name × Cell K V)) (s : Shape K V)
        (result : SubtreeDeleteResult) : Type 0 where
      pub removed : result.leafs_removed ≡ length (leaves_with (leaves s))
      pub freed : result.nodes_freed ≡ nodes_counted (key_of bytes) (pairs_of (leaves_with (leaves s)))
      pub left : HasLeavesBeside bytes P arena result.new_root (leaves_without (leaves s)) rest

module _ {K V : Type 0} (arena : Arena K V) where
  -- the inner node of this name can lose a child without memory: where what is left of it belongs in the next smaller
  -- kind, there is room for a node of that kind
  abbrev pub CanLoseChild : Name → Type 0
  CanLoseChild name =
      (n : InnerNode) → HasInner arena name n → CanShrink name.kind (length n.children - 1)
      → HasRoomOf arena (shrunk_kind name.kind) 1

  -- so can the one above a place, if there is one
  abbrev pub HasRoomAbove : List Step → Type 0
  HasRoomAbove [] = Unit {0}
  HasRoomAbove (step ∷ more) = CanLoseChild step.node

module _ {K V : Type 0} (old new : Arena K V) where
  -- no kind has more room than it had, but this one
  abbrev pub GainsRoomOfOnly : NodeType → Type 0
  GainsRoomOfOnly kind = (other : NodeType) → other ≢ kind → (n : ℕ) → HasRoomOf new other n → HasRoomOf old other n

  -- none but the next smaller one of the inner node above a place; where there is no such node, none at all
  abbrev pub GainsRoomAbove : List Step → Type 0
  GainsRoomAbove [] = KeepsRoomOf new old
  GainsRoomAbove (step ∷ more) = GainsRoomOfOnly (shrunk_kind step.node.kind)
