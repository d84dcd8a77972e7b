-- The node above a part that is to be deleted, before the deletion.
use Rattle.std.proofs.Common.{◌≡◌, ◌≢◌, ℕ, ◌-◌, ◌≤◌, List, ◌∷◌, length, Some, refl, sym, subst, arith}
use Rattle.art_nodes.proofs.Common.{InnerNode, CanShrink, Name}
use Rattle.art_nodes.specs.declared.kind.NodeType.TheVariants.{Leaf}
use Rattle.art_arena.proofs.Common.{Arena, node_at, held_at, inner_held, Cell, IsNodesBeside, Shape, leaves, Step, steps_of}
use Rattle.art_operations.specs.Held.{HasInner}
use Rattle.art_operations.proofs.Terms.{IsSubtreePoint, ShrinksWithout, SubtreeDeletePoint, IsChildPart}
use Rattle.art_operations.proofs.Crossings.{part_shrinks}
use Rattle.art_operations.proofs.Detaching.{child_part, loses_kind}
use Rattle.art_operations.proofs.TakenOut.{node, node_there, node_inner, node_count, one_less, limit_kind}

module _ {K V : Type 0} (bytes : K → List ℕ) (P : ℕ) {rest : List (Name × Cell K V)} (arena : Arena K V) (root : Name) (s : Shape K V) (point : SubtreeDeletePoint) (front : List ℕ)
    (nodes : IsNodesBeside bytes P (node_at arena) root rest s) (is : IsSubtreePoint bytes front s point) (step : Name × ℕ) (more : List Step) (some : steps_of point.path ≡ record { node = step.0; byte = step.1 } ∷ more) where
  abbrev there : IsChildPart bytes P arena rest step.0 step.1 point.subtree
  there = child_part bytes P arena root s point.subtree (steps_of point.path) (record { node = step.0; byte = step.1 }) more some step.0 refl nodes is.at

  pub parent_inner : step.0.kind ≢ Leaf
  parent_inner = node_inner there

  abbrev pub parent_node : InnerNode
  parent_node = node there

  pub parent_there : held_at arena step.0 ≡ Some (inner_held parent_node)
  parent_there = node_there there

  -- it has a child
  pub parent_some : 1 ≤ length parent_node.children
  parent_some = let all = node_count there in omega (arith, all)

  -- where it shrinks without one, the prefix tells so
  pub parent_shrinks : ((n : InnerNode) → HasInner arena step.0 n → CanShrink step.0.kind (length n.children - 1)) → ShrinksWithout (λ l. bytes l.key) (leaves s) front
  parent_shrinks can =
      let less = one_less there parent_node parent_there in
      let changes = limit_kind there (subst (CanShrink step.0.kind) (sym less) (can parent_node parent_there)) in
      part_shrinks bytes front s nodes.under point is
      (loses_kind bytes P arena root s point.subtree (steps_of point.path) (record { node = step.0; byte = step.1 }) more some step.0 refl nodes is.at changes)
