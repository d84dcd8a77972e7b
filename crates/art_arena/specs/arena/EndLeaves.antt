-- The ends of what stands in order: of the leaves of a tree, and of the children of a node.
use Rattle.std.specs.Prelude.{◌≡◌, ℕ, List, take, Option, None}
use Rattle.art_nodes.specs.Name.{Name}
use Rattle.art_nodes.specs.InnerNode.{first_child, last_child}
use Rattle.art_arena.specs.arena.Shapes.{Shape, leaf_at, LeafAt}
use Rattle.art_arena.specs.arena.Linked.{first_slot, last_slot}
use Rattle.art_arena.specs.arena.Context.{Frame}
use Rattle.art_arena.specs.arena.Places.{IsPlace}
use Rattle.art_arena.specs.arena.Steps.{Step, steps_to}
use Rattle.art_arena.specs.declared.ends.End.{End}
use Rattle.art_arena.specs.declared.ends.End.TheVariants.{First, Last}

-- the slab key of the leaf at this end, if there is one
abbrev pub end_slot : {K V : Type 0} → End → List (LeafAt K V) → Option ℕ
end_slot First ls = first_slot ls None
end_slot Last ls = last_slot None ls

-- the child at this end, with its byte, if there is one
abbrev pub end_child : End → List (ℕ × Name) → Option (ℕ × Name)
end_child First children = first_child children
end_child Last children = last_child children

-- the leaf with this slab key stands at a place of the tree to which these last steps lead
pub record IsLeafPlace {K V : Type 0} (bytes : K → List ℕ) (s : Shape K V) (slot : ℕ) (last : List Step) : Type 0 where
  pub ctx : List (Frame K V)
  pub key : K
  pub value : V
  pub place : IsPlace bytes s ctx (leaf_at slot key value)
  pub steps : take 2 (steps_to ctx) ≡ last
