-- What comes of a visitor's visits: of a node, and of some nodes in turn.
use Rattle.std.specs.Prelude.{◌≡◌, List, [], ◌∷◌, Option, Some, None}
use Rattle.art_nodes.specs.declared.leaf.LeafNode.{LeafNode}
use Rattle.art_nodes.specs.InnerNode.{names_of}
use Rattle.art_nodes.specs.Name.{Name}
use Rattle.art_arena.specs.arena.Arena.{Arena, Held, leaf_held, inner_held, held_at}

-- the names of the children of what stands there, by ascending byte
abbrev pub children_in : {K V : Type 0} → Option (Held K V) → List Name
children_in None = []
children_in (Some (leaf_held leaf)) = []
children_in (Some (inner_held node)) = names_of node.children

-- `O` is what comes of a visit by a visitor, which it leaves in another state
module _ {K V Visitor O : Type 0} (leaf_gives : Visitor → LeafNode K V → Visitor → O → Type 0)
    (inner_gives : Visitor → Arena K V → Name → Visitor → O → Type 0) (arena : Arena K V) where
  -- what stands under this name is visited: a leaf, or an inner node
  abbrev pub HeldIsVisited : Name → Option (Held K V) → Visitor → Visitor → O → Type 0
  HeldIsVisited n None old new output = ⊥
  HeldIsVisited n (Some (leaf_held leaf)) old new output = leaf_gives old leaf new output
  HeldIsVisited n (Some (inner_held node)) old new output = inner_gives old arena n new output

  -- the node under this name is visited
  abbrev pub IsVisited : Name → Visitor → Visitor → O → Type 0
  IsVisited n old new output = HeldIsVisited n (held_at arena n) old new output

  module _ (default_gives : Visitor → O → Type 0) (combine_gives : Visitor → O → O → O → Type 0) where
    -- these nodes are visited in turn, and what comes of each is combined with what came before
    abbrev pub AreVisitedAfter : List Name → Visitor → O → Visitor → O → Type 0
    AreVisitedAfter [] old before new output = (new ≡ old) × (output ≡ before)
    AreVisitedAfter (n ∷ rest) old before new output =
        (next : Visitor) × (later : O) × (both : O) × IsVisited n old next later
        × combine_gives next before later both × AreVisitedAfter rest next both new output

    -- these nodes are visited in turn, and what comes of them is combined from the first on; where there are none, the
    -- default comes
    abbrev pub AreVisited : List Name → Visitor → Visitor → O → Type 0
    AreVisited [] old new output = (new ≡ old) × default_gives old output
    AreVisited (n ∷ rest) old new output =
        (next : Visitor) × (first : O) × IsVisited n old next first × AreVisitedAfter rest next first new output
