-- The part of a map's tree whose keys begin with a prefix, for whose loss there is room.
use Rattle.std.specs.Prelude.{◌≡◌, ◌≢◌, ℕ, ◌+◌, ◌-◌, ◌^◌, ◌≤◌, min, List, [], length, Option, Some, None}
use Rattle.art_nodes.specs.Name.{Name}
use Rattle.art_arena.specs.arena.Shapes.{key_of}
use Rattle.art_arena.specs.arena.Steps.{steps_of}
use Rattle.art_arena.specs.tree.Tenants.{with_front}
use Rattle.art_arena.specs.tree.TreeOf.{tree_of}
use Rattle.art_operations.specs.NodeCounts.{node_count}
use Rattle.art_operations.specs.Openings.{OpeningReads, part_reads}
use Rattle.art_operations.specs.Pairs.{IsSubtreeFor}
use Rattle.art_operations.specs.Subtrees.{HasRoomAbove, ShrinksWithout}
use Rattle.art_operations.specs.declared.delete.subtree.PreparedSubtreeDelete.{PreparedSubtreeDelete}
use Rattle.art_operations.specs.declared.delete.subtree.SubtreeDeletePoint.{SubtreeDeletePoint}
use Rattle.art_walks.specs.MapReads.{PairsWithin, of_tree}
use Rattle.art_map.specs.Contents.{Contents}

-- the part, for whose loss there is room, if there is one, and how many nodes were read to find it
pub record Block : Type 0 where
  pub part : Option PreparedSubtreeDelete
  pub reads : ℕ

module _ {K V : Type 0} (bytes : K → List ℕ) where
  -- keys begin with the prefix, and the longest front that they share with others has a width of which the loss of one
  -- changes the kind
  abbrev pub ShrinksAtCut : List ℕ → List (K × V) → Type 0
  ShrinksAtCut front pairs =
      (with_front (key_of bytes) front pairs ≡ [] → ⊥) × ShrinksWithout (key_of bytes) pairs front

  -- so many nodes of the tree of the pairs are read to find those with a prefix; the greatest count stays
  abbrev pub cut_reads : ℕ → List ℕ → List (K × V) → ℕ
  cut_reads P front pairs =
      min (of_tree (λ t. part_reads (key_of bytes) P t front) (tree_of (key_of bytes) pairs)) (2 ^ 64 - 1)

  -- So many nodes are counted where the pairs with a prefix go: those that were read to find them, and those of their
  -- part, which are freed. The greatest count stays.
  abbrev pub cut_visits : List ℕ → List (K × V) → ℕ → ℕ
  cut_visits front pairs reads =
      min (reads + node_count (key_of bytes) (with_front (key_of bytes) front pairs)) (2 ^ 64 - 1)

  -- what is read to find them, and counted with what is freed
  pub record AreCutVisits (P : ℕ) (front : List ℕ) (pairs : List (K × V)) (visits : ℕ) : Type 0 where
    pub reads : ℕ
    pub exact : reads ≡ cut_reads P front pairs
    pub least : pairs ≢ [] → 1 ≤ reads
    pub none : pairs ≡ [] → reads ≡ 0
    pub few : (longest : ℕ) → PairsWithin bytes longest pairs → OpeningReads longest (length front) 0 reads
    pub sum : visits ≡ cut_visits front pairs reads

  module _ (P : ℕ) (m : Contents K V) (front : List ℕ) where
    -- the point is that part of the tree below the root, if there is a root
    abbrev pub IsPrefixPart : Option Name → SubtreeDeletePoint → Type 0
    IsPrefixPart None point = ⊥
    IsPrefixPart (Some root) point = IsSubtreeFor bytes P m.nodes root front point

    -- that part was found, or no key begins with the prefix
    abbrev pub IsFoundPart : Option SubtreeDeletePoint → Type 0
    IsFoundPart None = with_front (key_of bytes) front m.pairs ≡ []
    IsFoundPart (Some point) = IsPrefixPart m.root point

    -- and there is room for its loss
    abbrev pub IsReadyPart : Option PreparedSubtreeDelete → Type 0
    IsReadyPart None = with_front (key_of bytes) front m.pairs ≡ []
    IsReadyPart (Some ready) = IsPrefixPart m.root ready.point × HasRoomAbove m.nodes (steps_of ready.point.path)
