-- A tree that is built of ascending pairs: what a builder and its arena have of the pairs that were taken.
use Rattle.std.specs.Prelude.{◌≡◌, ◌<◌, ℕ, List, [], ◌∷◌, ◌++◌, Option, Some, None}
use Rattle.std.specs.List.{AllByRecursion}
use Rattle.art_bytes.specs.Keys.{IsBefore}
use Rattle.art_nodes.specs.Name.{Name}
use Rattle.art_arena.specs.arena.Arena.{Arena, held_at, node_at, links_at}
use Rattle.art_arena.specs.arena.Cells.{pair, leaf_name, Holds}
use Rattle.art_arena.specs.arena.Linked.{AreLinked}
use Rattle.art_arena.specs.arena.Shapes.{pairs_of, key_of}
use Rattle.art_arena.specs.tree.Order.{AscendsByKey}
use Rattle.art_operations.specs.inner.Rebuilding.{HasSpineRoom}
use Rattle.art_operations.specs.inner.Spines.{Level, AreOpen, IsEmptySpine, open_cells, open_children, open_leaves}
use Rattle.art_operations.specs.inner.Spines.{opened}
use Rattle.art_operations.specs.inner.Unmade.{HasRoomAround}
use Rattle.art_operations.specs.declared.build.PushRefused.{PushRefused}
use Rattle.art_operations.specs.declared.build.PushRefused.TheVariants.{NotAfter, Memory}
use Rattle.art_operations.specs.declared.build.TreeBuilder.{TreeBuilder}
use Rattle.art_operations.specs.declared.build.spine.Spine.{Spine}

-- a refusal hands this key and this value back, and it is for the place exactly where this isn't after all
abbrev pub IsPushRefused : {K V : Type 0} → K → V → Type 0 → PushRefused K V → Type 0
IsPushRefused key value IsAfter (NotAfter k v) = (k ≡ key) × (v ≡ value) × (IsAfter → ⊥)
IsPushRefused key value IsAfter (Memory k v) = (k ≡ key) × (v ≡ value) × IsAfter

module _ {K V : Type 0} (bytes : K → List ℕ) where
  -- the key goes after those of all pairs: each parts from it, and goes on by a smaller byte
  abbrev pub IsAfterAll : List ℕ → List (K × V) → Type 0
  IsAfterAll key pairs = AllByRecursion (λ p. IsBefore (bytes p.0) key) pairs

  module _ (P : ℕ) (arena : Arena K V) where
    -- The arena holds the parts of the tree that are made, with the last leaf, and nothing else. The leaves are linked
    -- in order, and they have these pairs.
    pub record BuildsUpTo (spine : Spine) (last : ℕ) (pairs : List (K × V)) : Type 0 where
      pub key : K
      pub value : V
      pub levels : List (Level K V)
      pub stack_is : spine.stack.items ≡ opened levels
      pub children_are : spine.children.items ≡ open_children levels
      pub holds : Holds (node_at arena) (open_cells P levels ++ (leaf_name last, pair key value) ∷ [])
      pub ways : AreOpen bytes (bytes key) levels
      pub linked : AreLinked (links_at arena) None
          (open_leaves levels ++ record { slot = last; key = key; value = value } ∷ []) None
      pub ascends : AscendsByKey (key_of bytes) pairs
      pub pairs_are : pairs_of (open_leaves levels ++ record { slot = last; key = key; value = value } ∷ []) ≡ pairs

    abbrev pub BuildsTo : Spine → Option ℕ → List (K × V) → Type 0
    BuildsTo spine None pairs = (pairs ≡ []) × ((n : Name) → held_at arena n ≡ None) × IsEmptySpine spine
    BuildsTo spine (Some last) pairs = BuildsUpTo spine last pairs

    -- The builder has taken these pairs, which ascend. The arena holds what is made of their tree, and nothing else.
    -- There is room to make the nodes that are open.
    pub record Builds (builder : TreeBuilder) (pairs : List (K × V)) : Type 0 where
      pub built : BuildsTo builder.spine builder.last pairs
      pub room : HasSpineRoom arena builder.spine builder.room
      pub closed : builder.room ≡ 0 → builder.spine.stack.items ≡ []

-- The nodes that the builder has still to make have room in the arena, and beside them so many more of each kind.
abbrev pub HasRoomBeside : {K V : Type 0} → Arena K V → TreeBuilder → ℕ → Type 0
HasRoomBeside arena builder n = HasRoomAround arena builder.spine n

-- so many more pairs take no memory but for their leaves: the builder has room for them, and for the last leaf
abbrev pub HasRoomToPush : TreeBuilder → ℕ → Type 0
HasRoomToPush builder n = n < builder.room
