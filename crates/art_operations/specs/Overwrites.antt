-- A key that takes the place of all with which it can't stand together: where it goes, and what it leaves.
use Rattle.std.specs.Prelude.{◌≡◌, ◌≢◌, ℕ, true, List, [], ◌∷◌, ◌++◌, length}
use Rattle.std.specs.Prelude.{Option, Some, None, is_some, if◌then◌else◌}
use Rattle.std.specs.List.{AllByRecursion}
use Rattle.art_nodes.specs.declared.leaf.LeafNode.{LeafNode}
use Rattle.art_nodes.specs.Name.{Name}
use Rattle.art_arena.specs.arena.Arena.{Arena}
use Rattle.art_arena.specs.arena.Cells.{Cell}
use Rattle.art_arena.specs.arena.Shapes.{Shape, LeafAt, leaves, pairs_of}
use Rattle.art_arena.specs.arena.Steps.{Step, steps_of}
use Rattle.art_arena.specs.arena.Stores.{StoresBeside}
use Rattle.art_operations.specs.DeletePoints.{IsLeafPlace}
use Rattle.art_operations.specs.Insertions.{steps_after}
use Rattle.art_operations.specs.KeyedLists.{IsBlocked, overlaps}
use Rattle.art_operations.specs.Points.{IsPoint, IsInTheWay, NoConflict}
use Rattle.art_operations.specs.declared.insert.point.InsertKind.TheVariants as kind
use Rattle.art_operations.specs.declared.prefix_insert.point.PrefixInsertPoint.{PrefixInsertPoint}
use Rattle.art_operations.specs.declared.prefix_insert.point.PrefixInsertPoint.TheVariants as at
use Rattle.art_operations.specs.declared.prefix_insert.result.PrefixInsertResult.{PrefixInsertResult}

-- how many pairs are no more: one where its leaf is answered, else the leaves that gave way together
abbrev pub removed_by : {K V : Type 0} → PrefixInsertResult K V → ℕ
removed_by result = if is_some result.insert_result.existing_leaf then 1 else result.leafs_removed

-- the root that a point names, and the last steps to its place
abbrev pub root_at : PrefixInsertPoint → Name
root_at (at.InsertPoint point) = point.root
root_at (at.OverwritePoint point) = point.root

abbrev pub steps_at : PrefixInsertPoint → List Step
steps_at (at.InsertPoint point) = steps_of point.path
steps_at (at.OverwritePoint point) = steps_of point.path

-- these pairs are no more: the one of this leaf, which comes with open ends and isn't counted; or so many, none or more
-- than one, for a single one's leaf is answered
abbrev pub AreRemoved : {K V : Type 0} → List (K × V) → Option (LeafNode K V) → ℕ → Type 0
AreRemoved gone None n = (n ≡ length gone) × (n ≢ 1)
AreRemoved gone (Some was) n =
    (n ≡ 0) × (gone ≡ (was.key, was.value) ∷ []) × (was.previous ≡ None) × (was.next ≡ None)

-- a leaf has the key
abbrev pub IsExact : PrefixInsertPoint → Type 0
IsExact (at.InsertPoint point) = (leaf : ℕ) × (point.insert_kind ≡ kind.Exact leaf)
IsExact (at.OverwritePoint point) = ⊥

module _ {K V : Type 0} (bytes : K → List ℕ) where
  -- a place in the tree, or the part that is in the way
  abbrev pub IsPrefixPoint : List ℕ → Shape K V → PrefixInsertPoint → Type 0
  IsPrefixPoint key s (at.InsertPoint point) = IsPoint bytes key s point
  IsPrefixPoint key s (at.OverwritePoint point) =
      IsInTheWay bytes key s point.root point.overwrite_point (steps_of point.path)

  -- whether a leaf's key is in conflict with this one
  abbrev pub TellsConflict : List ℕ → List (LeafAt K V) → PrefixInsertPoint → Type 0
  TellsConflict key ls (at.InsertPoint point) = NoConflict bytes key ls
  TellsConflict key ls (at.OverwritePoint point) = IsBlocked (λ l. bytes l.key) key ls

  -- Beside these nodes the arena holds nothing but the tree of these leaves with the new one in the place of those
  -- whose keys overlap its key. It stands where the answer says.
  pub record IsOverwrittenBeside (P : ℕ) (arena : Arena K V) (rest : List (Name × Cell K V)) (s : Shape K V)
      (last : List Step) (key : K) (value : V) (result : PrefixInsertResult K V) : Type 0 where
    pub shape : Shape K V
    pub is_tree : StoresBeside bytes P arena result.insert_result.new_root rest shape
    pub front : List (LeafAt K V)
    pub block : List (LeafAt K V)
    pub back : List (LeafAt K V)
    pub were : leaves s ≡ front ++ (block ++ back)
    pub are : leaves shape
        ≡ front ++ record { slot = result.insert_result.leaf_node_ptr; key = key; value = value } ∷ back
    pub overlap : AllByRecursion (λ l. overlaps (bytes key) (bytes l.key) ≡ true) block
    pub removed : AreRemoved (pairs_of block) result.insert_result.existing_leaf result.leafs_removed
    pub place : IsLeafPlace bytes shape result.insert_result.leaf_node_ptr
        (steps_after result.insert_result.parent_node_change last)
