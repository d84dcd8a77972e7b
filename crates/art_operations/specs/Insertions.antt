-- What an insertion leaves.
use Rattle.std.specs.Prelude.{◌≡◌, ℕ, List, ◌∷◌, ◌++◌, take, Option, Some, None, IfErr, is_some, if◌then◌else◌}
use Rattle.std.specs.declared.result.Result.{Result}
use Rattle.art_nodes.specs.Name.{Name}
use Rattle.art_nodes.specs.Concrete.{inner_name_of}
use Rattle.art_nodes.specs.declared.leaf.LeafNode.{LeafNode}
use Rattle.art_arena.specs.arena.Arena.{Arena}
use Rattle.art_arena.specs.arena.Cells.{Cell}
use Rattle.art_arena.specs.tree.Changes.{IsPutIn}
use Rattle.art_arena.specs.arena.Shapes.{Shape, LeafAt, leaves}
use Rattle.art_arena.specs.arena.Steps.{Step}
use Rattle.art_operations.specs.DeletePoints.{IsLeafPlace}
use Rattle.art_arena.specs.arena.Stores.{StoresBeside}
use Rattle.art_operations.specs.declared.insert.result.InsertRefused.{InsertRefused}
use Rattle.art_operations.specs.declared.insert.result.InsertResult.{InsertResult}
use Rattle.art_operations.specs.declared.insert.result.PairRefused.{PairRefused}
use Rattle.art_operations.specs.declared.insert.result.PairRefused.TheVariants.{Conflict, Memory}
use Rattle.art_operations.specs.declared.insert.result.InsertParentNodeChange.{InsertParentNodeChange}
use Rattle.art_operations.specs.declared.insert.result.InsertParentNodeChange.TheVariants.{NewParent, NoChange}

-- how many leaves had the key
abbrev pub replaced_by : {K V : Type 0} → InsertResult K V → ℕ
replaced_by result = if is_some result.existing_leaf then 1 else 0

-- a refusal hands this key and this value back
abbrev pub HandsPairBack : {K V A : Type 0} → K → V → Result A (InsertRefused K V) → Type 0
HandsPairBack key value result = IfErr result (λ refused. (refused.key ≡ key) × (refused.value ≡ value))

-- the refusal is for a conflict of keys, and not for want of memory
abbrev pub IsForConflict : {K V : Type 0} → PairRefused K V → Type 0
IsForConflict (Conflict k v) = Unit {0}
IsForConflict (Memory k v) = ⊥

-- a refusal hands this key and this value back, and it is for a conflict exactly where there is one
abbrev pub IsPairRefused : {K V : Type 0} → K → V → Type 0 → PairRefused K V → Type 0
IsPairRefused key value IsBlocked (Conflict k v) = (k ≡ key) × (v ≡ value) × IsBlocked
IsPairRefused key value IsBlocked (Memory k v) = (k ≡ key) × (v ≡ value) × (IsBlocked → ⊥)

-- the last steps to the leaf, where these led to what its key met
abbrev pub steps_after : InsertParentNodeChange → List Step → List Step
steps_after (NewParent parent byte) last = take 2 (record { node = inner_name_of parent; byte = byte } ∷ last)
steps_after NoChange last = last

-- new is old with y in the place of x
abbrev pub IsReplaced : {X : Type 0} → X → X → List X → List X → Type 0
IsReplaced {X} x y old new = (front : List X) × (back : List X) × (old ≡ front ++ x ∷ back) × (new ≡ front ++ y ∷ back)

module _ {K V : Type 0} (bytes : K → List ℕ) where
  -- the leaf is put in, or stands under the name of one that had its key, which is answered with open ends
  abbrev pub IsPutOrReplaced : LeafAt K V → Option (LeafNode K V) → List (LeafAt K V) → List (LeafAt K V) → Type 0
  IsPutOrReplaced l None old new = IsPutIn l old new
  IsPutOrReplaced l (Some was) old new =
      (bytes was.key ≡ bytes l.key)
      × IsReplaced (record { slot = l.slot; key = was.key; value = was.value }) l old new
      × (was.previous ≡ None) × (was.next ≡ None)

  -- beside these nodes the arena holds nothing but the tree of these leaves with the new one, which stands where the
  -- answer says
  pub record IsInsertedBeside (P : ℕ) (arena : Arena K V) (rest : List (Name × Cell K V)) (s : Shape K V)
      (last : List Step) (key : K) (value : V) (result : InsertResult K V) : Type 0 where
    pub shape : Shape K V
    pub is_tree : StoresBeside bytes P arena result.new_root rest shape
    pub stored : IsPutOrReplaced (record { slot = result.leaf_node_ptr; key = key; value = value })
        result.existing_leaf (leaves s) (leaves shape)
    pub place : IsLeafPlace bytes shape result.leaf_node_ptr (steps_after result.parent_node_change last)
