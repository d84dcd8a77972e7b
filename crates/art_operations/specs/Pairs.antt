-- An arena that has pairs, before and after one is put in or taken out.
use Rattle.std.specs.Prelude.{◌≡◌, ℕ, List, [], ◌∷◌, ◌++◌, length, Option, Some, None, Ok, Err}
use Rattle.std.specs.declared.result.Result.{Result}
use Rattle.art_nodes.specs.Name.{Name}
use Rattle.art_nodes.specs.declared.leaf.LeafNode.{LeafNode}
use Rattle.art_arena.specs.arena.Arena.{Arena, node_at}
use Rattle.art_arena.specs.arena.Cells.{Cell, leaf_name, pair, HoldsOnly}
use Rattle.art_arena.specs.tree.Changes.{put_in_order}
use Rattle.art_arena.specs.tree.Shrinks.{Shrinks}
use Rattle.art_arena.specs.tree.Tenants.{with_front, without_front}
use Rattle.art_arena.specs.declared.ends.End.{End}
use Rattle.art_arena.specs.declared.ends.End.TheVariants.{First, Last}
use Rattle.art_arena.specs.arena.Shapes.{Shape, leaves, pairs_of, key_of}
use Rattle.art_arena.specs.arena.Steps.{steps_of}
use Rattle.art_operations.specs.KeyedLists.{IsBlocked, with_key, without_key, overlapping, without_overlapping}
use Rattle.art_operations.specs.NodeCounts.{nodes_counted}
use Rattle.art_operations.specs.Overwrites.{AreRemoved, IsPrefixPoint, root_at}
use Rattle.art_operations.specs.Points.{IsInTheWay, IsPoint}
use Rattle.art_operations.specs.Subtrees.{IsSubtreePoint}
use Rattle.art_operations.specs.Whichever.{OfTree}
use Rattle.art_arena.specs.arena.Stores.{StoresBeside}
use Rattle.art_operations.specs.declared.delete.result.DeleteResult.{DeleteResult}
use Rattle.art_operations.specs.declared.delete.subtree.SubtreeDeletePoint.{SubtreeDeletePoint}
use Rattle.art_operations.specs.declared.delete.subtree.SubtreeDeleteResult.{SubtreeDeleteResult}
use Rattle.art_operations.specs.declared.insert.point.InsertPoint.{InsertPoint}
use Rattle.art_operations.specs.declared.insert.point.PrefixConflict.{PrefixConflict}
use Rattle.art_operations.specs.declared.insert.result.InsertResult.{InsertResult}
use Rattle.art_operations.specs.declared.prefix_insert.point.PrefixInsertPoint.{PrefixInsertPoint}
use Rattle.art_operations.specs.declared.prefix_insert.result.PrefixInsertResult.{PrefixInsertResult}

-- nodes of an arena, each under its name
abbrev pub Nodes : Type 0 → Type 0 → Type 0
Nodes K V = List (Name × Cell K V)

-- the pair of a leaf, if there is one
abbrev pub pair_in : {K V : Type 0} → Option (LeafNode K V) → List (K × V)
pair_in None = []
pair_in (Some leaf) = (leaf.key, leaf.value) ∷ []

-- the list has this item at an end, and these beside it
abbrev pub IsAtEnd : {X : Type 0} → End → X → List X → List X → Type 0
IsAtEnd First x rest xs = xs ≡ x ∷ rest
IsAtEnd Last x rest xs = xs ≡ rest ++ x ∷ []

module _ {K V : Type 0} (bytes : K → List ℕ) where
  -- the loss of the pair at this end makes a node smaller
  abbrev pub ShrinksAtEnd : End → List (K × V) → Type 0
  ShrinksAtEnd end pairs =
      (p : K × V) × (rest : List (K × V)) × IsAtEnd end p rest pairs × Shrinks (key_of bytes) pairs (key_of bytes p)

  -- the pairs with this one at the place of its key, where no other stands then
  abbrev pub with_pair_put : K → V → List (K × V) → List (K × V)
  with_pair_put k v pairs = put_in_order (key_of bytes) (k, v) (without_key (key_of bytes) (bytes k) pairs)

  -- the pairs with this one at the place of its key, where no other stands then whose key overlaps its key
  abbrev pub with_pair_over : K → V → List (K × V) → List (K × V)
  with_pair_over k v pairs = put_in_order (key_of bytes) (k, v) (without_overlapping (key_of bytes) (bytes k) pairs)

module _ {K V : Type 0} (bytes : K → List ℕ) (P : ℕ) (arena : Arena K V) where
  -- Beside the nodes of the list the arena holds nothing but the tree of these pairs, and its leaves are linked in
  -- order. Where there are no pairs it has no root, and holds nothing but these nodes.
  abbrev pub HasPairsBeside : Option Name → List (K × V) → Nodes K V → Type 0
  HasPairsBeside None pairs rest = (pairs ≡ []) × HoldsOnly (node_at arena) rest
  HasPairsBeside (Some top) pairs rest = (s : _) × StoresBeside bytes P arena top rest s × (pairs_of (leaves s) ≡ pairs)

  -- the same with nothing beside
  abbrev pub HasPairs : Option Name → List (K × V) → Type 0
  HasPairs root pairs = HasPairsBeside root pairs []

  -- it has these pairs beside the nodes, and this is so of their tree: where a key goes in it
  pub record HasPairsWhere (root : Name) (IsAt : Shape K V → Type 0) (pairs : List (K × V))
      (rest : Nodes K V) : Type 0 where
    pub shape : Shape K V
    pub is_tree : StoresBeside bytes P arena root rest shape
    pub place : IsAt shape
    pub pairs_are : pairs_of (leaves shape) ≡ pairs

  -- and the key's place among them is this point; without one there is no pair, and so no place
  abbrev pub CanPut : Option InsertPoint → List ℕ → List (K × V) → Nodes K V → Type 0
  CanPut None key pairs rest = HasPairsBeside None pairs rest
  CanPut (Some point) key pairs rest = HasPairsWhere point.root (λ s. IsPoint bytes key s point) pairs rest

  -- the same of where the key goes whichever keys it is in conflict with
  abbrev pub CanPutOver : Option PrefixInsertPoint → List ℕ → List (K × V) → Nodes K V → Type 0
  CanPutOver None key pairs rest = HasPairsBeside None pairs rest
  CanPutOver (Some over) key pairs rest = HasPairsWhere (root_at over) (λ s. IsPrefixPoint bytes key s over) pairs rest

  -- a place for a key with which no pair is in conflict, or a conflict
  abbrev pub IsPlaced : {E : Type 0} → List ℕ → Result (Option InsertPoint) E → List (K × V) → Nodes K V → Type 0
  IsPlaced key (Ok place) pairs rest = CanPut place key pairs rest × (IsBlocked (key_of bytes) key pairs → ⊥)
  IsPlaced key (Err e) pairs rest = IsBlocked (key_of bytes) key pairs

  -- it has the pairs with this one, in the leaf that is answered, and the pair that had the key is answered
  pub record HasPut (key : K) (value : V) (result : InsertResult K V) (pairs : List (K × V))
      (rest : Nodes K V) : Type 0 where
    pub has : HasPairsBeside (Some result.new_root) (with_pair_put bytes key value pairs) rest
    pub old : pair_in result.existing_leaf ≡ with_key (key_of bytes) (bytes key) pairs
    pub leaf : node_at arena (leaf_name result.leaf_node_ptr) ≡ Some (pair key value)

  -- it has the pairs without the one with the key, which is answered; or no pair had the key, and it has them all
  abbrev pub HasTaken : Option Name → List ℕ → Option (DeleteResult K V) → List (K × V) → Nodes K V → Type 0
  HasTaken root key None pairs rest = (with_key (key_of bytes) key pairs ≡ []) × HasPairsBeside root pairs rest
  HasTaken root key (Some deleted) pairs rest =
      (with_key (key_of bytes) key pairs ≡ pair_in (Some deleted.deleted_leaf))
      × HasPairsBeside deleted.new_root (without_key (key_of bytes) key pairs) rest

  -- it has the pairs without the one at this end, which is answered; or there was none
  abbrev pub HasTakenEnd : Option Name → End → Option (DeleteResult K V) → List (K × V) → Nodes K V → Type 0
  HasTakenEnd root end None pairs rest = (pairs ≡ []) × HasPairsBeside root pairs rest
  HasTakenEnd root end (Some deleted) pairs rest =
      (others : List (K × V)) × IsAtEnd end (deleted.deleted_leaf.key, deleted.deleted_leaf.value) others pairs
      × HasPairsBeside deleted.new_root others rest

  -- it has the pairs whose keys don't begin with the prefix; so many others are no more, and so many nodes
  pub record HasCut (front : List ℕ) (result : SubtreeDeleteResult) (pairs : List (K × V))
      (rest : Nodes K V) : Type 0 where
    pub removed : result.leafs_removed ≡ length (with_front (key_of bytes) front pairs)
    pub freed : result.nodes_freed ≡ nodes_counted (key_of bytes) (with_front (key_of bytes) front pairs)
    pub left : HasPairsBeside result.new_root (without_front (key_of bytes) front pairs) rest

  -- it has the pairs with this one, in the leaf that is answered, in the place of those whose keys overlap its key, and
  -- these are told
  pub record HasPutOver (key : K) (value : V) (result : PrefixInsertResult K V) (pairs : List (K × V))
      (rest : Nodes K V) : Type 0 where
    pub has : HasPairsBeside (Some result.insert_result.new_root) (with_pair_over bytes key value pairs) rest
    pub removed : AreRemoved (overlapping (key_of bytes) (bytes key) pairs)
        result.insert_result.existing_leaf result.leafs_removed
    pub leaf : node_at arena (leaf_name result.insert_result.leaf_node_ptr) ≡ Some (pair key value)

  -- where this key goes below the root, whatever tree stands there; without a root it is nowhere. The word holds in one
  -- way at most, so it can be remembered beside a loan of the arena
  abbrev pub IsPlaceFor : Option Name → List ℕ → Option InsertPoint → Type 0
  IsPlaceFor None key None = Unit {0}
  IsPlaceFor None key (Some point) = ⊥
  IsPlaceFor (Some root) key None = ⊥
  IsPlaceFor (Some root) key (Some point) = OfTree bytes P arena root (λ s. ∥ IsPoint bytes key s point ∥₁)

  -- the part below this root whose keys begin with the prefix, whatever tree stands there; it can be remembered too
  abbrev pub IsSubtreeFor : Name → List ℕ → SubtreeDeletePoint → Type 0
  IsSubtreeFor root front point = OfTree bytes P arena root (λ s. ∥ IsSubtreePoint bytes front s point ∥₁)

  -- the part of the tree below the root is told whose keys are in conflict with this one; without a root there is none
  abbrev pub TellsConflict : Option Name → List ℕ → PrefixConflict → Type 0
  TellsConflict None key conflict = ⊥
  TellsConflict (Some root) key conflict = OfTree bytes P arena root
      (λ s. IsInTheWay bytes key s conflict.root conflict.part (steps_of conflict.path))
