-- A cursor in a list of leaves: where it stands, and what its edits leave.
use Rattle.std.specs.Prelude.{◌≡◌, ◌≢◌, ℕ, ◌+◌, List, [], ◌∷◌, ◌++◌, length, Option, None, Some}
use Rattle.std.specs.List.{AllByRecursion, cons_option}
use Rattle.art_bytes.specs.Keys.{IsBefore}
use Rattle.art_nodes.specs.Name.{Name}
use Rattle.art_nodes.specs.declared.kind.NodeType.{NodeType}
use Rattle.art_nodes.specs.declared.kind.NodeType.TheVariants.{Leaf}
use Rattle.art_arena.specs.arena.Arena.{Arena, node_at, HasRoomOf}
use Rattle.art_arena.specs.arena.Cells.{Cell}
use Rattle.art_arena.specs.arena.Linked.{first_slot, last_slot}
use Rattle.art_arena.specs.arena.Shapes.{LeafAt, pairs_of, key_of}
use Rattle.art_arena.specs.tree.Order.{AscendsByKey}
use Rattle.art_operations.specs.Builders.{IsAfterAll}
use Rattle.art_operations.specs.KeyedLists.{with_key}
use Rattle.art_operations.specs.LeafLists.{HoldsLeaves}
use Rattle.art_operations.specs.Pairs.{with_pair_put}
use Rattle.art_operations.specs.declared.leaf_list.LeafCursor.{LeafCursor}

-- what stood under a name stands there, the links of leaves aside
abbrev pub KeepsCells : {K V : Type 0} → Arena K V → Arena K V → Type 0
KeepsCells {K} {V} old new = (n : Name) (c : Cell K V) → node_at old n ≡ Some c → node_at new n ≡ Some c

-- what room there was for inner nodes of each kind stays
abbrev pub KeepsInnerRoom : {K V : Type 0} → Arena K V → Arena K V → Type 0
KeepsInnerRoom old new = (kind : NodeType) → kind ≢ Leaf → (n : ℕ) → HasRoomOf old kind n → HasRoomOf new kind n

module _ {K V : Type 0} (arena : Arena K V) (cursor : LeafCursor) where
  -- the arena holds these leaves, linked in order, and nothing else; the cursor stands between the two parts
  pub record StandsBetween (front back : List (LeafAt K V)) : Type 0 where
    pub leaves : HoldsLeaves arena (front ++ back)
    pub first : first_slot (front ++ back) None ≡ cursor.first
    pub before : last_slot None front ≡ cursor.before
    pub after : first_slot back None ≡ cursor.after

  -- a leaf of this pair stands now before the cursor, after the first part
  abbrev pub HasInserted : K → V → List (LeafAt K V) → List (LeafAt K V) → Type 0
  HasInserted key value front back =
      (slot : ℕ) × StandsBetween (front ++ record { slot = slot; key = key; value = value } ∷ []) back

  -- the last leaf of the first part is gone, and this is its pair; or there was none
  abbrev pub HasRemoved : Option (K × V) → List (LeafAt K V) → List (LeafAt K V) → Type 0
  HasRemoved None front back = (front ≡ []) × StandsBetween front back
  HasRemoved (Some p) front back =
      (rest : List (LeafAt K V)) × (slot : ℕ) × (front ≡ rest ++ record { slot = slot; key = p.0; value = p.1 } ∷ [])
      × StandsBetween rest back

-- The last leaves of the list, so many, stand in the other arena now, under new names, linked from this one on. The
-- cursor stands after the others.
pub record HasMoved {K V : Type 0} (from : Arena K V) (cursor : LeafCursor) (to : Arena K V) (first : Option ℕ)
    (count : ℕ) (ls : List (LeafAt K V)) : Type 0 where
  pub left : List (LeafAt K V)
  pub moved : List (LeafAt K V)
  pub stands : StandsBetween from cursor left []
  pub held : HoldsLeaves to moved
  pub first_is : first_slot moved None ≡ first
  pub joined : pairs_of left ++ pairs_of moved ≡ pairs_of ls
  pub long : length left + count ≡ length ls

module _ {K V : Type 0} (arena : Arena K V) (cursor : LeafCursor) where
  module _ (bytes : K → List ℕ) where
    -- The arena holds the leaves of these pairs, which ascend, linked in order, and nothing else. The cursor stands
    -- among them.
    pub record StandsInList (pairs : List (K × V)) : Type 0 where
      pub front : List (LeafAt K V)
      pub back : List (LeafAt K V)
      pub stands : StandsBetween arena cursor front back
      pub pairs_are : pairs_of (front ++ back) ≡ pairs
      pub ascends : AscendsByKey (key_of bytes) pairs

    -- and the keys of all before it come before this one
    pub record StandsBelow (pairs : List (K × V)) (key : List ℕ) : Type 0 where
      pub among : StandsInList pairs
      pub passed : IsAfterAll bytes key (pairs_of among.front)

    -- and those of all after it come after this one: the cursor stands at the place of the key, which none has
    pub record StandsAtPlace (pairs : List (K × V)) (key : List ℕ) : Type 0 where
      pub below : StandsBelow pairs key
      pub above : AllByRecursion (λ p. IsBefore key (bytes p.0)) (pairs_of below.among.back)

    -- the pairs have this one now in the place of the one that is answered, if one had its key; the cursor stands
    -- just after it
    pub record HasPutIn (key : K) (value : V) (old : Option (K × V)) (pairs : List (K × V)) : Type 0 where
      pub old_is : cons_option old [] ≡ with_key (key_of bytes) (bytes key) pairs
      pub among : StandsInList (with_pair_put bytes key value pairs)
      pub passed : (next : List ℕ) → IsBefore (bytes key) next → IsAfterAll bytes next (pairs_of among.front)
      pub last : (rest : List (K × V)) × (pairs_of among.front ≡ rest ++ (key, value) ∷ [])

    -- these pairs, which ascend, can be put in from there on: the keys of all before the cursor come before the first
    pub record StandsAhead (pairs left : List (K × V)) : Type 0 where
      pub among : StandsInList pairs
      pub ahead : (p : K × V) (rest : List (K × V)) → left ≡ p ∷ rest
          → IsAfterAll bytes (bytes p.0) (pairs_of among.front)
