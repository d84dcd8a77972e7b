-- The way of a key down a tree: where it turns at a node, and the one leaf at which it can end.
use Rattle.std.specs.Prelude.{◌≡◌, ℕ, ◌+◌, ◌-◌, ◌^◌, ◌≤◌, ◌⊎◌, min, Bool, true, List, [], ◌∷◌, ◌++◌, length, drop}
use Rattle.std.specs.Prelude.{take, filter, get_or, Option, Some, None}
use Rattle.std.specs.List.{AllByRecursion}
use Rattle.art_bytes.specs.Keys.{BeginsWith, Conflict}
use Rattle.art_nodes.specs.Name.{Name}
use Rattle.art_nodes.specs.InnerNode.{InnerNode, child_at}
use Rattle.art_nodes.specs.declared.leaf.LeafNode.{LeafNode}
use Rattle.art_arena.specs.tree.Changes.{IsIn}
use Rattle.art_arena.specs.tree.Paths.{look_up_path, path_of}
use Rattle.art_arena.specs.arena.Cells.{Cell}
use Rattle.art_arena.specs.arena.Shapes.{Shape, Branches, leaf_at, inner_at, no_branch, branch, children_at, erase}
use Rattle.art_arena.specs.arena.Shapes.{LeafAt}
use Rattle.art_arena.specs.arena.Linked.{first_slot}
use Rattle.art_arena.specs.arena.Context.{Frame, path_to}
use Rattle.art_arena.specs.arena.Meaning.{IsSubtree}
use Rattle.art_arena.specs.arena.Places.{IsPlace, IsToward}
use Rattle.art_arena.specs.arena.Steps.{Step, steps_to, steps_of}
use Rattle.art_arena.specs.arena.Found.{Located, located}
use Rattle.art_arena.specs.declared.descent.Landed.{Landed}

-- the key goes on from this inner node, which stands after `depth` of its bytes: by this byte to this child, after
-- `next` bytes
pub record GoesOn (key : List ℕ) (depth : ℕ) (node : InnerNode) (byte : ℕ) (child : Name) (next : ℕ) : Type 0 where
  pub next_is : next ≡ depth + node.header.prefix_len + 1
  pub within : next ≤ length key
  pub byte_is : get_or key (depth + node.header.prefix_len) 0 ≡ byte
  pub child_is : child_at node.children byte ≡ Some child

-- the key doesn't go on: it ends within the prefix or with it, or there is no child under its next byte
abbrev pub GoesNoFurther : List ℕ → ℕ → InnerNode → Type 0
GoesNoFurther key depth node =
    (length key ≤ depth + node.header.prefix_len)
    ⊎ (child_at node.children (get_or key (depth + node.header.prefix_len) 0) ≡ None)

-- two keys have the same first bytes, so many
abbrev pub AgreesUpTo : ℕ → List ℕ → List ℕ → Type 0
AgreesUpTo n a b = take n a ≡ take n b

-- so much of the node's prefix as is stored is what the key has after `depth` bytes
abbrev pub MeetsStored : List ℕ → ℕ → InnerNode → Type 0
MeetsStored key depth node = BeginsWith node.header.stored (drop depth key)

-- so many nodes were read as the key's path has; the greatest count stays
abbrev pub ReadsPath : {K V : Type 0} → List ℕ → Shape K V → ℕ → ℕ → Type 0
ReadsPath key s old new = new ≡ min (old + length (path_of (erase s) key)) (2 ^ 64 - 1)

-- so many nodes were read as a look-up of the key reads, where a node stores `P` bytes of its prefix; the greatest
-- count stays
abbrev pub ReadsLookUp : {K V : Type 0} → ℕ → List ℕ → Shape K V → ℕ → ℕ → Type 0
ReadsLookUp P key s old new = new ≡ min (old + length (look_up_path P (erase s) key)) (2 ^ 64 - 1)

-- A guide stands for prefixes that aren't wholly stored. Wherever the key leads from here by all its bytes, the guide
-- begins with the path there, and with the whole prefix of the node there after it.
module _ {K V : Type 0} (key guide : List ℕ) where
  abbrev mutual
    pub IsGuide : List ℕ → Shape K V → Type 0
    IsGuide path (leaf_at slot k v) = BeginsWith path guide
    IsGuide path (inner_at n prefix kids) = BeginsWith (path ++ prefix) guide × GuidesBelow (path ++ prefix) kids

    pub GuidesBelow : List ℕ → Branches K V → Type 0
    GuidesBelow path no_branch = Unit {0}
    GuidesBelow path (branch byte s rest) =
        (BeginsWith (path ++ byte ∷ []) key → IsGuide (path ++ byte ∷ []) s) × GuidesBelow path rest

-- only fronts of the key pass the test
abbrev pub TakesFronts : List ℕ → (List ℕ → Bool) → Type 0
TakesFronts key test = (k : List ℕ) → test k ≡ true → BeginsWith k key

module _ {K V : Type 0} (bytes : K → List ℕ) where
  -- the leaves whose keys pass the test
  abbrev pub passing : (List ℕ → Bool) → List (LeafAt K V) → List (LeafAt K V)
  passing test ls = filter (λ l. test (bytes l.key)) ls

  -- the slab key of the first of them
  abbrev pub leaf_where : (List ℕ → Bool) → List (LeafAt K V) → Option ℕ
  leaf_where test ls = first_slot (passing test ls) None

  -- a leaf's key is a front of this one, or this one of it
  abbrev pub HasConflict : List ℕ → List (LeafAt K V) → Type 0
  HasConflict key ls = (l : LeafAt K V) × IsIn l ls × Conflict key (bytes l.key)

  abbrev pub NoConflict : List ℕ → List (LeafAt K V) → Type 0
  NoConflict key ls = AllByRecursion (λ l. Conflict key (bytes l.key) → ⊥) ls

  -- these leaves, each with the steps to it
  abbrev pub located_where : (List ℕ → Bool) → List (Located K V) → List (Located K V)
  located_where test ls = filter (λ l. test (bytes l.leaf.key)) ls

  -- the leaf with this slab key stands at a place of the tree to which these last steps lead, and no other leaf's key
  -- is the key or a front of it
  pub record LandsAt (key : List ℕ) (s : Shape K V) (slot : ℕ) (leaf : LeafNode K V) (last : List Step) : Type 0 where
    pub ctx : List (Frame K V)
    pub place : IsPlace bytes s ctx (leaf_at slot leaf.key leaf.value)
    pub steps : take 2 (steps_to ctx) ≡ last
    pub only : (test : List ℕ → Bool) → TakesFronts key test
        → located_where test (located [] s)
        ≡ located_where test
        (record { leaf = record { slot = slot; key = leaf.key; value = leaf.value }; steps = steps_to ctx } ∷ [])

  -- no leaf's key is the key or a front of it
  abbrev pub HasNoFront : List ℕ → Shape K V → Type 0
  HasNoFront key s = (test : List ℕ → Bool) → TakesFronts key test → located_where test (located [] s) ≡ []

  -- where a descent ends
  abbrev pub Lands : List ℕ → Shape K V → Option (Landed K V) → Type 0
  Lands key s None = HasNoFront key s
  Lands key s (Some landed) = LandsAt key s landed.name landed.leaf.now (steps_of landed.path)

  -- the key goes no further from the part under this path: it leaves the prefix, ends within it, or no child has its
  -- next byte
  abbrev pub Stops : List ℕ → List ℕ → Shape K V → Type 0
  Stops key path s =
      (n : Name) (prefix : List ℕ) (kids : Branches K V) → s ≡ inner_at n prefix kids
      → (byte : ℕ) → BeginsWith ((path ++ prefix) ++ byte ∷ []) key → child_at (children_at kids) byte ≡ None

module _ {K V : Type 0} (bytes : K → List ℕ) (P : ℕ) (at : Name → Option (Cell K V)) (key : List ℕ)
    (s : Shape K V) where
  -- the way to this name, which these last steps end, is a front of the key of so many bytes
  pub record OnWayTo (current : Name) (last : List Step) (depth : ℕ) : Type 0 where
    pub ctx : List (Frame K V)
    pub part : Shape K V
    pub toward : IsToward bytes key s ctx part last depth
    pub subtree : IsSubtree bytes P at current (path_to ctx) part
