-- Where a new key goes in a tree.
pub use Rattle.art_arena.specs.arena.Descents.{HasConflict, NoConflict}
use Rattle.std.specs.Prelude.{◌≡◌, ℕ, List, [], ◌∷◌, ◌++◌, length, drop, None, Ok, Err}
use Rattle.std.specs.List.{AllByRecursion}
use Rattle.std.specs.declared.result.Result.{Result}
use Rattle.art_bytes.specs.Keys.{BeginsWith, Conflict}
use Rattle.art_nodes.specs.InnerNode.{child_at}
use Rattle.art_nodes.specs.Name.{Name}
use Rattle.art_arena.specs.arena.Shapes.{Shape, Branches, leaf_at, inner_at, LeafAt, name_of, children_at, leaves}
use Rattle.art_arena.specs.arena.Context.{Frame, path_to}
use Rattle.art_arena.specs.arena.Places.{IsToward}
use Rattle.art_arena.specs.arena.Steps.{Step, steps_of}
use Rattle.art_operations.specs.KeyedLists.{IsBlocked}
use Rattle.art_operations.specs.Meetings.{PartAt}
use Rattle.art_operations.specs.declared.insert.point.InsertPoint.{InsertPoint}
use Rattle.art_operations.specs.declared.insert.point.InsertSearchError.{InsertSearchError}
use Rattle.art_operations.specs.declared.insert.point.InsertSearchError.TheVariants as error
use Rattle.art_operations.specs.declared.insert.point.InsertKind.{InsertKind}
use Rattle.art_operations.specs.declared.insert.point.InsertKind.TheVariants as kind

-- the refusal has the key's bytes, if there was memory for them
abbrev pub Refuses : List ℕ → InsertSearchError → Type 0
Refuses key (error.Prefix e) = e.byte_repr ≡ key
Refuses key error.Memory = Unit {0}

module _ {K V : Type 0} (bytes : K → List ℕ) (key : List ℕ) where
  -- each of these leaves has a key in conflict with this one
  abbrev pub AllConflict : List (LeafAt K V) → Type 0
  AllConflict ls = AllByRecursion (λ l. Conflict key (bytes l.key)) ls

  -- what the key meets in the part at its place, under this path: another byte within the prefix, or within the key
  -- of a leaf; no child under its next byte; or a leaf with the key
  abbrev pub MeetsAt : List ℕ → Shape K V → InsertKind → Type 0
  MeetsAt path s (kind.MismatchPrefix name parted) =
      (prefix : List ℕ) × (kids : Branches K V) × (s ≡ inner_at name prefix kids)
      × PartAt prefix (drop (length path) key) parted
  MeetsAt path s (kind.SplitLeaf slot parted) =
      (k : K) × (v : V) × (s ≡ leaf_at slot k v) × PartAt (drop (length path) (bytes k)) (drop (length path) key) parted
  MeetsAt path s (kind.IntoExisting name byte) =
      (prefix : List ℕ) × (kids : Branches K V) × (s ≡ inner_at name prefix kids)
      × (child_at (children_at kids) byte ≡ None) × BeginsWith ((path ++ prefix) ++ byte ∷ []) key
  MeetsAt path s (kind.Exact slot) = (k : K) × (v : V) × (s ≡ leaf_at slot k v) × (bytes k ≡ key)

  -- the place of the key: a part of the tree that stands after a front of the key, and what the key meets there
  pub record IsPoint (s : Shape K V) (point : InsertPoint) : Type 0 where
    pub named : name_of s ≡ point.root
    pub ctx : List (Frame K V)
    pub part : Shape K V
    pub toward : IsToward bytes key s ctx part (steps_of point.path) point.key_bytes_used
    pub meets : MeetsAt (path_to ctx) part point.insert_kind

  -- the part of the tree that has this name stands after a front of the key, at the end of these last steps, and each
  -- of its leaves has a key in conflict with this one
  pub record IsInTheWay (s : Shape K V) (root name : Name) (last : List Step) : Type 0 where
    pub named : name_of s ≡ root
    pub ctx : List (Frame K V)
    pub part : Shape K V
    pub toward : IsToward bytes key s ctx part last (length (path_to ctx))
    pub here : name_of part ≡ name
    pub conflicts : AllConflict (leaves part)

  -- a place and no conflict, or a conflict
  abbrev pub IsPlaceOrConflict : {E : Type 0} → Shape K V → Result InsertPoint E → Type 0
  IsPlaceOrConflict s (Ok point) = IsPoint s point × NoConflict bytes key (leaves s)
  IsPlaceOrConflict s (Err e) = IsBlocked (λ l. bytes l.key) key (leaves s)
