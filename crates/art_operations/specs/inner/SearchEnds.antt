-- Where the search for a key's place ends.
use Rattle.std.specs.Prelude.{◌≡◌, ◌⊎◌, ℕ, List, ◌∷◌, ◌++◌, Option, Some, None, Ok, Err}
use Rattle.std.specs.declared.result.Result.{Result}
use Rattle.art_bytes.specs.Keys.{BeginsWith, IsProperFront}
use Rattle.art_nodes.specs.Name.{Name}
use Rattle.art_arena.specs.arena.Shapes.{Shape, leaves}
use Rattle.art_arena.specs.tree.Landing.{ends, pass}
use Rattle.art_arena.specs.tree.Trees.{Tree, leaf, inner}
use Rattle.art_operations.specs.Meetings.{PartAt}
use Rattle.art_operations.specs.Points.{AllConflict, MeetsAt, NoConflict}
use Rattle.art_operations.specs.declared.insert.point.InsertKind.{InsertKind}
use Rattle.art_operations.specs.declared.insert.point.InsertKind.TheVariants as kind
use Rattle.art_operations.specs.declared.insert.point.InsertPoint.{InsertPoint}
use Rattle.art_operations.specs.declared.insert.point.PrefixConflict.{PrefixConflict}
use Rattle.art_operations.specs.declared.insert.point.Stop.{Stop}
use Rattle.art_operations.specs.declared.insert.point.SearchEnd.{SearchEnd}
use Rattle.art_operations.specs.declared.insert.point.SearchEnd.TheVariants as way

-- what the key meets at the node of this name, where the search ends there in this way and in no conflict
abbrev pub met_by : Name → SearchEnd → Option InsertKind
met_by name way.Same = Some (kind.Exact name.slot)
met_by name (way.PartsFromLeaf parted) = Some (kind.SplitLeaf name.slot parted)
met_by name (way.PartsFromPrefix parted) = Some (kind.MismatchPrefix name parted)
met_by name (way.NoChild byte) = Some (kind.IntoExisting name byte)
met_by name way.Conflict = None

-- the place of a key that meets this where a descent from this root stopped
abbrev pub point_at : Name → Stop → InsertKind → InsertPoint
point_at root stop met = record { root = root; path = stop.path; key_bytes_used = stop.depth; insert_kind = met }

-- what a search that stopped here answers: the place of a key that meets this, or the part whose keys are in conflict
abbrev pub result_at : Name → Stop → Option InsertKind → Result InsertPoint PrefixConflict
result_at root stop (Some met) = Ok (point_at root stop met)
result_at root stop None = Err (record { root = root; path = stop.path; part = stop.node })

-- how a search ends at a leaf, by the rest of its key and that of the new one
abbrev pub IsEndAtLeaf : List ℕ → List ℕ → SearchEnd → Type 0
IsEndAtLeaf old new way.Same = old ≡ new
IsEndAtLeaf old new (way.PartsFromLeaf parted) = PartAt old new parted
IsEndAtLeaf old new way.Conflict = IsProperFront old new ⊎ IsProperFront new old
IsEndAtLeaf old new (way.PartsFromPrefix parted) = ⊥
IsEndAtLeaf old new (way.NoChild byte) = ⊥

-- and at an inner node, by its prefix and the rest of the key
abbrev pub IsEndAtInner : List ℕ → List ℕ → SearchEnd → Type 0
IsEndAtInner prefix rest (way.PartsFromPrefix parted) = PartAt prefix rest parted
IsEndAtInner prefix rest (way.NoChild byte) = (more : List ℕ) × (rest ≡ prefix ++ byte ∷ more)
IsEndAtInner prefix rest way.Conflict = BeginsWith rest prefix
IsEndAtInner prefix rest way.Same = ⊥
IsEndAtInner prefix rest (way.PartsFromLeaf parted) = ⊥

-- a key that goes no further from an inner node ends within its prefix, or with it
abbrev pub EndsInside : {X : Type 0} → Tree X → List ℕ → Type 0
EndsInside (leaf x) k = Unit {0}
EndsInside (inner prefix children) k = pass prefix k ≡ ends

module _ {K V : Type 0} (bytes : K → List ℕ) (key : List ℕ) where
  -- the key meets this in the part under this path, where its place is
  abbrev pub IsPlaceAt : List ℕ → Shape K V → InsertKind → Type 0
  IsPlaceAt path s met = MeetsAt bytes key path s met × NoConflict bytes key (leaves s)

  -- the place, or each leaf of the part is in conflict with the key
  abbrev pub IsEndAt : List ℕ → Shape K V → Option InsertKind → Type 0
  IsEndAt path s (Some met) = IsPlaceAt path s met
  IsEndAt path s None = AllConflict bytes key (leaves s)

  -- how the search ends at the part under this path, which has this name: the key's place, or a conflict, is here
  abbrev pub IsSearchEnd : List ℕ → Shape K V → Name → SearchEnd → Type 0
  IsSearchEnd path s name way = IsEndAt path s (met_by name way)
