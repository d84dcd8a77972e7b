-- Where the search for a key's place ended below a root, told of the whole tree.
use Rattle.std.proofs.Common.{◌≡◌, ℕ, List, drop, length, Option, Some, None, IfErr, refl, sym, subst}
use Rattle.art_bytes.proofs.Common.{BeginsWith}
use Rattle.art_nodes.proofs.Common.{Name}
use Rattle.art_arena.proofs.Common.{Arena, node_at, path_to, OnWayTo, Shape, erase, leaves, steps_of, Stores, StoresAt, free, conflict, IsSubtree, Step, StoresBelow, place-subtree}
use Rattle.art_operations.proofs.Terms.{AllConflict, EndsInside, HasConflict, IsInTheWay, IsPoint, NoConflict, IsEndAt, IsPlaceAt, met_by, result_at, point_at, InsertKind}
use Rattle.art_operations.specs.Points.{IsPlaceOrConflict}
use Rattle.art_operations.specs.declared.insert.point.Stop.{Stop}
use Rattle.art_operations.specs.declared.insert.point.SearchEnd.{SearchEnd}
use Rattle.art_operations.specs.declared.insert.point.SearchEnd.TheVariants as way
use Rattle.art_operations.proofs.Points.{way_at_depth, some_conflict}

-- where the key meets nothing, there is a conflict
pub conflicts : (name : Name) (end : SearchEnd) → met_by name end ≡ None → end ≡ way.Conflict
conflicts name way.Conflict none = refl
conflicts name way.Same none = absurd (cc)
conflicts name (way.PartsFromLeaf parted) none = absurd (cc)
conflicts name (way.PartsFromPrefix parted) none = absurd (cc)
conflicts name (way.NoChild byte) none = absurd (cc)

module _ {K V : Type 0} (bytes : K → List ℕ) (P : ℕ) (arena : Arena K V) (root : Name) (key : List ℕ) (stop : Stop) (s : Shape K V) (tree : Stores bytes P arena root s)
    (way : OnWayTo bytes P (node_at arena) key s stop.node (steps_of stop.path) stop.depth) where
  -- what is so of each part that stands where the search ended is so of this one
  here : {IsSo : List ℕ → Shape K V → Type 0} → ((path : List ℕ) (part : Shape K V) → StoresAt bytes P arena stop.node stop.depth path part → BeginsWith path key → IsSo path part) → IsSo (path_to way.ctx) way.part
  here is = is (path_to way.ctx) way.part (way_at_depth bytes P (node_at arena) key s stop.node (steps_of stop.path) stop.depth way) way.toward.begins

  -- a place below the root
  pub placed : (met : InsertKind) → ((path : List ℕ) (part : Shape K V) → StoresAt bytes P arena stop.node stop.depth path part → BeginsWith path key → IsPlaceAt bytes key path part met)
      → IsPoint bytes key s (point_at root stop met) × NoConflict bytes key (leaves s)
  placed met is =
      let at = here {IsSo = λ path part. IsPlaceAt bytes key path part met} is in (
        record { named = tree.part.named; ctx = way.ctx; part = way.part; toward = way.toward; meets = at.0 },
        free bytes key s way.ctx way.part way.toward.place way.toward.begins at.1,
      )

  -- a conflict, and the part in which it is
  module _ (is : (path : List ℕ) (part : Shape K V) → StoresAt bytes P arena stop.node stop.depth path part → BeginsWith path key → AllConflict bytes key (leaves part)) where
    all : AllConflict bytes key (leaves way.part)
    all = here {IsSo = λ path part. AllConflict bytes key (leaves part)} is

    pub blocked : HasConflict bytes key (leaves s)
    blocked = conflict bytes key s way.ctx way.part way.toward.place way.toward.begins (some_conflict bytes key (path_to way.ctx) way.part way.toward.place.under all)

    pub in-the-way : IsInTheWay bytes key s root stop.node (steps_of stop.path)
    in-the-way = record {
      named = tree.part.named;
      ctx = way.ctx;
      part = way.part;
      toward = record { place = way.toward.place; steps = way.toward.steps; depth_is = refl; begins = way.toward.begins };
      here = way.subtree.part.named;
      conflicts = all;
    }

-- what the search answers
module _ {K V : Type 0} (bytes : K → List ℕ) (P : ℕ) (arena : Arena K V) (root : Name) (key : List ℕ) (stop : Stop) (on : (s : Shape K V) → Stores bytes P arena root s → OnWayTo bytes P (node_at arena) key s stop.node (steps_of stop.path) stop.depth) where
  -- what is met where it ended
  abbrev pub EndsThere : Option InsertKind → Type 0
  EndsThere end = (path : List ℕ) (part : Shape K V) → StoresAt bytes P arena stop.node stop.depth path part → BeginsWith path key → IsEndAt bytes key path part end

  pub answered : (end : Option InsertKind) → EndsThere end → (s : Shape K V) → Stores bytes P arena root s → IsPlaceOrConflict bytes key s (result_at root stop end)
  answered (Some met) is s tree = placed bytes P arena root key stop s tree (on s tree) met is
  answered None is s tree = blocked bytes P arena root key stop s tree (on s tree) is

  pub refused : (end : Option InsertKind) → EndsThere end → IfErr (result_at root stop end) (λ e. (s : Shape K V) → Stores bytes P arena root s → IsInTheWay bytes key s e.root e.part (steps_of e.path))
  refused (Some met) is = tt
  refused None is = λ s tree. in-the-way bytes P arena root key stop s tree (on s tree) is

  -- a conflict where the key ends within a prefix
  pub inside : (met : Option InsertKind) → EndsThere met → (met ≡ None → (path : List ℕ) (part : Shape K V) → StoresAt bytes P arena stop.node stop.depth path part → EndsInside (erase part) (drop stop.depth key))
      → IfErr (result_at root stop met) (λ e. (s : Shape K V) → Stores bytes P arena root s → (there : IsInTheWay bytes key s e.root e.part (steps_of e.path)) × EndsInside (erase there.part) (drop (length (path_to there.ctx)) key))
  unfolding in-the-way
  inside (Some met) is ends = tt
  inside None is ends = λ s tree.
      let way = on s tree in (
        in-the-way bytes P arena root key stop s tree way is,
        subst (λ d. EndsInside (erase way.part) (drop d key)) (sym way.toward.depth_is)
            (ends refl (path_to way.ctx) way.part (way_at_depth bytes P (node_at arena) key s stop.node (steps_of stop.path) stop.depth way)),
      )

-- the part in the way of a key stands in an arena that is as it was
pub way_part : {K V : Type 0} (bytes : K → List ℕ) (P : ℕ) (key : List ℕ) (old new : Arena K V) → new ≡ old → (root name : Name) (s : Shape K V) {top : Name} {last : List Step} → Stores bytes P old root s → (way : IsInTheWay bytes key s top name last)
    → StoresBelow bytes P new name (path_to way.ctx) way.part
way_part bytes P key old new same root name s tree way =
    subst (λ a. IsSubtree bytes P (node_at a) name (path_to way.ctx) way.part) (sym same)
    (subst (λ n. IsSubtree bytes P (node_at old) n (path_to way.ctx) way.part) way.here (place-subtree bytes P (node_at old) root s way.ctx way.part tree way.toward.place))
