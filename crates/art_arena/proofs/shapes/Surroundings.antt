-- The leaves around a place, and a key that goes there.
use Rattle.std.proofs.Common.{◌≡◌, ℕ, ◌+◌, ◌<◌, false, List, [], ◌∷◌, ◌++◌, Option, Some, None, refl, sym, ap, subst, ◌∙◌, inl, inr, arith}
use Rattle.std.specs.List.{AllByRecursion}
use Rattle.art_bytes.proofs.Common.{BeginsWith, Conflict, IsBefore, before_at, begins_append, begins_step, conflict_not_before, conflict_turned}
use Rattle.art_nodes.proofs.Common.{Name}
use Rattle.art_nodes.specs.declared.kind.NodeType.TheVariants.{Leaf}
use Rattle.art_arena.proofs.Terms.{IsKindOf, IsTreeBeside, IsIn, Cell, leaf_name, same_name, UpdatesAt, copies, Shape, Branches, leaf_at, inner_at, no_branch, branch, LeafAt, width, leaves, leaves_in, cells, cells_in, IsUnder, AreUnder, Links, times, IsList, IsBeside, Frame, path_to}
use Rattle.art_arena.proofs.Terms.{leaves_before, leaves_after, AreAround, AreBelow, IsPlace, HasConflict, NoConflict}
use Rattle.art_arena.proofs.tree.Order.{all_append, all_weaker}
use Rattle.art_arena.proofs.tree.Insert.{in_left, in_right}
use Rattle.art_arena.proofs.shapes.CellLists.{same_name_tells, copies-append, copies-vacant}
use Rattle.art_arena.proofs.shapes.LinkedLists.{times-append, AreLinked-frame}
use Rattle.art_arena.proofs.shapes.Contexts.{leaves-plug}
use Rattle.art_arena.proofs.shapes.Meanings.{nodes-part}
use Rattle.art_arena.proofs.shapes.Places.{leaves-begin}

-- of two keys that go on after a path by different bytes, the one with the smaller byte comes first
pub smaller_byte_first : (path : List ℕ) (b c : ℕ) (k l : List ℕ) → b < c → BeginsWith (path ++ b ∷ []) k → BeginsWith (path ++ c ∷ []) l → IsBefore k l
smaller_byte_first path b c k l less h i =
    let s = begins_step path b k h in
    let t = begins_step path c l i in
    subst (λ x. IsBefore x l) (sym s.1) (subst (IsBefore (path ++ b ∷ s.0)) (sym t.1) (before_at path b c s.0 t.0 less))

module _ {K V : Type 0} (bytes : K → List ℕ) (key : List ℕ) where
  -- these come before the key, or after it
  abbrev pub AreBefore : List (LeafAt K V) → Type 0
  AreBefore ls = AllByRecursion (λ l. IsBefore (bytes l.key) key) ls

  abbrev pub AreAfter : List (LeafAt K V) → Type 0
  AreAfter ls = AllByRecursion (λ l. IsBefore key (bytes l.key)) ls

  -- the leaves below smaller bytes come before the key, those below greater bytes after it
  pub branches-before : (path : List ℕ) (b low : ℕ) (f : Branches K V) → AreUnder bytes path low f → AreBelow b f → BeginsWith (path ++ b ∷ []) key → AreBefore (leaves_in f)
  branches-before path b low no_branch under below begins = tt
  branches-before path b low (branch c s rest) under below begins =
      all_append (λ l. IsBefore (bytes l.key) key) (leaves s) (leaves_in rest)
      (all_weaker _ (λ l. IsBefore (bytes l.key) key) (λ l h. smaller_byte_first path c b (bytes l.key) key below.0 h begins) (leaves s) (leaves-begin bytes (path ++ c ∷ []) s under.1))
      (branches-before path b (c + 1) rest under.2 below.1 begins)

  pub branches-after : (path : List ℕ) (b low : ℕ) (f : Branches K V) → AreUnder bytes path low f → b < low → BeginsWith (path ++ b ∷ []) key → AreAfter (leaves_in f)
  branches-after path b low no_branch under less begins = tt
  branches-after path b low (branch c s rest) under less begins =
      all_append (λ l. IsBefore key (bytes l.key)) (leaves s) (leaves_in rest)
      (all_weaker _ (λ l. IsBefore key (bytes l.key)) (λ l h. smaller_byte_first path b c key (bytes l.key) (omega (arith, under.0)) begins h) (leaves s) (leaves-begin bytes (path ++ c ∷ []) s under.1))
      (branches-after path b (c + 1) rest under.2 (omega (arith, under.0)) begins)

  out_of : (f : Frame K V) (outer : List (Frame K V)) → BeginsWith (path_to (f ∷ outer)) key → BeginsWith (path_to outer) key
  out_of f outer begins = begins_append (path_to outer) f.prefix key (begins_append (path_to outer ++ f.prefix) (f.byte ∷ []) key begins)

  -- the leaves before a place come before each key that goes there
  pub ctx-before : (ctx : List (Frame K V)) → AreAround bytes ctx → BeginsWith (path_to ctx) key → AreBefore (leaves_before ctx)
  ctx-before [] around begins = tt
  ctx-before (f ∷ outer) around begins =
      all_append (λ l. IsBefore (bytes l.key) key) (leaves_before outer) (leaves_in f.before)
      (ctx-before outer around.4 (out_of f outer begins))
      (branches-before (path_to outer ++ f.prefix) f.byte 0 f.before around.1 around.2 begins)

  -- and those after it after
  pub ctx-after : (ctx : List (Frame K V)) → AreAround bytes ctx → BeginsWith (path_to ctx) key → AreAfter (leaves_after ctx)
  ctx-after [] around begins = tt
  ctx-after (f ∷ outer) around begins =
      all_append (λ l. IsBefore key (bytes l.key)) (leaves_in f.after) (leaves_after outer)
      (branches-after (path_to outer ++ f.prefix) f.byte (f.byte + 1) f.after around.3 (omega arith) begins)
      (ctx-after outer around.4 (out_of f outer begins))

  -- none of these is in conflict with the key
  pub free-before : (ls : List (LeafAt K V)) → AreBefore ls → NoConflict bytes key ls
  free-before ls h = all_weaker _ (λ l. Conflict key (bytes l.key) → ⊥) (λ l b c. conflict_not_before (bytes l.key) key (conflict_turned key (bytes l.key) c) b) ls h

  pub free-after : (ls : List (LeafAt K V)) → AreAfter ls → NoConflict bytes key ls
  free-after ls h = all_weaker _ (λ l. Conflict key (bytes l.key) → ⊥) (λ l b c. conflict_not_before key (bytes l.key) c b) ls h

  module _ (whole : Shape K V) (ctx : List (Frame K V)) (part : Shape K V) (place : IsPlace bytes whole ctx part) (begins : BeginsWith (path_to ctx) key) where
    -- where no leaf below the place is in conflict with the key, none is
    pub free : NoConflict bytes key (leaves part) → NoConflict bytes key (leaves whole)
    free below =
        let Q = λ (l : LeafAt K V). Conflict key (bytes l.key) → ⊥ in
        subst (NoConflict bytes key) (sym (ap leaves place.is ∙ leaves-plug ctx part))
        (all_append Q (leaves_before ctx) (leaves part ++ leaves_after ctx) (free-before (leaves_before ctx) (ctx-before ctx place.around begins))
        (all_append Q (leaves part) (leaves_after ctx) below (free-after (leaves_after ctx) (ctx-after ctx place.around begins))))

    -- a conflict below the place is one
    pub conflict : HasConflict bytes key (leaves part) → HasConflict bytes key (leaves whole)
    conflict (l, i, h) = (l, subst (IsIn l) (sym (ap leaves place.is ∙ leaves-plug ctx part)) (in_right l (leaves_before ctx) (leaves part ++ leaves_after ctx) (in_left l (leaves part) (leaves_after ctx) i)), h)

-- the name of an inner node is no leaf's
not_leaf : (n children : ℕ) (name : Name) → IsKindOf name.kind children → same_name (leaf_name n) name ≡ false
not_leaf n children name is = elim (same_name_tells (leaf_name n) name) [
  | inl same ↦
      let none : IsKindOf Leaf children = subst (λ kind. IsKindOf kind children) (sym (ap (λ (m : Name). m.kind) same.1)) is in
      absurd (omega (arith, none.two, none.most))
  | inr other ↦ other.0
]

-- a leaf stands in the list as often as its name does among the cells
module _ {K V : Type 0} (bytes : K → List ℕ) (P : ℕ) where
  mutual
    pub times-leaves : (n : ℕ) (path : List ℕ) (s : Shape K V) → IsUnder bytes path s → times n (leaves s) ≡ copies (leaf_name n) (cells P s)
    times-leaves n path (leaf_at slot k v) under = refl
    times-leaves n path (inner_at name prefix kids) under = rw (not_leaf n (width kids) name under.0) (omega (arith, times-leaves_in n (path ++ prefix) 0 kids under.1))

    pub times-leaves_in : (n : ℕ) (path : List ℕ) (low : ℕ) (f : Branches K V) → AreUnder bytes path low f → times n (leaves_in f) ≡ copies (leaf_name n) (cells_in P f)
    times-leaves_in n path low no_branch under = refl
    times-leaves_in n path low (branch b s rest) under =
        omega (arith, times-leaves n (path ++ b ∷ []) s under.1, times-leaves_in n path (b + 1) rest under.2, times-append n (leaves s) (leaves_in rest), copies-append (leaf_name n) (cells P s) (cells_in P rest))

  -- the leaves of a tree are a list, no leaf in it twice
  pub tree-list : {rest : List (Name × Cell K V)} (at : Name → Option (Cell K V)) (root : Name) (links : ℕ → Option Links) (s : Shape K V) → IsTreeBeside bytes P at root links rest s → IsList links (leaves s)
  tree-list at root links s tree = record {
    linked = tree.linked;
    once = λ n. let one = (nodes-part bytes P at root s tree.nodes).once (leaf_name n) in omega (arith, one, times-leaves n [] s tree.nodes.under);
  }

  -- a leaf that was stored under a vacant name stands beside them
  pub new-beside : {rest : List (Name × Cell K V)} (at : Name → Option (Cell K V)) (root : Name) (links now : ℕ → Option Links) (s : Shape K V) (new : ℕ) (v : Links) → IsTreeBeside bytes P at root links rest s
      → at (leaf_name new) ≡ None → UpdatesAt links now new (Some v) → IsBeside now (leaves s) new
  new-beside {rest} at root links now s new v tree vacant update =
      let absent = copies-vacant at (rest ++ cells P s) (leaf_name new) tree.nodes.holds vacant in
      let none : times new (leaves s) ≡ 0 = omega (arith, absent, times-leaves new [] s tree.nodes.under, copies-append (leaf_name new) rest (cells P s)) in
      record {
        list = record { linked = AreLinked-frame links now new (Some v) update None (leaves s) None none tree.linked; once = (tree-list at root links s tree).once };
        apart = none;
        held = rw update.changed refl;
      }
