-- The open nodes of a tree that is built: their lists, and what becomes of them where the last of them is made.
use Rattle.std.proofs.Common.{◌≡◌, ◌≢◌, ℕ, suc, ◌+◌, ◌-◌, ◌<◌, ◌≤◌, max, List, [], ◌∷◌, ◌++◌, length, take, drop, slice_get, slice_index}
use Rattle.std.proofs.Common.{Some, Ok, Err, Result, IfOk, OnErr, reverse, refl, sym, ap, ap₂, subst, ◌∙◌, arith, append_assoc, append-nil, zero-le}
use Rattle.std.proofs.lemmas.List.{reverse-append, reverse-reverse}
use native.Mathlib.Numerals.{unary_clauses}
use Rattle.std.proofs.Math.Seq.{take-add, take-suc}
use Rattle.art_nodes.proofs.Common.{InnerNode, IsAscendingFrom, Name}
use Rattle.art_nodes.specs.declared.kind.NodeType.{NodeType}
use Rattle.art_nodes.specs.declared.kind.NodeType.TheVariants.{Leaf}
use Rattle.art_arena.proofs.Common.{Arena, inner_held, cell_of, node_at, Allocates, SameNodes, SameLeaves, Cell, branches, leaf_name, Holds, AreBelow, Shape, Branches, LeafAt, no_branch, branch, inner_at, name_of, children_at, join, width, leaves, leaves_in, cells, cells_in, IsUnder}
use Rattle.art_arena.proofs.Common.{AreUnder, IsKindOf, Holds-add, children_at-join, leaves_in-join, cells_in-join, width-join, length-children, AreUnder-join, nodes-update}
use Rattle.art_operations.proofs.Terms.{Open, Level, begin, begin_of, opened, open_children, open_leaves, open_cells, inner_over, IsOpen}

-- lists with an item after them

pub begin-after : (low : ℕ) (xs : List Open) (o : Open) → begin_of low (xs ++ o ∷ []) ≡ max low o.child_depth
begin-after low [] o = refl
begin-after low (x ∷ []) o = refl
begin-after low (x ∷ y ∷ xs) o = begin-after low (y ∷ xs) o

pub begin-from : (low : ℕ) (xs : List Open) → low ≤ begin_of low xs
begin-from low [] = omega arith
begin-from low (o ∷ []) = omega arith
begin-from low (o ∷ p ∷ xs) = begin-from low (p ∷ xs)

pub begin-last : (low : ℕ) (xs : List Open) (o : Open) → Some o ≡ slice_get xs (length xs - 1) → begin_of low xs ≡ max low o.child_depth
begin-last low [] o e = absurd (cc)
begin-last low (x ∷ []) o e = let same : o ≡ x = cc in ap (λ (p : Open). max low p.child_depth) (sym same)
begin-last low (x ∷ y ∷ xs) o e = begin-last low (y ∷ xs) o (simp unary_clauses (simp unary_clauses at e))

pub last-same : {X : Type 0} (xs ys : List X) (x y : X) → xs ++ x ∷ [] ≡ ys ++ y ∷ [] → (xs ≡ ys) × (x ≡ y)
last-same xs ys x y e =
    let f : x ∷ reverse xs ≡ y ∷ reverse ys = sym (reverse-append xs (x ∷ [])) ∙ ap reverse e ∙ reverse-append ys (y ∷ []) in
    let rest : reverse xs ≡ reverse ys = cc in
    let last : x ≡ y = cc in
    (sym (reverse-reverse xs) ∙ ap reverse rest ∙ reverse-reverse ys, last)

-- a front of a key in two parts
pub front-parts : (from depth : ℕ) (key : List ℕ) → from ≤ depth → take from key ++ take (depth - from) (drop from key) ≡ take depth key
front-parts from depth key before =
    let whole : from + (depth - from) ≡ depth = omega (arith, before) in
    sym (take-add from (depth - from) key) ∙ ap (λ n. take n key) whole

module _ {K V : Type 0} where
  -- an inner node that is stored, or is not, leaves the leaves alone
  pub stored-leaves : {E : Type 0} (old new : Arena K V) (r : Result Name E) (kind : NodeType) (node : InnerNode) → kind ≢ Leaf → IfOk r (λ name. (name.kind ≡ kind) × Allocates old new name (inner_held node)) → OnErr r (SameNodes old new) → SameLeaves old new
  stored-leaves old new (Ok name) kind node inner stored kept = λ slot. stored.1.updates.others (leaf_name slot) (λ e. inner (sym stored.0 ∙ sym (ap (λ (n : Name). n.kind) e)))
  stored-leaves old new (Err e) kind node inner stored kept = λ slot. kept (leaf_name slot)

  pub begin-opened : (low : ℕ) (levels : List (Level K V)) → begin_of low (opened levels) ≡ begin low levels
  begin-opened low [] = refl
  begin-opened low (l ∷ outer) = begin-after low (opened outer) (record { child_depth = suc l.depth; first = length (open_children outer) })

  -- the level of the last open node, and those above it
  pub record IsTop (levels : List (Level K V)) (outer : List Open) (top : Open) : Type 0 where
    pub level : Level K V
    pub above : List (Level K V)
    pub is : levels ≡ level ∷ above
    pub outer_is : outer ≡ opened above
    pub child_depth_is : top.child_depth ≡ suc level.depth
    pub first_is : top.first ≡ length (open_children above)

  pub top-level : (levels : List (Level K V)) (outer : List Open) (top : Open) → outer ++ top ∷ [] ≡ opened levels → IsTop levels outer top
  top-level [] [] top e = absurd (cc)
  top-level [] (o ∷ outer) top e = absurd (cc)
  top-level (l ∷ above) outer top e =
      let same = last-same outer (opened above) top _ e in
      record { level = l; above = above; is = refl; outer_is = same.0; child_depth_is = ap (λ (o : Open). o.child_depth) same.1; first_is = ap (λ (o : Open). o.first) same.1 }

  -- no more bytes lead there than to the last branch
  pub begin-least : (low depth : ℕ) (levels : List (Level K V)) → low ≤ depth → begin 0 levels ≤ depth → begin low levels ≤ depth
  begin-least low depth [] above below = above
  begin-least low depth (l ∷ outer) above below = omega (arith, above, below)

  -- branches with one more after them

  pub ascending-after : (low byte : ℕ) (name : Name) (f : Branches K V) → IsAscendingFrom low (children_at f) → AreBelow byte f → low ≤ byte → byte < 256 → IsAscendingFrom low (children_at f ++ (byte, name) ∷ [])
  ascending-after low byte name no_branch rises below above fits = (above, fits, tt)
  ascending-after low byte name (branch b s f) rises below above fits =
      (rises.0, rises.1, ascending-after (b + 1) byte name f rises.2 below.1 (omega (arith, below.0)) fits)

  pub below-after : (byte more : ℕ) (s : Shape K V) (f : Branches K V) → AreBelow byte f → byte < more → AreBelow more (join f (branch byte s no_branch))
  below-after byte more s no_branch below less = (less, tt)
  below-after byte more s (branch b t f) below less = (omega (arith, below.0, less), below-after byte more s f below.1 less)

  pub children-after : (byte : ℕ) (s : Shape K V) (f : Branches K V) → children_at (join f (branch byte s no_branch)) ≡ children_at f ++ (byte, name_of s) ∷ []
  children-after byte s f = children_at-join f (branch byte s no_branch)

  pub width-after : (byte : ℕ) (s : Shape K V) (f : Branches K V) → width (join f (branch byte s no_branch)) ≡ suc (width f)
  width-after byte s f = width-join f (branch byte s no_branch) ∙ omega arith

  pub leaves-after : (byte : ℕ) (s : Shape K V) (f : Branches K V) → leaves_in (join f (branch byte s no_branch)) ≡ leaves_in f ++ leaves s
  leaves-after byte s f = leaves_in-join f (branch byte s no_branch) ∙ ap (λ xs. leaves_in f ++ xs) (append-nil (leaves s))

  pub cells-after : (P byte : ℕ) (s : Shape K V) (f : Branches K V) → cells_in P (join f (branch byte s no_branch)) ≡ cells_in P f ++ cells P s
  cells-after P byte s f = cells_in-join P f (branch byte s no_branch) ∙ ap (λ xs. cells_in P f ++ xs) (append-nil (cells P s))

module _ {K V : Type 0} (bytes : K → List ℕ) (P : ℕ) where
  -- the last open node is made, with this part below its last branch
  module _ (old new : Arena K V) (key : List ℕ) (low : ℕ) (l : Level K V) (outer : List (Level K V)) (part : Shape K V) (root node : Name) (ls : List (LeafAt K V))
      (named : name_of part ≡ root) (low_is : low ≤ l.depth) (is_open : IsOpen bytes key l) (above : begin 0 outer ≤ l.depth) where
    abbrev byte : ℕ
    byte = slice_index key l.depth

    abbrev from : ℕ
    from = begin low outer

    abbrev prefix : List ℕ
    prefix = take (l.depth - from) (drop from key)

    abbrev pub made : Shape K V
    made = inner_at node prefix (join l.kids (branch byte part no_branch))

    pub from-within : from ≤ l.depth
    from-within = begin-least low l.depth outer low_is above

    pub made-under : IsUnder bytes (take (begin low (l ∷ outer)) key) part → IsKindOf node.kind (length (children_at l.kids ++ (byte, root) ∷ [])) → IsUnder bytes (take from key) made
    made-under under kind =
        let path : take (suc l.depth) key ≡ take l.depth key ++ byte ∷ [] = take-suc key l.depth 0 is_open.inside in
        let here : begin low (l ∷ outer) ≡ suc l.depth = omega (arith, low_is) in
        let part_under : IsUnder bytes (take l.depth key ++ byte ∷ []) part = subst (λ q. IsUnder bytes q part) (ap (λ n. take n key) here ∙ path) under in
        let count : length (children_at l.kids ++ (byte, root) ∷ []) ≡ width (join l.kids (branch byte part no_branch)) =
        ap (λ n. length (children_at l.kids ++ (byte, n) ∷ [])) (sym named) ∙ ap length (sym (children-after byte part l.kids)) ∙ length-children (join l.kids (branch byte part no_branch)) in (
          subst (IsKindOf node.kind) count kind,
          subst (λ q. AreUnder bytes q 0 (join l.kids (branch byte part no_branch))) (sym (front-parts from l.depth key from-within))
              (AreUnder-join bytes (take l.depth key) 0 byte l.kids part no_branch is_open.under is_open.below zero-le part_under tt),
        )

    pub made-holds : (rest : List (Name × Cell K V)) → Holds (node_at old) (open_cells P (l ∷ outer) ++ (cells P part ++ rest)) → Allocates old new node (inner_held (inner_over P prefix (children_at l.kids ++ (byte, root) ∷ [])))
        → Holds (node_at new) (open_cells P outer ++ (cells P made ++ rest))
    made-holds rest holds allocates =
        let below = cells_in P l.kids ++ (cells P part ++ rest) in
        let added = Holds-add (node_at old) (node_at new) node _ (open_cells P outer) below (nodes-update old new node _ allocates.updates) (ap cell_of allocates.vacant)
        (subst (Holds (node_at old)) (append_assoc (open_cells P outer) (cells_in P l.kids) (cells P part ++ rest)) holds) in
        let children : children_at l.kids ++ (byte, root) ∷ [] ≡ children_at (join l.kids (branch byte part no_branch)) =
        ap (λ n. children_at l.kids ++ (byte, n) ∷ []) (sym named) ∙ sym (children-after byte part l.kids) in
        let kept : below ≡ cells_in P (join l.kids (branch byte part no_branch)) ++ rest =
        sym (append_assoc (cells_in P l.kids) (cells P part) rest) ∙ ap (λ xs. xs ++ rest) (sym (cells-after P byte part l.kids)) in
        subst (λ c. Holds (node_at new) (open_cells P outer ++ c)) (ap₂ (λ (cs : List (ℕ × Name)) (xs : List (Name × Cell K V)). (node, branches (inner_over P prefix cs)) ∷ xs) children kept) added

    pub made-leaves : open_leaves (l ∷ outer) ++ leaves part ≡ ls → open_leaves outer ++ leaves made ≡ ls
    made-leaves e = ap (λ xs. open_leaves outer ++ xs) (leaves-after byte part l.kids) ∙ sym (append_assoc (open_leaves outer) (leaves_in l.kids) (leaves part)) ∙ e
