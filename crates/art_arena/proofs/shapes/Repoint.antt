-- The parent of a place is pointed at another node: the one write that every edit of a part's root makes.
use Rattle.std.proofs.Common.{◌≡◌, ◌≢◌, ℕ, suc, ◌+◌, List, [], ◌∷◌, ◌++◌, length, take, Option, Some, refl, sym, ap, subst, ◌∙◌, inl, inr, arith, append_assoc}
use Rattle.std.proofs.lemmas.Bool.Decides.{eqb_tells, leb_tells}
use Rattle.art_nodes.proofs.Common.{Name, InnerNode, child_at, with_child, with_children}
use Rattle.art_nodes.specs.declared.kind.NodeType.TheVariants.{Leaf}
use Rattle.art_arena.proofs.Terms.{IsKindOf, Cell, branches, UpdatesAt, Holds, Shape, Branches, no_branch, branch, name_of, children_at, width, cells, cells_in, IsUnder, Frame, plug, path_to, root_of, frame_cell, AreAround, AreBelow, cells_before, cells_after, IsNodesBeside, Step, steps_to}
use Rattle.art_arena.proofs.tree.Order.{all_right}
use Rattle.art_arena.proofs.shapes.CellLists.{Holds-write, Holds-swap}
use Rattle.art_arena.proofs.shapes.Contexts.{cells-plug, name_of-plug, IsUnder-plug}

-- the node with another child under the byte
abbrev pub repointed : InnerNode → ℕ → Name → InnerNode
repointed node byte n = with_children node (with_child node.children byte n)

module _ {K V : Type 0} where
  pub child_at-frame : (b : ℕ) (m : Name) (f : Branches K V) (after : List (ℕ × Name)) → AreBelow b f → child_at (children_at f ++ (b, m) ∷ after) b ≡ Some m
  child_at-frame b m no_branch after below = elim (eqb_tells b b) [ inl y ↦ rw y.0 refl | inr o ↦ absurd (o.1 refl) ]
  child_at-frame b m (branch c s f) after below = elim (eqb_tells c b) [
    | inl same ↦ absurd (omega (arith, same.1, below.0))
    | inr other ↦ rw other.0 (child_at-frame b m f after below.1)
  ]

  pub with_child-frame : (b : ℕ) (m n : Name) (f : Branches K V) (after : List (ℕ × Name)) → AreBelow b f → with_child (children_at f ++ (b, m) ∷ after) b n ≡ children_at f ++ (b, n) ∷ after
  with_child-frame b m n no_branch after below = elim (leb_tells (suc b) b) [
    | inl less ↦ absurd (omega (arith, less.1))
    | inr more ↦ elim (eqb_tells b b) [ inl y ↦ rw (more.0, y.0) refl | inr o ↦ absurd (o.1 refl) ]
  ]
  with_child-frame b m n (branch c s f) after below = elim (leb_tells (suc c) b) [
    | inl less ↦ rw less.0 (ap (λ xs. (c, name_of s) ∷ xs) (with_child-frame b m n f after below.1))
    | inr more ↦ absurd (omega (arith, more.1, below.0))
  ]

  -- the node of a frame, where the place has this name
  abbrev pub frame_node : ℕ → Frame K V → Name → InnerNode
  frame_node P f m =
      let kids = children_at f.before ++ (f.byte, m) ∷ children_at f.after in
      record { header = record { num_children = length kids; prefix_len = length f.prefix; stored = take P f.prefix }; children = kids }

  module _ (P : ℕ) (f : Frame K V) (outer : List (Frame K V)) (m : Name) (rest : List (Name × Cell K V)) (below : AreBelow f.byte f.before) (old : Name → Option (Cell K V)) (holds : Holds old (cells_before P (f ∷ outer) m ++ rest)) where
    -- the parent is held, and has the place's name under the place's byte
    pub frame-there : old f.name ≡ Some (branches (frame_node P f m))
    frame-there =
        let Q = λ (c : Name × Cell K V). old c.0 ≡ Some c.1 in
        (all_right Q (cells_before P outer f.name) (frame_cell P f m ∷ (cells_in P f.before ++ rest)) (rw append_assoc at holds.held)).0

    pub frame-child : child_at (frame_node P f m).children f.byte ≡ Some m
    frame-child = child_at-frame f.byte m f.before (children_at f.after) below

    -- with the place's child renamed it is that of the frame round the new name
    pub repoint : (new : Name → Option (Cell K V)) (n : Name) → UpdatesAt old new f.name (Some (branches (repointed (frame_node P f m) f.byte n))) → Holds new (cells_before P (f ∷ outer) n ++ rest)
    repoint new n update =
        let write = Holds-write old new f.name (branches (frame_node P f m)) (branches (frame_node P f n)) (cells_before P outer f.name) (cells_in P f.before ++ rest)
        (subst (λ kids. UpdatesAt old new f.name (Some (branches (with_children (frame_node P f m) kids)))) (with_child-frame f.byte m n f.before (children_at f.after) below) update)
        (rw append_assoc at holds) in
        rw append_assoc write

  -- an inner node of a canonical tree isn't a leaf
  pub frame-inner : (bytes : K → List ℕ) (f : Frame K V) (outer : List (Frame K V)) → AreAround bytes (f ∷ outer) → f.name.kind ≢ Leaf
  frame-inner bytes f outer around e =
      let none : IsKindOf Leaf (suc (width f.before + width f.after)) = subst (λ kind. IsKindOf kind (suc (width f.before + width f.after))) e around.0 in
      absurd (omega (arith, none.most))

  -- the last steps to a place tell its frames: none at the root, else the parent, and the one above it where there is one
  pub at_root : (ctx : List (Frame K V)) → take 2 (steps_to ctx) ≡ [] → ctx ≡ []
  at_root [] e = refl
  at_root (f ∷ outer) e = absurd (cc)

  pub record HasParent (ctx : List (Frame K V)) (step : Step) (more : List Step) : Type 0 where
    pub frame : Frame K V
    pub outer : List (Frame K V)
    pub is : ctx ≡ frame ∷ outer
    pub named : frame.name ≡ step.node
    pub byte : frame.byte ≡ step.byte
    pub above : take 1 (steps_to outer) ≡ more

  pub parent-of : (ctx : List (Frame K V)) (step : Step) (more : List Step) → take 2 (steps_to ctx) ≡ step ∷ more → HasParent ctx step more
  parent-of [] step more e = absurd (cc)
  parent-of (f ∷ outer) step more e =
      let first : ◌≡◌ {A = Step} (record { node = f.name; byte = f.byte }) step = cc in
      record { frame = f; outer = outer; is = refl; named = ap (λ (s : Step). s.node) first; byte = ap (λ (s : Step). s.byte) first; above = cc }

  pub record HasGrandparent (outer : List (Frame K V)) (step : Step) : Type 0 where
    pub frame : Frame K V
    pub above : List (Frame K V)
    pub is : outer ≡ frame ∷ above
    pub named : frame.name ≡ step.node
    pub byte : frame.byte ≡ step.byte

  pub grandparent-of : (outer : List (Frame K V)) (step : Step) → take 1 (steps_to outer) ≡ step ∷ [] → HasGrandparent outer step
  grandparent-of [] step e = absurd (cc)
  grandparent-of (f ∷ outer) step e =
      let first : ◌≡◌ {A = Step} (record { node = f.name; byte = f.byte }) step = cc in
      record { frame = f; above = outer; is = refl; named = ap (λ (s : Step). s.node) first; byte = ap (λ (s : Step). s.byte) first }

  pub no-grandparent : (outer : List (Frame K V)) → take 1 (steps_to outer) ≡ [] → outer ≡ []
  no-grandparent [] e = refl
  no-grandparent (f ∷ outer) e = absurd (cc)

-- the cells of a tree beside others are those around a place, those of what stands there, and the others
pub unplugged : {K V : Type 0} (P : ℕ) (at : Name → Option (Cell K V)) (rest : List (Name × Cell K V)) (ctx : List (Frame K V)) (part : Shape K V)
    → Holds at (rest ++ cells P (plug ctx part)) → Holds at (cells_before P ctx (name_of part) ++ (cells P part ++ (cells_after P ctx ++ rest)))
unplugged P at rest ctx part holds = subst (Holds at) (ap (λ cs. cs ++ rest) (cells-plug P ctx part) ∙ simp append_assoc) (Holds-swap at rest (cells P (plug ctx part)) holds)

pub plugged : {K V : Type 0} (P : ℕ) (at : Name → Option (Cell K V)) (rest : List (Name × Cell K V)) (ctx : List (Frame K V)) (part : Shape K V)
    → Holds at (cells_before P ctx (name_of part) ++ (cells P part ++ (cells_after P ctx ++ rest))) → Holds at (rest ++ cells P (plug ctx part))
plugged P at rest ctx part holds = Holds-swap at (cells P (plug ctx part)) rest (subst (Holds at) (sym (ap (λ cs. cs ++ rest) (cells-plug P ctx part) ∙ simp append_assoc)) holds)

-- a tree is made of what stands around a place and what stands there, beside others or alone
pub IsNodesBeside-plug : {K V : Type 0} (bytes : K → List ℕ) (P : ℕ) (at : Name → Option (Cell K V)) (rest : List (Name × Cell K V)) (ctx : List (Frame K V)) (part : Shape K V)
    → Holds at (cells_before P ctx (name_of part) ++ (cells P part ++ (cells_after P ctx ++ rest))) → AreAround bytes ctx → IsUnder bytes (path_to ctx) part
    → IsNodesBeside bytes P at (root_of ctx (name_of part)) rest (plug ctx part)
IsNodesBeside-plug bytes P at rest ctx part holds around under = record {
  named = name_of-plug ctx part;
  holds = plugged P at rest ctx part holds;
  under = IsUnder-plug bytes ctx part around under;
}
