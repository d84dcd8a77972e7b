-- From an arena to a shape: what a check has met so far, as a shape whose last parts are still to come. Prefixes play no part here.
use Rattle.std.proofs.Common.{◌≡◌, ℕ, List, [], ◌∷◌, ◌++◌, length, Option, Some, refl, sym, ap, ap₂, subst, ◌∙◌, append_assoc}
use Rattle.std.proofs.lemmas.List.{append-nil}
use Rattle.art_nodes.proofs.Common.{Name, names_of}
use Rattle.art_arena.proofs.Common.{Cell, pair, leaf_name, AreHeld, IsKindOf, Shape, Branches, leaf_at, inner_at, no_branch, branch, name_of, children_at, width, cells, cells_in, node_of, all_left, all_right, cell_children, same_cell, length-children}
use Rattle.art_walks.proofs.Terms.{HasKinds, HaveKinds, cell_names, IsSkeleton}

module _ {K V : Type 0} where
  -- the names of some shapes, and their kinds
  abbrev pub roots_of : List (Shape K V) → List Name
  roots_of [] = []
  roots_of (s ∷ more) = name_of s ∷ roots_of more

  abbrev pub AllHaveKinds : List (Shape K V) → Type 0
  AllHaveKinds [] = Unit {0}
  AllHaveKinds (s ∷ more) = HasKinds s × AllHaveKinds more

  pub cell_names-append : (xs ys : List (Name × Cell K V)) → cell_names (xs ++ ys) ≡ cell_names xs ++ cell_names ys
  cell_names-append [] ys = refl
  cell_names-append (x ∷ xs) ys = ap (λ rest. x.0 ∷ rest) (cell_names-append xs ys)

  module _ (P : ℕ) where
    -- the cells of some shapes, in order
    abbrev pub cells_all : List (Shape K V) → List (Name × Cell K V)
    cells_all [] = []
    cells_all (s ∷ more) = cells P s ++ cells_all more

    -- shapes below the children of a node, one for each, and what stands after them
    pub record StandBelow (at : Name → Option (Cell K V)) (children : List (ℕ × Name)) (all rest : List (Shape K V)) : Type 0 where
      pub kids : Branches K V
      pub children_are : children_at kids ≡ children
      pub cells_are : cells_all all ≡ cells_in P kids ++ cells_all rest
      pub kinds : HaveKinds kids

    -- the shapes below these names begin with those below the children of a node
    pub split_at : (at : Name → Option (Cell K V)) (children : List (ℕ × Name)) (names : List Name) (all : List (Shape K V)) → roots_of all ≡ names_of children ++ names → AllHaveKinds all
        → (rest : List (Shape K V)) × (roots_of rest ≡ names) × AllHaveKinds rest × StandBelow at children all rest
    split_at at [] names all e kinds = (all, e, kinds, record { kids = no_branch; children_are = refl; cells_are = refl; kinds = tt })
    split_at at (c ∷ children) names [] e kinds = absurd (cc)
    split_at at (c ∷ children) names (s ∷ all) e kinds =
        let first : name_of s ≡ c.1 = cc in
        let more : roots_of all ≡ names_of children ++ names = cc in
        let later = split_at at children names all more kinds.1 in (
          later.0,
          later.1,
          later.2,
          record {
            kids = branch c.0 s later.3.kids;
            children_are = ap₂ (λ (n : Name) (cs : List (ℕ × Name)). (c.0, n) ∷ cs) first later.3.children_are;
            cells_are = ap (λ xs. cells P s ++ xs) later.3.cells_are ∙ sym (append_assoc (cells P s) (cells_in P later.3.kids) (cells_all later.0));
            kinds = (kinds.0, later.3.kinds);
          },
        )

  module _ (P : ℕ) (at : Name → Option (Cell K V)) (root : Name) where
    -- Whatever stands below the names that wait, it makes a shape below the root with the names that were met.
    abbrev pub Completes : List Name → List Name → Type 0
    Completes met waiting =
        (all : List (Shape K V)) → roots_of all ≡ waiting → AreHeld at (cells_all P all) → AllHaveKinds all → IsSkeleton P at root (met ++ cell_names (cells_all P all))

    -- At the start nothing was met.
    pub completes-start : Completes [] (root ∷ [])
    completes-start [] e held kinds = absurd (cc)
    completes-start (s ∷ t ∷ all) e held kinds = absurd (cc)
    completes-start (s ∷ []) e held kinds = record {
      shape = s;
      root_is = (cc);
      held = all_left (λ (c : Name × Cell K V). at c.0 ≡ Some c.1) (cells P s) [] held;
      kinds = kinds.0;
      names_are = sym (cell_names-append (cells P s) [] ∙ append-nil (cell_names (cells P s)));
    }

    -- At the end the whole shape was.
    pub completes-end : (met : List Name) → Completes met [] → IsSkeleton P at root met
    completes-end met complete = subst (IsSkeleton P at root) (append-nil met) (complete [] refl tt tt)

    -- A leaf is met.
    pub completes-leaf : (met waiting : List Name) (slot : ℕ) (k : K) (v : V) → at (leaf_name slot) ≡ Some (pair k v) → Completes met (leaf_name slot ∷ waiting) → Completes (met ++ leaf_name slot ∷ []) waiting
    completes-leaf met waiting slot k v there complete all e held kinds =
        subst (IsSkeleton P at root) (sym (append_assoc met (leaf_name slot ∷ []) (cell_names (cells_all P all))))
        (complete (leaf_at slot k v ∷ all) (ap (λ ns. leaf_name slot ∷ ns) e) (there, held) (tt, kinds))

    -- An inner node is met, whose children then wait. Its whole prefix may be any that the header doesn't contradict.
    pub completes-inner : (met waiting : List Name) (n : Name) (prefix : List ℕ) (children : List (ℕ × Name)) → at n ≡ Some (node_of P prefix children) → IsKindOf n.kind (length children)
        → Completes met (n ∷ waiting) → Completes (met ++ n ∷ []) (names_of children ++ waiting)
    completes-inner met waiting n prefix children there kind complete all e held kinds =
        let parts = split_at P at children waiting all e kinds in
        let below = parts.3 in
        let names : cell_names (cells_all P all) ≡ cell_names (cells_in P below.kids ++ cells_all P parts.0) = ap cell_names below.cells_are in
        let children_held : at n ≡ Some (node_of P prefix (children_at below.kids)) = there ∙ ap (λ cs. Some (node_of P prefix cs)) (sym below.children_are) in
        let many : IsKindOf n.kind (width below.kids) = subst (IsKindOf n.kind) (sym (ap length below.children_are) ∙ length-children below.kids) kind in
        subst (IsSkeleton P at root) (ap (λ ns. met ++ n ∷ ns) (sym names) ∙ sym (append_assoc met (n ∷ []) (cell_names (cells_all P all))))
        (complete (inner_at n prefix below.kids ∷ parts.0) (ap (λ ns. n ∷ ns) parts.1) (children_held, subst (AreHeld at) below.cells_are held) ((many, below.kinds), parts.2))

  -- Two shapes that an arena has below one name have the same cells.
  module _ (P : ℕ) (at : Name → Option (Cell K V)) where
    mutual
      pub same_cells : (s t : Shape K V) → AreHeld at (cells P s) → AreHeld at (cells P t) → name_of s ≡ name_of t → cells P s ≡ cells P t
      same_cells (leaf_at m j u) (leaf_at n k v) h i e =
          let same = same_cell at _ _ _ _ e h.0 i.0 in ap₂ (λ (x : Name) c. (x, c) ∷ []) e same
      same_cells (leaf_at m j u) (inner_at n prefix kids) h i e = let same = same_cell at _ _ _ _ e h.0 i.0 in absurd (cc)
      same_cells (inner_at m prefix kids) (leaf_at n k v) h i e = let same = same_cell at _ _ _ _ e h.0 i.0 in absurd (cc)
      same_cells (inner_at m a cs) (inner_at n b ds) h i e =
          let same = same_cell at _ _ (node_of P a (children_at cs)) (node_of P b (children_at ds)) e h.0 i.0 in
          let rest = same_cells_in cs ds h.1 i.1 (ap cell_children same) in
          ap₂ (λ (x : Name) c. (x, c) ∷ cells_in P cs) e same ∙ ap (λ xs. (n, node_of P b (children_at ds)) ∷ xs) rest

      same_cells_in : (cs ds : Branches K V) → AreHeld at (cells_in P cs) → AreHeld at (cells_in P ds) → children_at cs ≡ children_at ds → cells_in P cs ≡ cells_in P ds
      same_cells_in no_branch no_branch h i e = refl
      same_cells_in no_branch (branch c t ds) h i e = absurd (cc)
      same_cells_in (branch b s cs) no_branch h i e = absurd (cc)
      same_cells_in (branch b s cs) (branch c t ds) h i e =
          let first : ◌≡◌ {A = ℕ × Name} (b, name_of s) (c, name_of t) = cc in
          let more : children_at cs ≡ children_at ds = cc in
          let P_at = λ (z : Name × Cell K V). at z.0 ≡ Some z.1 in
          ap₂ (λ xs ys. xs ++ ys)
          (same_cells s t (all_left P_at (cells P s) (cells_in P cs) h) (all_left P_at (cells P t) (cells_in P ds) i) (ap (λ (z : ℕ × Name). z.1) first))
          (same_cells_in cs ds (all_right P_at (cells P s) (cells_in P cs) h) (all_right P_at (cells P t) (cells_in P ds) i) more)
