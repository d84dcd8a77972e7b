-- One node of a tree is freed: what is left under which name.
use Rattle.std.proofs.Common.{◌≡◌, ℕ, suc, Bool, List, [], ◌∷◌, ◌++◌, length, Some, refl, sym, ap, subst, ◌∙◌, arith, append_assoc, length-append}
use Rattle.std.proofs.lemmas.List.{append-nil}
use Rattle.art_nodes.proofs.Common.{InnerNode, IsAscending, without_child, with_children, Name}
use Rattle.art_nodes.specs.declared.kind.NodeType.TheVariants.{Leaf}
use Rattle.art_arena.proofs.Common.{Arena, inner_held, held_at, node_at, Cell, copies, UpdatesAt, Holds, Shape, Branches, inner_at, no_branch, branch, name_of, children_at, join, node_of, cells, cells_in, copies-append, Holds-turn, Holds-write, children_at-join, cells_in-join, nodes-update}
use Rattle.art_operations.proofs.Terms.{cells_with, cells_with_in, KeepsAllBut, IsChildIn, IsChildless, FreesRoot, HoldsPart, HoldsBoth, HoldsOneLess}
use Rattle.art_operations.proofs.Freeing.{without-among, branch-among, with-join, childless-cells, childless-one, freed_root, apart-from}
use Rattle.art_operations.proofs.FreeSteps.{part-leaf, node_in, HasInnerPart}

module _ {K V : Type 0} (P : ℕ) (w : Bool) (old : Arena K V) (n : Name) (s : Shape K V) (rest : List (Name × Cell K V)) (part : HoldsPart P w old n s rest) where
  -- a leaf, and an inner node without children, have nothing below them

  pub leaf-childless : n.kind ≡ Leaf → IsChildless s
  leaf-childless kind = let leaf = part-leaf P w old n s rest part kind in subst IsChildless (sym leaf.3) tt

  no-branch : (prefix : List ℕ) (kids : Branches K V) → children_at kids ≡ [] → IsChildless (inner_at n prefix kids)
  no-branch prefix no_branch none = tt
  no-branch prefix (branch b t rest) none = absurd (cc)

  pub inner-childless : (inner : HasInnerPart P w old n s) → children_at inner.kids ≡ [] → IsChildless s
  inner-childless inner none = subst IsChildless (sym inner.is) (no-branch inner.prefix inner.kids none)

  pub freed-childless : (new : Arena K V) → IsChildless s → FreesRoot w old new s → (length (cells P s) ≡ 1) × Holds (node_at new) rest
  freed-childless new childless frees = (
    childless-one P w s childless,
    freed_root P w old new s [] rest frees (subst (λ xs. Holds (node_at old) (xs ++ rest)) (childless-cells P w s childless) part.holds),
  )

  -- where there is one child it is what is left

  pub record IsSingle (prefix : List ℕ) (one : ℕ × Name) : Type 0 where
    pub child : Shape K V
    pub is : s ≡ inner_at n prefix (branch one.0 child no_branch)
    pub named : name_of child ≡ one.1

  single : (prefix : List ℕ) (kids : Branches K V) → s ≡ inner_at n prefix kids → (before : List (ℕ × Name)) (c : ℕ × Name) (after : List (ℕ × Name)) → children_at kids ≡ before ++ c ∷ after → length (children_at kids) ≡ 1 → IsSingle prefix c
  single prefix no_branch is before c after e one = absurd (cc)
  single prefix (branch b t no_branch) is [] c after e one =
      let same : (b, name_of t) ≡ c = cc in
      record { child = t; is = is ∙ ap (λ (p : ℕ × Name). inner_at n prefix (branch p.0 t no_branch)) same; named = ap (λ (p : ℕ × Name). p.1) same }
  single prefix (branch b t no_branch) is (x ∷ before) c after e one = absurd (omega (arith, ap length e, length-append before (c ∷ after)))
  single prefix (branch b t (branch d u more)) is before c after e one = absurd (omega (arith, one))

  module _ (new : Arena K V) (inner : HasInnerPart P w old n s) (last : ℕ × Name) (found : IsChildIn (children_at inner.kids) (Some last)) (one : length (children_at inner.kids) ≡ 1) (frees : FreesRoot w old new s) where
    abbrev only : IsSingle inner.prefix last
    only = single inner.prefix inner.kids inner.is found.0 last found.1 found.2 one

    single-cells : cells_with P w s ≡ (n, node_of P inner.prefix ((last.0, name_of only.child) ∷ [])) ∷ cells_with P w only.child
    single-cells = ap (cells_with P w) only.is ∙ ap (λ xs. (n, node_of P inner.prefix ((last.0, name_of only.child) ∷ [])) ∷ xs) (append-nil (cells_with P w only.child))

    pub freed-single : HoldsOneLess P w new last.1 (length (cells P s)) (cells_with P w s) rest
    freed-single = record {
      left = only.child;
      part = record {
        named = only.named;
        holds = freed_root P w old new (inner_at n inner.prefix (branch last.0 only.child no_branch)) [] (cells_with P w only.child ++ rest) (subst (FreesRoot w old new) only.is frees)
            (subst (λ xs. Holds (node_at old) (xs ++ rest)) single-cells part.holds);
      };
      less = ap (λ x. length (cells P x)) only.is ∙ ap (λ xs. suc (length xs)) (append-nil (cells P only.child));
      names = λ k. omega (arith, ap (copies k) single-cells);
    }

  -- else a child is taken out, and stands apart
  module _ (mid : Arena K V) (inner : HasInnerPart P w old n s) (child : ℕ × Name) (found : IsChildIn (children_at inner.kids) (Some child))
      (up : IsAscending (children_at inner.kids)) (removes : (m : InnerNode) → held_at old n ≡ Some (inner_held m)
      → UpdatesAt (held_at old) (held_at mid) n (Some (inner_held (with_children m (without_child m.children child.0))))) where
    abbrev split : (before : Branches K V) × (t : Shape K V) × (after : Branches K V) × (inner.kids ≡ join before (branch child.0 t after)) × (name_of t ≡ child.1)
    split = branch-among inner.kids found.0 child found.1 found.2

    -- the branches beside it, the node with these alone, and the child
    abbrev beside : Branches K V
    beside = join split.0 split.2

    abbrev pub lessened : Shape K V
    lessened = inner_at n inner.prefix beside

    abbrev pub taken : Shape K V
    taken = split.1

    children_are : children_at inner.kids ≡ children_at split.0 ++ (child.0, name_of taken) ∷ children_at split.2
    children_are = ap children_at split.3 ∙ children_at-join split.0 (branch child.0 taken split.2)

    others_are : without_child (children_at inner.kids) child.0 ≡ children_at beside
    others_are =
        ap (λ xs. without_child xs child.0) children_are
        ∙ (without-among 0 (children_at split.0) child.0 (name_of taken) (children_at split.2) (subst IsAscending children_are up)).1
        ∙ sym (children_at-join split.0 split.2)

    parts : cells_with_in P w inner.kids ≡ cells_with_in P w split.0 ++ (cells_with P w taken ++ cells_with_in P w split.2)
    parts = ap (cells_with_in P w) split.3 ∙ with-join P w split.0 (branch child.0 taken split.2)

    beside_parts : cells_with_in P w beside ≡ cells_with_in P w split.0 ++ cells_with_in P w split.2
    beside_parts = with-join P w split.0 split.2

    abbrev node_was : Cell K V
    node_was = node_of P inner.prefix (children_at inner.kids)

    abbrev node_is : Cell K V
    node_is = node_of P inner.prefix (children_at beside)

    whole-cells : cells_with P w s ≡ (n, node_was) ∷ (cells_with_in P w split.0 ++ (cells_with P w taken ++ cells_with_in P w split.2))
    whole-cells = ap (cells_with P w) inner.is ∙ ap (λ xs. (n, node_was) ∷ xs) parts

    written : UpdatesAt (held_at old) (held_at mid) n (Some (inner_held (node_in P w old inner.prefix beside)))
    written =
        subst (λ xs. UpdatesAt (held_at old) (held_at mid) n (Some (inner_held (with_children (node_in P w old inner.prefix inner.kids) xs)))) others_are (removes (node_in P w old inner.prefix inner.kids) inner.there)

    -- the cells in another order
    turned : (front : List (Name × Cell K V)) → front ++ (cells_with_in P w split.2 ++ (cells_with P w taken ++ rest)) ≡ (front ++ cells_with_in P w split.2) ++ (cells_with P w taken ++ rest)
    turned front = sym (append_assoc front (cells_with_in P w split.2) (cells_with P w taken ++ rest))

    before_write : (cells_with_in P w split.0 ++ (cells_with P w taken ++ cells_with_in P w split.2)) ++ rest ≡ cells_with_in P w split.0 ++ (cells_with P w taken ++ (cells_with_in P w split.2 ++ rest))
    before_write =
        append_assoc (cells_with_in P w split.0) (cells_with P w taken ++ cells_with_in P w split.2) rest
        ∙ ap (λ xs. cells_with_in P w split.0 ++ xs) (append_assoc (cells_with P w taken) (cells_with_in P w split.2) rest)

    pub taken-out : HoldsBoth P w mid n lessened child.1 taken rest
    taken-out = record {
      named = refl;
      named_other = split.4;
      holds =
          subst (λ xs. Holds (node_at mid) ((n, node_is) ∷ xs)) (turned (cells_with_in P w split.0) ∙ ap (λ xs. xs ++ (cells_with P w taken ++ rest)) (sym beside_parts))
          (Holds-turn (node_at mid) ((n, node_is) ∷ cells_with_in P w split.0) (cells_with P w taken) (cells_with_in P w split.2) rest
          (Holds-write (node_at old) (node_at mid) n node_was node_is [] (cells_with_in P w split.0 ++ (cells_with P w taken ++ (cells_with_in P w split.2 ++ rest)))
          (nodes-update old mid n (Some (inner_held (node_in P w old inner.prefix beside))) written)
          (subst (Holds (node_at old)) (ap (λ xs. xs ++ rest) whole-cells ∙ ap (λ xs. (n, node_was) ∷ xs) before_write) part.holds)));
    }

    same-copies : (k : Name) → copies k (cells_with P w lessened ++ cells_with P w taken) ≡ copies k (cells_with P w s)
    same-copies k =
        omega (
          arith,
          ap (copies k) whole-cells,
          ap (copies k) beside_parts,
          copies-append k (cells_with P w lessened) (cells_with P w taken),
          copies-append k (cells_with_in P w split.0) (cells_with_in P w split.2),
          copies-append k (cells_with_in P w split.0) (cells_with P w taken ++ cells_with_in P w split.2),
          copies-append k (cells_with P w taken) (cells_with_in P w split.2),
        )

    same-size : length (cells P lessened ++ cells P taken) ≡ length (cells P s)
    same-size =
        let all : cells_in P inner.kids ≡ cells_in P split.0 ++ (cells P taken ++ cells_in P split.2) = ap (cells_in P) split.3 ∙ cells_in-join P split.0 (branch child.0 taken split.2) in
        let less = cells_in-join P split.0 split.2 in
        omega (
          arith,
          ap (λ x. length (cells P x)) inner.is,
          ap length all,
          ap length less,
          length-append (cells_in P split.0) (cells P taken ++ cells_in P split.2),
          length-append (cells P taken) (cells_in P split.2),
          length-append (cells_in P split.0) (cells_in P split.2),
          length-append (cells P lessened) (cells P taken),
        )

    pub freed-child : (new : Arena K V) (root : Name) → HoldsOneLess P w new root (length (cells P lessened ++ cells P taken)) (cells_with P w lessened ++ cells_with P w taken) rest → HoldsOneLess P w new root (length (cells P s)) (cells_with P w s) rest
    freed-child new root less = record {
      left = less.left;
      part = less.part;
      less = sym same-size ∙ less.less;
      names = λ k. omega (arith, less.names k, same-copies k);
    }

    pub kept-child : (new : Arena K V) → KeepsAllBut (cells_with P w lessened ++ cells_with P w taken) mid new → KeepsAllBut (cells_with P w s) old new
    kept-child new kept k none =
        kept k (same-copies k ∙ none)
        ∙ written.others k (apart-from k n node_was (cells_with_in P w split.0 ++ (cells_with P w taken ++ cells_with_in P w split.2)) (ap (copies k) (sym whole-cells) ∙ none))
