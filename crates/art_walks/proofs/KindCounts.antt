-- How many names of each kind a check met: as many as the tree that the shape means has nodes with so many children.
use Rattle.std.proofs.Common.{◌≡◌, ◌≢◌, ℕ, ◌+◌, ◌≤◌, true, false, cond, ◌&&◌, nat_le, List, [], ◌∷◌, ◌++◌, length, refl, sym, ap, ◌∙◌, arith, length-append, subst, inl, inr}
use Rattle.std.proofs.lemmas.Bool.Decides.{nat_tests, leb_tells}
use Rattle.art_nodes.proofs.Common.{Name, row_of}
use Rattle.art_nodes.specs.declared.kind.NodeType.{NodeType}
use Rattle.art_nodes.specs.declared.kind.NodeType.TheVariants.{Leaf}
use Rattle.art_arena.proofs.Common.{same_kind, IsKindOf, count, nodes_with, nodes_in, Shape, Branches, leaf_at, inner_at, no_branch, branch, leaves, leaves_in, cells, cells_in, width, erase, erase_in, count-erase, same_kind_tells}
use Rattle.art_walks.proofs.Terms.{in_range, count_kind, HasKinds, HaveKinds, cell_names}
use Rattle.art_walks.proofs.Skeletons.{cell_names-append}
use Rattle.art_arena.proofs.tree.Limits.{one_kind}

pub count_kind-append : (kind : NodeType) (xs ys : List Name) → count_kind kind (xs ++ ys) ≡ count_kind kind xs + count_kind kind ys
count_kind-append kind [] ys = omega arith
count_kind-append kind (x ∷ xs) ys = omega (arith, count_kind-append kind xs ys)

inside : (a b w : ℕ) → a ≤ w → w ≤ b → true ≡ (nat_le a w && nat_le w b)
inside a b w low high = grind (arith, nat_tests)

outside : (a b w : ℕ) → (a ≤ w → w ≤ b → ⊥) → false ≡ (nat_le a w && nat_le w b)
outside a b w out = elim (leb_tells a w) [
  | inl low ↦ elim (leb_tells w b) [ inl high ↦ absurd (out low.1 high.1) | inr past ↦ rw (low.0, past.0) refl ]
  | inr below ↦ rw below.0 refl
]

-- an inner node is of a kind where its number of children is one of the kind's
range_told : (kind other : NodeType) (w : ℕ) → IsKindOf other w → same_kind kind other ≡ in_range kind w
range_told kind other w is = elim (same_kind_tells kind other) [
  | inl same ↦
      let mine : IsKindOf kind w = subst (λ k. IsKindOf k w) (sym same.1) is in
      same.0 ∙ inside (row_of kind).fewest (row_of kind).most w mine.fewest mine.most
  | inr apart ↦
      apart.0
      ∙ outside (row_of kind).fewest (row_of kind).most w (λ low high. apart.1 (one_kind w kind other (record { two = is.two; fewest = low; most = high }) is))
]

no_leaf : (kind : NodeType) (w : ℕ) → IsKindOf kind w → same_kind Leaf kind ≡ false
no_leaf kind w is = elim (same_kind_tells Leaf kind) [
  | inl same ↦ let none : IsKindOf Leaf w = subst (λ k. IsKindOf k w) (sym same.1) is in absurd (omega (arith, none.two, none.most))
  | inr other ↦ other.0
]

not_leaf : (kind : NodeType) → kind ≢ Leaf → same_kind kind Leaf ≡ false
not_leaf kind inner = elim (same_kind_tells kind Leaf) [ inl same ↦ absurd (inner same.1) | inr other ↦ other.0 ]

module _ {K V : Type 0} (P : ℕ) where
  mutual
    -- so many leaves
    pub count-leaves : (s : Shape K V) → HasKinds s → count_kind Leaf (cell_names (cells P s)) ≡ length (leaves s)
    count-leaves (leaf_at slot k v) kinds = refl
    count-leaves (inner_at n prefix kids) kinds =
        let none : ◌≡◌ {A = ℕ} (cond (same_kind Leaf n.kind) 1 0) 0 = ap (λ b. cond b 1 0) (no_leaf n.kind (width kids) kinds.0) in
        omega (arith, none, count-leaves_in kids kinds.1)

    count-leaves_in : (kids : Branches K V) → HaveKinds kids → count_kind Leaf (cell_names (cells_in P kids)) ≡ length (leaves_in kids)
    count-leaves_in no_branch kinds = refl
    count-leaves_in (branch b s rest) kinds =
        let parts = ap (count_kind Leaf) (cell_names-append (cells P s) (cells_in P rest)) in
        omega (arith, parts, count_kind-append Leaf (cell_names (cells P s)) (cell_names (cells_in P rest)), count-leaves s kinds.0, count-leaves_in rest kinds.1, length-append (leaves s) (leaves_in rest))

  module _ (kind : NodeType) (inner : kind ≢ Leaf) where
    mutual
      -- so many inner nodes of a kind
      pub count-nodes : (s : Shape K V) → HasKinds s → count_kind kind (cell_names (cells P s)) ≡ nodes_with (in_range kind) (erase s)
      count-nodes (leaf_at slot k v) kinds =
          let none : ◌≡◌ {A = ℕ} (cond (same_kind kind Leaf) 1 0) 0 = ap (λ b. cond b 1 0) (not_leaf kind inner) in omega (arith, none)
      count-nodes (inner_at n prefix kids) kinds =
          let told : ◌≡◌ {A = ℕ} (cond (same_kind kind n.kind) 1 0) (cond (in_range kind (count (erase_in kids))) 1 0) =
          ap (λ b. cond b 1 0) (range_told kind n.kind (width kids) kinds.0 ∙ ap (in_range kind) (sym (count-erase kids))) in
          omega (arith, told, count-nodes_in kids kinds.1)

      count-nodes_in : (kids : Branches K V) → HaveKinds kids → count_kind kind (cell_names (cells_in P kids)) ≡ nodes_in (in_range kind) (erase_in kids)
      count-nodes_in no_branch kinds = refl
      count-nodes_in (branch b s rest) kinds =
          let parts = ap (count_kind kind) (cell_names-append (cells P s) (cells_in P rest)) in
          omega (arith, parts, count_kind-append kind (cell_names (cells P s)) (cell_names (cells_in P rest)), count-nodes s kinds.0, count-nodes_in rest kinds.1)
