-- The leaves that an arena has are those of the cells that it holds.
use Rattle.std.proofs.Common.{◌≡◌, ◌≢◌, ℕ, zero, suc, ◌+◌, ◌<◌, ◌≤◌, cond, List, [], ◌∷◌, ◌++◌, length, Option, Some, None, is_some, count_by, slice_index_or, refl, sym, ap, ◌∙◌, inl, inr, arith, eq-eqb, length-append}
use Rattle.std.proofs.lemmas.Bool.Decides.{eqb_tells}
use Rattle.std.proofs.lemmas.List.Sums.{sum_by-cons}
use Rattle.slab.specs.Slab.{get}
use Rattle.art_nodes.proofs.Common.{InnerNode, Name}
use Rattle.art_nodes.specs.declared.kind.NodeType.TheVariants.{Leaf}
use Rattle.art_nodes.specs.declared.leaf.LeafNode.{LeafNode}
use Rattle.art_arena.proofs.Terms.{Cell, branches, leaf_name, AreHeld, Holds, Arena, as_leaf, cell_of, node_at, leaves_held, StoresOnly, Shape, Branches, leaf_at, inner_at, no_branch, branch, leaves, leaves_in, cells, cells_in}
use Rattle.art_arena.proofs.tree.Order.{all_left, all_right}
use Rattle.art_arena.proofs.shapes.CellLists.{same_kind_tells}
use Rattle.art_arena.proofs.shapes.Measures.{occurrences, without, length-without, slots_as, count-slots_as, length-slots_as}

count-self : (n : ℕ) (xs : List ℕ) → occurrences n (without n xs) ≡ 0
count-self n [] = refl
count-self n (x ∷ xs) = elim (eqb_tells n x) [
  | inl same ↦ rw same.0 (count-self n xs)
  | inr other ↦ rw other.0 (let later = count-self n xs in rw other.0 (omega (arith, later)))
]

count-other : (m n : ℕ) (xs : List ℕ) → m ≢ n → occurrences m (without n xs) ≡ occurrences m xs
count-other m n [] apart = refl
count-other m n (x ∷ xs) apart = elim (eqb_tells n x) [
  | inl same ↦ elim (eqb_tells m x) [
    | inl too ↦ absurd (apart (too.1 ∙ sym same.1))
    | inr other ↦ rw (same.0, other.0) (omega (arith, count-other m n xs apart))
  ]
  | inr other ↦ rw other.0 (omega (arith, count-other m n xs apart))
]

-- the sum over the numbers below n
abbrev sum_below : (ℕ → ℕ) → ℕ → ℕ
sum_below f zero = 0
sum_below f (suc n) = sum_below f n + f n

-- numbers below n that stand in a list as often as a function says are as many as its sum
counted : (f : ℕ → ℕ) (n : ℕ) (xs : List ℕ) → ((m : ℕ) → m < n → occurrences m xs ≡ f m) → ((m : ℕ) → n ≤ m → occurrences m xs ≡ 0) → length xs ≡ sum_below f n
counted f zero [] below past = refl
counted f zero (x ∷ xs) below past = absurd (let e = past x (omega arith) in omega (arith, rw (eq-eqb x x refl) at e))
counted f (suc n) xs below past =
    let rest = counted f n (without n xs) (λ m less. count-other m n xs (λ e. absurd (omega (arith, e, less))) ∙ below m (omega (arith, less))) (λ m from. elim (eqb_tells m n) [
      | inl same ↦ rw same.1 (count-self n xs)
      | inr other ↦ count-other m n xs other.1 ∙ past m (omega (arith, from, other.1))
    ]) in
    omega (arith, length-without n xs, rest, below n (omega arith))

module _ {T : Type 0} where
  -- how often a slot has a value: once or not at all
  abbrev filled : List (Option T) → ℕ → ℕ
  filled slots m = cond (is_some (slice_index_or slots m None)) 1 0

  sum-shift : (o : Option T) (slots : List (Option T)) (n : ℕ) → sum_below (filled (o ∷ slots)) (suc n) ≡ cond (is_some o) 1 0 + sum_below (filled slots) n
  sum-shift o slots zero = omega arith
  sum-shift o slots (suc n) = omega (arith, sum-shift o slots n)

  count-slots : (slots : List (Option T)) → count_by is_some slots ≡ sum_below (filled slots) (length slots)
  count-slots [] = refl
  count-slots (o ∷ slots) = sum_by-cons (λ (p : Option T). cond (is_some p) 1 0) o slots ∙ ap (λ n. cond (is_some o) 1 0 + n) (count-slots slots) ∙ sym (sum-shift o slots (length slots))

  -- past its end a list of slots has no value
  past-end : (slots : List (Option T)) (m : ℕ) → length slots ≤ m → filled slots m ≡ 0
  past-end [] m past = refl
  past-end (o ∷ slots) zero past = absurd (omega (arith, past))
  past-end (o ∷ slots) (suc m) past = past-end slots m (omega (arith, past))

module _ {K V : Type 0} where
  leaf_filled : (o : Option (LeafNode K V)) → ◌≡◌ {A = ℕ} (cond (is_some (cell_of (as_leaf o))) 1 0) (cond (is_some o) 1 0)
  leaf_filled None = refl
  leaf_filled (Some leaf) = refl

  -- an arena has as many leaves as the list of its cells
  pub leaves_counted : (arena : Arena K V) (cs : List (Name × Cell K V)) → Holds (node_at arena) cs → leaves_held arena ≡ length (slots_as Leaf cs)
  leaves_counted arena cs holds =
      let f = filled arena.leaves.slots in
      let once : (m : ℕ) → occurrences m (slots_as Leaf cs) ≡ f m = λ m. count-slots_as Leaf m cs ∙ holds.once (leaf_name m) ∙ leaf_filled (get arena.leaves m) in
      count-slots arena.leaves.slots ∙ sym (counted f (length arena.leaves.slots) (slots_as Leaf cs) (λ m less. once m) (λ m past. once m ∙ past-end arena.leaves.slots m past))

  no_branches : (o : Option (LeafNode K V)) (node : InnerNode) → cell_of (as_leaf o) ≡ Some (branches node) → ⊥
  no_branches None node e = absurd (cc)
  no_branches (Some leaf) node e = absurd (cc)

  -- under the name of a leaf no inner node is held
  pub no_inner : (arena : Arena K V) (n : Name) (node : InnerNode) → n.kind ≡ Leaf → node_at arena n ≡ Some (branches node) → ⊥
  no_inner arena n node kind there =
      no_branches (get arena.leaves n.slot) node (rw kind at there)

  slots-append : (xs ys : List (Name × Cell K V)) → length (slots_as Leaf (xs ++ ys)) ≡ length (slots_as Leaf xs) + length (slots_as Leaf ys)
  slots-append [] ys = omega arith
  slots-append (x ∷ xs) ys = omega (arith, length-slots_as Leaf x (xs ++ ys), length-slots_as Leaf x xs, slots-append xs ys)

  -- so a shape that is held has as many of them as it has leaves
  module _ (P : ℕ) (arena : Arena K V) where
    mutual
      slots_of_cells : (s : Shape K V) → AreHeld (node_at arena) (cells P s) → length (slots_as Leaf (cells P s)) ≡ length (leaves s)
      slots_of_cells (leaf_at slot k v) held = refl
      slots_of_cells (inner_at n prefix kids) held = elim (same_kind_tells Leaf n.kind) [
        | inl same ↦ absurd (no_inner arena n _ (sym same.1) held.0)
        | inr other ↦ rw other.0 (slots_of_cells_in kids held.1)
      ]

      slots_of_cells_in : (f : Branches K V) → AreHeld (node_at arena) (cells_in P f) → length (slots_as Leaf (cells_in P f)) ≡ length (leaves_in f)
      slots_of_cells_in no_branch held = refl
      slots_of_cells_in (branch byte s rest) held =
          let Q = λ (c : Name × Cell K V). node_at arena c.0 ≡ Some c.1 in
          let here = slots_of_cells s (all_left Q (cells P s) (cells_in P rest) held) in
          let later = slots_of_cells_in rest (all_right Q (cells P s) (cells_in P rest) held) in
          omega (arith, slots-append (cells P s) (cells_in P rest), length-append (leaves s) (leaves_in rest), here, later)

    -- an arena that holds a shape, and these cells beside it, has so many leaves more than they are
    pub leaves_beside : (s : Shape K V) (rest : List (Name × Cell K V)) → Holds (node_at arena) (cells P s ++ rest)
        → leaves_held arena ≡ length (leaves s) + length (slots_as Leaf rest)
    leaves_beside s rest holds =
        let held = slots_of_cells s (all_left (λ (c : Name × Cell K V). node_at arena c.0 ≡ Some c.1) (cells P s) rest holds.held) in
        omega (arith, leaves_counted arena (cells P s ++ rest) holds, slots-append (cells P s) rest, held)

  -- as many as the tree has that the arena holds alone
  pub leaves_of_tree : (bytes : K → List ℕ) (P : ℕ) (arena : Arena K V) (root : Name) (s : Shape K V) → StoresOnly bytes P arena root s → leaves_held arena ≡ length (leaves s)
  leaves_of_tree bytes P arena root s tree = leaves_counted arena (cells P s) tree.nodes.holds ∙ slots_of_cells P arena s tree.nodes.holds.held

  -- and none where it holds nothing
  pub leaves_of_none : (arena : Arena K V) → ((n : Name) → node_at arena n ≡ None) → leaves_held arena ≡ 0
  leaves_of_none arena empty = leaves_counted arena [] (record { held = tt; once = λ n. rw (empty n) refl })
