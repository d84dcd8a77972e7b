-- How many nodes stand below a name, told by the arena alone: the measure of a walk down.
use Rattle.std.proofs.Common.{true≢false, ◌≡◌, ℕ, zero, suc, ◌+◌, ◌<◌, ◌≤◌, Bool, true, false, cond, eqb, List, [], ◌∷◌, length, Option, Some, None, IsSome, refl, sym, ap, subst, ◌∙◌, inl, inr, arith, length-append}
use Rattle.std.specs.List.{AllByRecursion}
use Rattle.std.proofs.lemmas.Bool.{cond_both}
use Rattle.std.proofs.lemmas.Bool.Decides.{eqb_tells}
use Rattle.slab.specs.Slab.{get}
use Rattle.slab.proofs.SlabLemmas.{ContainsKey-within}
use Rattle.art_nodes.proofs.Common.{InnerNode, Name}
use Rattle.art_nodes.specs.declared.kind.NodeType.{NodeType}
use Rattle.art_nodes.specs.declared.kind.NodeType.TheVariants.{Node4, Node16, Node32, Node48, Node256, Leaf}
use Rattle.art_nodes.specs.declared.leaf.LeafNode.{LeafNode}
use Rattle.art_arena.proofs.Terms.{Cell, pair, branches, same_kind, copies, AreHeld, Arena, Held, as_leaf, as_inner, held_as, held_at, cell_of, node_at, slots_of, Shape, Branches, leaf_at, inner_at, no_branch, branch, name_of, children_at, cells, cells_in, IsPart}
use Rattle.art_arena.proofs.tree.Order.{all_left, all_right}
use Rattle.art_arena.proofs.shapes.CellLists.{same_kind_tells}

-- how often a number stands in a list
abbrev pub occurrences : ℕ → List ℕ → ℕ
occurrences n [] = 0
occurrences n (x ∷ xs) = cond (eqb n x) 1 0 + occurrences n xs

-- the list without a number
abbrev pub without : ℕ → List ℕ → List ℕ
without n [] = []
without n (x ∷ xs) = cond (eqb n x) (without n xs) (x ∷ without n xs)

pub length-without : (n : ℕ) (xs : List ℕ) → length xs ≡ length (without n xs) + occurrences n xs
length-without n [] = refl
length-without n (x ∷ xs) = elim (eqb n x) as (λ b. suc (length xs) ≡ length (cond b (without n xs) (x ∷ without n xs)) + (cond b 1 0 + occurrences n xs)) [
  | true ↦ omega (arith, length-without n xs)
  | false ↦ omega (arith, length-without n xs)
]

count-without : (m n : ℕ) (xs : List ℕ) → occurrences m (without n xs) ≤ occurrences m xs
count-without m n [] = omega arith
count-without m n (x ∷ xs) =
    let later = count-without m n xs in
    cond_both (eqb n x) (without n xs) (x ∷ without n xs) (λ ys. occurrences m ys ≤ occurrences m (x ∷ xs)) (λ _. omega (arith, later)) (λ _. omega (arith, later))

pub below-without : (n : ℕ) (xs : List ℕ) → AllByRecursion (λ x. x < suc n) xs → AllByRecursion (λ x. x < n) (without n xs)
below-without n [] h = tt
below-without n (x ∷ xs) h = elim (eqb_tells n x) [
  | inl same ↦ rw same.0 (below-without n xs h.1)
  | inr other ↦ rw other.0 (omega (arith, h.0, other.1), below-without n xs h.1)
]

-- numbers below n that are met once each are no more than n
pub few : (n : ℕ) (xs : List ℕ) → AllByRecursion (λ x. x < n) xs → ((m : ℕ) → occurrences m xs ≤ 1) → length xs ≤ n
few zero [] h once = omega arith
few zero (x ∷ xs) h once = absurd (omega (arith, h.0))
few (suc n) xs h once =
    let rest = few n (without n xs) (below-without n xs h) (λ m. omega (arith, count-without m n xs, once m)) in
    omega (arith, rest, once n, length-without n xs)

kind_tells : (a b : NodeType) → same_kind a b ≡ true → a ≡ b
kind_tells a b e = elim (same_kind_tells a b) [ inl same ↦ same.1 | inr other ↦ absurd (true≢false (sym e ∙ other.0)) ]

one_kind : (kind : NodeType) → cond (same_kind Leaf kind) 1 0 + (cond (same_kind Node4 kind) 1 0 + (cond (same_kind Node16 kind) 1 0 + (cond (same_kind Node32 kind) 1 0 + (cond (same_kind Node48 kind) 1 0 + cond (same_kind Node256 kind) 1 0)))) ≡ 1
one_kind Leaf = refl
one_kind kind = refl

-- a number for each child, in sum
abbrev pub total : (Name → ℕ) → List (ℕ × Name) → ℕ
total f [] = 0
total f (c ∷ rest) = f c.1 + total f rest

module _ {C : Type 0} where
  -- the slab keys of the nodes of a kind in a list of cells
  abbrev pub slots_as : NodeType → List (Name × C) → List ℕ
  slots_as kind [] = []
  slots_as kind (c ∷ rest) = cond (same_kind kind c.0.kind) (c.0.slot ∷ slots_as kind rest) (slots_as kind rest)

  pub count-slots_as : (kind : NodeType) (n : ℕ) (xs : List (Name × C)) → occurrences n (slots_as kind xs) ≡ copies (record { kind = kind; slot = n }) xs
  count-slots_as kind n [] = refl
  count-slots_as kind n (c ∷ xs) = here (same_kind kind c.0.kind) refl (count-slots_as kind n xs)
    where
      here : (b : Bool) → same_kind kind c.0.kind ≡ b → occurrences n (slots_as kind xs) ≡ copies (record { kind = kind; slot = n }) xs → occurrences n (slots_as kind (c ∷ xs)) ≡ copies (record { kind = kind; slot = n }) (c ∷ xs)
      here true e later = rw e (omega (arith, later))
      here false e later = rw e (omega (arith, later))

  pub length-slots_as : (kind : NodeType) (c : Name × C) (xs : List (Name × C)) → length (slots_as kind (c ∷ xs)) ≡ cond (same_kind kind c.0.kind) 1 0 + length (slots_as kind xs)
  length-slots_as kind c xs = elim (same_kind kind c.0.kind) as (λ b. length (cond b (c.0.slot ∷ slots_as kind xs) (slots_as kind xs)) ≡ cond b 1 0 + length (slots_as kind xs)) [
    | true ↦ omega arith
    | false ↦ omega arith
  ]

  -- each cell is of one kind
  by_kinds : (xs : List (Name × C)) → length xs ≡ length (slots_as Leaf xs) + (length (slots_as Node4 xs) + (length (slots_as Node16 xs) + (length (slots_as Node32 xs) + (length (slots_as Node48 xs) + length (slots_as Node256 xs)))))
  by_kinds [] = refl
  by_kinds (c ∷ xs) =
      omega (arith, by_kinds xs, one_kind c.0.kind, length-slots_as Leaf c xs, length-slots_as Node4 c xs, length-slots_as Node16 c xs, length-slots_as Node32 c xs, length-slots_as Node48 c xs, length-slots_as Node256 c xs)

module _ {K V : Type 0} where
  -- how many slots a slab has
  abbrev pub slots_in : Arena K V → NodeType → ℕ
  slots_in arena Leaf = length arena.leaves.slots
  slots_in arena Node4 = length arena.nodes4.slots
  slots_in arena Node16 = length arena.nodes16.slots
  slots_in arena Node32 = length arena.nodes32.slots
  slots_in arena Node48 = length arena.nodes48.slots
  slots_in arena Node256 = length arena.nodes256.slots

  leaf_there : (o : Option (LeafNode K V)) (c : Cell K V) → cell_of (as_leaf o) ≡ Some c → IsSome o
  leaf_there None c e = absurd (cc)
  leaf_there (Some node) c e = refl

  -- what stands under the name of a leaf is a pair
  pub pair_there : (arena : Arena K V) (n : Name) → IsSome (held_at arena n) → n.kind ≡ Leaf → (k : K) × (v : V) × (node_at arena n ≡ Some (pair k v))
  pair_there arena n held kind =
      let same : held_at arena n ≡ held_as arena Leaf n.slot = ap (λ x. held_as arena x n.slot) kind in
      let there = a_leaf (get arena.leaves n.slot) (subst IsSome same held) in (there.0, there.1, ap cell_of same ∙ there.2)
    where
      a_leaf : (o : Option (LeafNode K V)) → IsSome (as_leaf o) → (k : K) × (v : V) × (cell_of (as_leaf o) ≡ Some (pair k v))
      a_leaf None h = absurd (cc)
      a_leaf (Some leaf) h = (leaf.key, leaf.value, refl)

  -- under a name that isn't held stands nothing
  pub nothing_there : (arena : Arena K V) (n : Name) → (IsSome (held_at arena n) → ⊥) → node_at arena n ≡ None
  nothing_there arena n dead = nothing (held_at arena n) dead
    where
      nothing : (o : Option (Held K V)) → (IsSome o → ⊥) → cell_of o ≡ None
      nothing None h = refl
      nothing (Some held) h = absurd (h refl)

  inner_there : (o : Option InnerNode) (c : Cell K V) → cell_of {K = K} {V = V} (as_inner o) ≡ Some c → IsSome o
  inner_there None c e = absurd (cc)
  inner_there (Some node) c e = refl

  slot_within : (arena : Arena K V) (kind : NodeType) (slot : ℕ) (c : Cell K V) → cell_of (held_as arena kind slot) ≡ Some c → slot < slots_in arena kind
  slot_within arena Leaf slot c e = ContainsKey-within arena.leaves slot (leaf_there (get arena.leaves slot) c e)
  slot_within arena Node4 slot c e = ContainsKey-within arena.nodes4 slot (inner_there (get arena.nodes4 slot) c e)
  slot_within arena Node16 slot c e = ContainsKey-within arena.nodes16 slot (inner_there (get arena.nodes16 slot) c e)
  slot_within arena Node32 slot c e = ContainsKey-within arena.nodes32 slot (inner_there (get arena.nodes32 slot) c e)
  slot_within arena Node48 slot c e = ContainsKey-within arena.nodes48 slot (inner_there (get arena.nodes48 slot) c e)
  slot_within arena Node256 slot c e = ContainsKey-within arena.nodes256 slot (inner_there (get arena.nodes256 slot) c e)

  pub slots_within : (arena : Arena K V) (kind : NodeType) (cs : List (Name × Cell K V)) → AreHeld (node_at arena) cs → AllByRecursion (λ x. x < slots_in arena kind) (slots_as kind cs)
  slots_within arena kind [] h = tt
  slots_within arena kind (c ∷ cs) h = here (same_kind kind c.0.kind) refl (slots_within arena kind cs h.1)
    where
      here : (b : Bool) → same_kind kind c.0.kind ≡ b → AllByRecursion (λ x. x < slots_in arena kind) (slots_as kind cs) → AllByRecursion (λ x. x < slots_in arena kind) (slots_as kind (c ∷ cs))
      here true e later = rw e (subst (λ k. c.0.slot < slots_in arena k) (sym (kind_tells kind c.0.kind e)) (slot_within arena c.0.kind c.0.slot c.1 h.0), later)
      here false e later = rw e later

  -- no list of cells that the arena holds, each name in it once, is longer than the arena has slots
  pub held_few : (arena : Arena K V) (cs : List (Name × Cell K V)) → AreHeld (node_at arena) cs → ((n : Name) → copies n cs ≤ 1) → length cs ≤ slots_of arena
  held_few arena cs held once =
      let each : (kind : NodeType) → length (slots_as kind cs) ≤ slots_in arena kind =
      λ kind. few (slots_in arena kind) (slots_as kind cs) (slots_within arena kind cs held) (λ m. rw (count-slots_as kind m cs) (once (record { kind = kind; slot = m }))) in
      omega (arith, by_kinds cs, each Leaf, each Node4, each Node16, each Node32, each Node48, each Node256)

  -- no shape has more nodes than the arena has slots
  pub cells_few : (P : ℕ) (arena : Arena K V) (n : Name) (s : Shape K V) → IsPart P (node_at arena) n s → length (cells P s) ≤ slots_of arena
  cells_few P arena n s part = held_few arena (cells P s) part.held part.once

  abbrev nodes_in : (Name → ℕ) → Option (Cell K V) → ℕ
  nodes_in f None = 0
  nodes_in f (Some (pair k v)) = 1
  nodes_in f (Some (branches node)) = suc (total f node.children)

  -- the number of nodes below a name, itself included, as far as this many steps down show it
  abbrev pub nodes_below : ℕ → (Name → Option (Cell K V)) → Name → ℕ
  nodes_below zero at n = 0
  nodes_below (suc fuel) at n = nodes_in (nodes_below fuel at) (at n)

  module _ (P : ℕ) (at : Name → Option (Cell K V)) where
    mutual
      pub nodes_below-held : (fuel : ℕ) (s : Shape K V) → AreHeld at (cells P s) → length (cells P s) ≤ fuel → nodes_below fuel at (name_of s) ≡ length (cells P s)
      nodes_below-held zero (leaf_at slot k v) held low = absurd (omega (arith, low))
      nodes_below-held (suc fuel) (leaf_at slot k v) held low = ap (nodes_in (nodes_below fuel at)) held.0
      nodes_below-held zero (inner_at n prefix kids) held low = absurd (omega (arith, low))
      nodes_below-held (suc fuel) (inner_at n prefix kids) held low =
          ap (nodes_in (nodes_below fuel at)) held.0 ∙ ap suc (total-held fuel kids held.1 (omega (arith, low)))

      total-held : (fuel : ℕ) (f : Branches K V) → AreHeld at (cells_in P f) → length (cells_in P f) ≤ fuel → total (nodes_below fuel at) (children_at f) ≡ length (cells_in P f)
      total-held fuel no_branch held low = refl
      total-held fuel (branch byte s rest) held low =
          let P_at = λ (c : Name × Cell K V). at c.0 ≡ Some c.1 in
          let wide = length-append (cells P s) (cells_in P rest) in
          let here = nodes_below-held fuel s (all_left P_at (cells P s) (cells_in P rest) held) (omega (arith, low, wide)) in
          let later = total-held fuel rest (all_right P_at (cells P s) (cells_in P rest) held) (omega (arith, low, wide)) in
          omega (arith, here, later, wide)
