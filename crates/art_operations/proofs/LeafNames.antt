-- Each leaf keeps its name: the leaves that an arena holds, before and after a change of a tree.
use Rattle.std.proofs.Common.{◌≡◌, ◌≢◌, ℕ, ◌≤◌, ◌⊎◌, Bool, true, false, not, filter, cond, List, [], ◌∷◌, ◌++◌, Option, Some, None, is_some, refl, sym, ap, ap₂, subst, ◌∙◌, inl, inr, arith}
use Rattle.art_nodes.proofs.Common.{Name}
use Rattle.art_nodes.specs.declared.leaf.LeafNode.{LeafNode}
use Rattle.art_arena.proofs.Common.{Arena, Held, held_at, node_at, cell_of, Allocates, KeepsNodes, SameNodes, Cell, pair, leaf_name, copies, Holds, Shape, Branches, leaf_at, inner_at, no_branch, branch, LeafAt, leaves, leaves_in, pairs_of, key_of, cells, cells_in, Step, StoresBeside, IsIn}
use Rattle.art_arena.proofs.Common.{is_before, put_in_order, only-holds, same_name_tells, nodes-part, all_at, in_left, in_right, in_cases}
use Rattle.art_operations.proofs.Terms.{HasLeavesBeside, IsDeletedBeside, IsInsertedBeside, IsPutOrReplaced, overlaps, without_overlapping, HasKeyAt, HasLeavesOf, KeepsLeavesOf, IsOverwrittenBeside, with_pair_over, leaves_without, IsCutBeside, DeleteResult, SubtreeDeleteResult}
use Rattle.art_operations.proofs.Terms.{InsertResult, PrefixInsertResult}
use Rattle.art_operations.proofs.KeyedLists.{passes}
use Rattle.art_operations.proofs.LeafPairs.{held_leaf}

-- a list that counts a name has it
named-in : {C : Type 0} (n : Name) (cs : List (Name × C)) → 1 ≤ copies n cs → (c : C) × IsIn (n, c) cs
named-in n [] some = absurd (omega (arith, some))
named-in n (x ∷ xs) some = elim (same_name_tells n x.0) [
  | inl same ↦ (x.1, inl (ap (λ m. (m, x.1)) (sym same.1)))
  | inr other ↦ let later = named-in n xs (omega (arith, rw other.0 at some)) in (later.0, inr later.1)
]

-- what stands under a name is in the list of all that is held
held-in : {C : Type 0} (at : Name → Option C) (cs : List (Name × C)) → Holds at cs → (n : Name) (c : C) → at n ≡ Some c → IsIn (n, c) cs
held-in at cs holds n c e =
    let there = named-in n cs (omega (arith, holds.once n ∙ ap (λ o. cond (is_some o) 1 0) e)) in
    let f = sym (all_at (λ x. at x.0 ≡ Some x.1) (n, there.0) cs holds.held there.1) ∙ e in
    let same : there.0 ≡ c = cc in
    subst (λ d. IsIn (n, d) cs) same there.1

module _ {X : Type 0} where
  -- what stands in a list with an item put in is that item or stood there
  in-put : (key : X → List ℕ) (x y : X) (xs : List X) → IsIn y (put_in_order key x xs) → (x ≡ y) ⊎ IsIn y xs
  in-put key x y [] i = i
  in-put key x y (z ∷ zs) i = here (is_before (key x) (key z)) (in-put key x y zs) i
    where
      here : (b : Bool) → (IsIn y (put_in_order key x zs) → (x ≡ y) ⊎ IsIn y zs) → IsIn y (cond b (x ∷ z ∷ zs) (z ∷ put_in_order key x zs)) → (x ≡ y) ⊎ IsIn y (z ∷ zs)
      here true later i = i
      here false later (inl e) = inr (inl e)
      here false later (inr i) = elim (later i) [ inl e ↦ inl e | inr j ↦ inr (inr j) ]

  -- what a filter keeps of a list stands in it
  of-filter : (test : X → Bool) (y : X) (xs : List X) → IsIn y (filter test xs) → IsIn y xs
  of-filter test y [] i = i
  of-filter test y (x ∷ xs) i = here (test x) (of-filter test y xs) i
    where
      here : (b : Bool) → (IsIn y (filter test xs) → IsIn y xs) → IsIn y (cond b (x ∷ filter test xs) (filter test xs)) → IsIn y (x ∷ xs)
      here true later (inl e) = inl e
      here true later (inr i) = inr (later i)
      here false later i = inr (later i)

module _ {K V : Type 0} (P : ℕ) where
  -- the cell of a leaf is that of one of the shape's
  mutual
    leaf-in : (s : Shape K V) (slot : ℕ) (k : K) (v : V) → IsIn (leaf_name slot, pair k v) (cells P s) → IsIn (record { slot = slot; key = k; value = v }) (leaves s)
    leaf-in (leaf_at t l w) slot k v (inl e) =
        let number : t ≡ slot = ap (λ (c : Name × Cell K V). c.0.slot) e in
        let both : pair l w ≡ pair k v = ap (λ (c : Name × Cell K V). c.1) e in
        let key : l ≡ k = cc in
        let value : w ≡ v = cc in
        inl (ap (λ n. record { slot = n; key = l; value = w }) number ∙ ap₂ (λ x y. record { slot = slot; key = x; value = y }) key value)
    leaf-in (leaf_at t l w) slot k v (inr i) = absurd i
    leaf-in (inner_at n prefix kids) slot k v (inl e) = let both = ap (λ (c : Name × Cell K V). c.1) e in absurd (cc)
    leaf-in (inner_at n prefix kids) slot k v (inr i) = leaf-in_in kids slot k v i

    leaf-in_in : (f : Branches K V) (slot : ℕ) (k : K) (v : V) → IsIn (leaf_name slot, pair k v) (cells_in P f) → IsIn (record { slot = slot; key = k; value = v }) (leaves_in f)
    leaf-in_in no_branch slot k v i = absurd i
    leaf-in_in (branch b s rest) slot k v i = elim (in_cases _ (cells P s) (cells_in P rest) i) [
      | inl j ↦ in_left _ (leaves s) (leaves_in rest) (leaf-in s slot k v j)
      | inr j ↦ in_right _ (leaves s) (leaves_in rest) (leaf-in_in rest slot k v j)
    ]

module _ {K V : Type 0} (bytes : K → List ℕ) where
  -- where the nodes are the same, so are the leaves
  pub same-names : (old new : Arena K V) → SameNodes old new → HasLeavesOf bytes new old
  same-names old new same slot key (k, v, e, is) = (k, v, ap cell_of (same (leaf_name slot)) ∙ e, is)

  -- a leaf that is new took no other's name
  pub allocated-names : (old new : Arena K V) (slot : ℕ) (node : Held K V) → Allocates old new (leaf_name slot) node → HasLeavesOf bytes new old
  allocated-names old new slot node allocates n key (k, v, e, is) = elim (same_name_tells (leaf_name n) (leaf_name slot)) [
    | inl same ↦ let f = sym (ap cell_of (ap (held_at old) same.1 ∙ allocates.vacant)) ∙ e in absurd (cc)
    | inr other ↦ (k, v, ap cell_of (allocates.updates.others (leaf_name n) other.1) ∙ e, is)
  ]

  -- what stands beside a tree is kept
  beside-kept : (old new : Arena K V) (rest : List (Name × Cell K V)) → KeepsNodes rest old new → (n : Name) (c : Cell K V) → IsIn (n, c) rest → node_at new n ≡ node_at old n
  beside-kept old new rest keeps n c i = ap cell_of (all_at (λ (x : Name × Cell K V). held_at new x.0 ≡ held_at old x.0) (n, c) rest keeps i)

  -- the leaf has its name, and a key of its bytes, where another was put in or took its place
  stays-put : (l : LeafAt K V) (was : Option (LeafNode K V)) (old new : List (LeafAt K V)) → IsPutOrReplaced bytes l was old new → (x : LeafAt K V) → IsIn x old
      → (k : K) × (v : V) × IsIn (record { slot = x.slot; key = k; value = v }) new × (bytes k ≡ bytes x.key)
  stays-put l None old new (front, back, e, f) x i = (
    x.key,
    x.value,
    subst (IsIn x) (sym f) (elim (in_cases x front back (subst (IsIn x) e i)) [ inl j ↦ in_left x front (l ∷ back) j | inr j ↦ in_right x front (l ∷ back) (inr j) ]),
    refl,
  )
  stays-put l (Some was) old new (same, (front, back, e, f), previous, next) x i = elim (in_cases x front (record { slot = l.slot; key = was.key; value = was.value } ∷ back) (subst (IsIn x) e i)) [
    | inl j ↦ (x.key, x.value, subst (IsIn x) (sym f) (in_left x front (l ∷ back) j), refl)
    | inr (inl is) ↦
        let named : l.slot ≡ x.slot = ap (λ (m : LeafAt K V). m.slot) is in (
          l.key,
          l.value,
          subst (λ n. IsIn (record { slot = n; key = l.key; value = l.value }) new) named (subst (IsIn l) (sym f) (in_right l front (l ∷ back) (inl refl))),
          sym same ∙ ap (λ (m : LeafAt K V). bytes m.key) is,
        )
    | inr (inr j) ↦ (x.key, x.value, subst (IsIn x) (sym f) (in_right x front (l ∷ back) (inr j)), refl)
  ]

  module _ (P : ℕ) where
    -- a leaf that an arena holds is one of its tree's, or stands beside it
    pub among-all : (arena : Arena K V) (root : Name) (rest : List (Name × Cell K V)) (s : Shape K V) → StoresBeside bytes P arena root rest s → (slot : ℕ) (k : K) (v : V) → node_at arena (leaf_name slot) ≡ Some (pair k v)
        → IsIn (leaf_name slot, pair k v) rest ⊎ IsIn (record { slot = slot; key = k; value = v }) (leaves s)
    among-all arena root rest s tree slot k v e = elim (in_cases _ rest (cells P s) (held-in (node_at arena) (rest ++ cells P s) tree.nodes.holds (leaf_name slot) (pair k v) e)) [
      | inl j ↦ inl j
      | inr j ↦ inr (leaf-in P s slot k v j)
    ]

    -- and one of its tree's is held
    pub leaf-of : (arena : Arena K V) (root : Name) (rest : List (Name × Cell K V)) (s : Shape K V) → StoresBeside bytes P arena root rest s → (slot : ℕ) (k : K) (v : V) → IsIn (record { slot = slot; key = k; value = v }) (leaves s)
        → node_at arena (leaf_name slot) ≡ Some (pair k v)
    leaf-of arena root rest s tree slot k v i = held_leaf P (node_at arena) s (record { slot = slot; key = k; value = v }) i (nodes-part bytes P (node_at arena) root s tree.nodes).held

    among-left : (arena : Arena K V) (rest : List (Name × Cell K V)) (root : Option Name) (ls : List (LeafAt K V)) → HasLeavesBeside bytes P arena root ls rest → (slot : ℕ) (k : K) (v : V) → node_at arena (leaf_name slot) ≡ Some (pair k v)
        → IsIn (leaf_name slot, pair k v) rest ⊎ IsIn (record { slot = slot; key = k; value = v }) ls
    among-left arena rest None ls (none, only) slot k v e = inl (held-in (node_at arena) rest (only-holds (node_at arena) rest only) (leaf_name slot) (pair k v) e)
    among-left arena rest (Some root) ls (s, tree, are) slot k v e = subst (λ xs. IsIn (leaf_name slot, pair k v) rest ⊎ IsIn (record { slot = slot; key = k; value = v }) xs) are (among-all arena root rest s tree slot k v e)

    -- where a pair was put in, each leaf has the key that it had
    pub inserted-names : (old new : Arena K V) (root : Name) (rest : List (Name × Cell K V)) (s : Shape K V) → StoresBeside bytes P old root rest s → KeepsNodes rest old new
        → (last : List Step) (key : K) (value : V) (result : InsertResult K V) → IsInsertedBeside bytes P new rest s last key value result → HasLeavesOf bytes new old
    inserted-names old new root rest s tree keeps last key value result is slot bs (k, v, e, same) = elim (among-all old root rest s tree slot k v e) [
      | inl j ↦ (k, v, beside-kept old new rest keeps (leaf_name slot) (pair k v) j ∙ e, same)
      | inr j ↦
          let put = stays-put (record { slot = result.leaf_node_ptr; key = key; value = value }) result.existing_leaf (leaves s) (leaves is.shape) is.stored (record { slot = slot; key = k; value = v }) j in
          (put.0, put.1, leaf-of new result.new_root rest is.shape is.is_tree slot put.0 put.1 put.2, put.3 ∙ same)
    ]

    -- where one was taken out, each leaf that is left had its key
    pub deleted-names : (old new : Arena K V) (root : Name) (rest : List (Name × Cell K V)) (s : Shape K V) → StoresBeside bytes P old root rest s → KeepsNodes rest old new
        → (gone : ℕ) (result : DeleteResult K V) → IsDeletedBeside bytes P new rest s gone result → HasLeavesOf bytes old new
    deleted-names old new root rest s tree keeps gone result is slot bs (k, v, e, same) = elim (among-left new rest result.new_root (is.front ++ is.back) is.left slot k v e) [
      | inl j ↦ (k, v, sym (beside-kept old new rest keeps (leaf_name slot) (pair k v) j) ∙ e, same)
      | inr j ↦
          let back : List (LeafAt K V) = record { slot = gone; key = result.deleted_leaf.key; value = result.deleted_leaf.value } ∷ is.back in
          let stood : IsIn (record { slot = slot; key = k; value = v }) (is.front ++ back) = elim
          (in_cases (record { slot = slot; key = k; value = v }) is.front is.back j) [
            | inl i ↦ in_left (record { slot = slot; key = k; value = v }) is.front back i
            | inr i ↦ in_right (record { slot = slot; key = k; value = v })
                is.front back (inr i)
          ] in
          (k, v, leaf-of old root rest s tree slot k v (subst (IsIn (record { slot = slot; key = k; value = v })) (sym is.was) stood), same)
    ]

    -- where those with a prefix were cut off, each leaf that is left had its key
    pub cut-names : (old new : Arena K V) (root : Name) (rest : List (Name × Cell K V)) (s : Shape K V) → StoresBeside bytes P old root rest s → KeepsNodes rest old new
        → (front : List ℕ) (result : SubtreeDeleteResult) → IsCutBeside bytes front P new rest s result → HasLeavesOf bytes old new
    cut-names old new root rest s tree keeps front result is slot bs (k, v, e, same) = elim (among-left new rest result.new_root (leaves_without bytes front (leaves s)) is.left slot k v e) [
      | inl j ↦ (k, v, sym (beside-kept old new rest keeps (leaf_name slot) (pair k v) j) ∙ e, same)
      | inr j ↦ (k, v, leaf-of old root rest s tree slot k v (of-filter _ (record { slot = slot; key = k; value = v }) (leaves s) j), same)
    ]

    -- where one took the place of those whose keys overlap its key, of which none had that key, each leaf that stays has the key that it had
    pub overwritten-names : (old new : Arena K V) (root : Name) (rest : List (Name × Cell K V)) (s : Shape K V) → StoresBeside bytes P old root rest s → KeepsNodes rest old new
        → (last : List Step) (key : K) (value : V) (result : PrefixInsertResult K V) → IsOverwrittenBeside bytes P new rest s last key value result → ((l : LeafAt K V) → IsIn l (leaves s) → bytes l.key ≢ bytes key)
        → KeepsLeavesOf bytes (with_pair_over bytes key value (pairs_of (leaves s))) old new
    overwritten-names old new root rest s tree keeps last key value result is others slot bs (k, v, e, same) (p, i, has) = elim (among-all old root rest s tree slot k v e) [
      | inl j ↦ (k, v, beside-kept old new rest keeps (leaf_name slot) (pair k v) j ∙ e, same)
      | inr j ↦ elim (in_cases x is.front (is.block ++ is.back) (subst (IsIn x) is.were j)) [
        | inl a ↦ stays (in_left x is.front (put ∷ is.back) a)
        | inr b ↦ elim (in_cases x is.block is.back b) [
          | inl c ↦ absurd (gone j c)
          | inr d ↦ stays (in_right x is.front (put ∷ is.back) (inr d))
        ]
      ]
    ]
      where
        x : LeafAt K V
        x = record { slot = slot; key = k; value = v }

        put : LeafAt K V
        put = record { slot = result.insert_result.leaf_node_ptr; key = key; value = value }

        stays : IsIn x (is.front ++ put ∷ is.back) → HasKeyAt bytes new slot bs
        stays a = (k, v, leaf-of new result.insert_result.new_root rest is.shape is.is_tree slot k v (subst (IsIn x) (sym is.are) a), same)

        gone : IsIn x (leaves s) → IsIn x is.block → ⊥
        gone j c = elim (in-put (key_of bytes) (key, value) p (without_overlapping (key_of bytes) (bytes key) (pairs_of (leaves s))) i) [
          | inl f ↦ others x j (same ∙ sym (ap (key_of bytes) f ∙ has))
          | inr g ↦
              let apart = all_at (λ q. not (overlaps (bytes key) (key_of bytes q)) ≡ true) p _ (passes (λ q. not (overlaps (bytes key) (key_of bytes q))) (pairs_of (leaves s))) g in
              let overlap = all_at (λ (l : LeafAt K V). overlaps (bytes key) (bytes l.key) ≡ true) x is.block is.overlap c in
              let met : overlaps (bytes key) (key_of bytes p) ≡ true = subst (λ b. overlaps (bytes key) b ≡ true) (same ∙ sym has) overlap in
              let never = sym (ap not met) ∙ apart in
              absurd (cc)
        ]
