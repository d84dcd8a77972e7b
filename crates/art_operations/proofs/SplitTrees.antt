-- The tree that a split leaves, step by step: two new nodes, a shorter prefix, the links of the new leaf, and the parent's child.
use Rattle.std.proofs.Common.{◌≡◌, ◌≢◌, ℕ, suc, ◌+◌, ◌<◌, ◌≤◌, Bool, true, false, cond, ltb, List, [], ◌∷◌, ◌++◌, length, take, drop, Option, Some, None, IsSome, refl, sym, ap, ap₂, subst, ◌∙◌, inl, inr, arith, append_assoc, append-nil, zero-le}
use Rattle.std.proofs.lemmas.Bool.Decides.{eqb_tells, leb_tells}
use Rattle.art_nodes.proofs.Common.{with_child, Name}
use Rattle.art_nodes.specs.declared.kind.NodeType.TheVariants.{Leaf, Node4}
use Rattle.art_nodes.specs.declared.concrete.ConcreteInnerNodePtr.TheVariants as inner
use Rattle.art_arena.proofs.Common.{Arena, inner_held, cell_of, held_at, node_at, links_at, Cell, pair, branches, leaf_name, Holds, UpdatesAt, Frame, path_to, root_of, frame_cell, leaves_before, leaves_after, cells_before, cells_after, AreAround, AreLinked, IsBeside, IsAtDepth, IsSubtree}
use Rattle.art_arena.proofs.Common.{IsTreeBeside, Shape, no_branch, branch, name_of, leaves, cells, node_of, Step, all_right, Holds-add, Holds-write, Holds-same, Holds-turn, leaves-plug, name_of-plug, nodes-subtree, unplugged, new-beside, nodes-update, links-update, links-kept, cell_held}
use Rattle.art_arena.proofs.Common.{place-subtree, AreLinked-same}
use Rattle.art_operations.proofs.Terms.{StandsAround, lone_leaf, AllocatesBoth, trimmed, root_cell, IsEnd, IsBetween, split_node, IsInsertedBeside, NewParent, Parted}
use Rattle.art_operations.proofs.Splits.{SplitPlace, below_root, cells-root, below-trimmed, name_of-trimmed, leaves-trimmed}
use Rattle.art_operations.proofs.Inserted.{inserted_below}
use Rattle.art_operations.proofs.NewLeaves.{first_of_longer, last_of_longer, beside-same}

-- the order of two bytes
before_is : (a b : ℕ) → true ≡ ltb a b → a < b
before_is a b e = elim (leb_tells (suc a) b) [ inl less ↦ less.1 | inr more ↦ absurd (let f = e ∙ more.0 in cc) ]

after_is : (a b : ℕ) → false ≡ ltb a b → b ≤ a
after_is a b e = elim (leb_tells (suc a) b) [ inl less ↦ absurd (let f = e ∙ less.0 in cc) | inr more ↦ omega (arith, more.1) ]

-- two children by ascending byte
split_children : {N : Type 0} (is_before : Bool) (a b : ℕ) (x y : N) → is_before ≡ ltb b a → a ≢ b → with_child ((a, x) ∷ []) b y ≡ cond is_before ((b, y) ∷ (a, x) ∷ []) ((a, x) ∷ (b, y) ∷ [])
split_children true a b x y order differs = elim (leb_tells (suc a) b) [
  | inl less ↦ absurd (omega (arith, less.1, before_is b a order))
  | inr more ↦ elim (eqb_tells a b) [ inl same ↦ absurd (differs same.1) | inr other ↦ rw (more.0, other.0) refl ]
]
split_children false a b x y order differs = elim (leb_tells (suc a) b) [
  | inl less ↦ rw less.0 refl
  | inr more ↦ absurd (let same : a ≡ b = omega (arith, more.1, after_is b a order) in differs same)
]

abbrev pub split_name : ℕ → Name
split_name slot = record { kind = Node4; slot = slot }

pub not_leaf : (slot : ℕ) → (split_name slot).kind ≢ Leaf
not_leaf slot e = cc

module _ {K V : Type 0} (bytes : K → List ℕ) (P : ℕ) (s : Shape K V) (old : Name) (parted : Parted) (depth : ℕ) (last : List Step) (key : K) (value : V) (at : SplitPlace bytes (bytes key) s old parted depth last) where
  -- what is left of the old part
  abbrev lower : Shape K V
  lower = trimmed (parted.matched + 1) at.part

  -- the split with a place for the new leaf
  abbrev pub split_frame : Bool → ℕ → Frame K V
  split_frame true slot = record { name = split_name slot; prefix = at.front; before = no_branch; byte = parted.new_byte; after = branch parted.old_byte lower no_branch }
  split_frame false slot = record { name = split_name slot; prefix = at.front; before = branch parted.old_byte lower no_branch; byte = parted.new_byte; after = no_branch }

  around_split : (is_before : Bool) → is_before ≡ ltb parted.new_byte parted.old_byte → (slot : ℕ) → AreAround bytes (split_frame is_before slot ∷ at.ctx)
  around_split true order slot =
      let less = before_is parted.new_byte parted.old_byte order in
      (record { two = omega arith; fewest = omega arith; most = omega arith }, tt, tt, (omega (arith, less), at.lower, tt), at.place.around)
  around_split false order slot =
      let more = after_is parted.new_byte parted.old_byte order in
      let differs = at.differs in
      let less : parted.old_byte < parted.new_byte = omega (arith, more, differs) in
      (record { two = omega arith; fewest = omega arith; most = omega arith }, (zero-le, at.lower, tt), (less, tt), tt, at.place.around)

  -- the leaves on both sides of the new one
  pub split_leaves : (is_before : Bool) (slot : ℕ) → leaves s ≡ leaves_before (split_frame is_before slot ∷ at.ctx) ++ leaves_after (split_frame is_before slot ∷ at.ctx)
  split_leaves true slot =
      let xs = leaves_before at.ctx in let ys = leaves lower in let zs = leaves_after at.ctx in
      let moved : xs ++ (ys ++ zs) ≡ (xs ++ []) ++ ((ys ++ []) ++ zs) = ap₂ (λ a b. a ++ (b ++ zs)) (sym (append-nil xs)) (sym (append-nil ys)) in
      ap leaves at.place.is ∙ leaves-plug at.ctx at.part ∙ ap (λ ls. xs ++ (ls ++ zs)) (sym (leaves-trimmed (parted.matched + 1) at.part)) ∙ moved
  split_leaves false slot =
      let xs = leaves_before at.ctx in let ys = leaves lower in let zs = leaves_after at.ctx in
      let moved : xs ++ (ys ++ zs) ≡ (xs ++ (ys ++ [])) ++ zs = sym (append_assoc xs ys zs) ∙ ap (λ b. (xs ++ b) ++ zs) (sym (append-nil ys)) in
      ap leaves at.place.is ∙ leaves-plug at.ctx at.part ∙ ap (λ ls. xs ++ (ls ++ zs)) (sym (leaves-trimmed (parted.matched + 1) at.part)) ∙ moved

  pub end_between : (is_before : Bool) (slot neighbour : ℕ) → IsEnd is_before neighbour (leaves at.part)
      → IsBetween is_before neighbour (leaves_before (split_frame is_before slot ∷ at.ctx)) (leaves_after (split_frame is_before slot ∷ at.ctx))
  end_between true slot neighbour end =
      let same = leaves-trimmed (parted.matched + 1) at.part in
      first_of_longer (leaves lower ++ []) (leaves_after at.ctx) neighbour (first_of_longer (leaves lower) [] neighbour (subst (IsEnd true neighbour) (sym same) end))
  end_between false slot neighbour end =
      let same = leaves-trimmed (parted.matched + 1) at.part in
      last_of_longer (leaves_before at.ctx) (leaves lower ++ []) neighbour (subst (IsEnd false neighbour) (sym (append-nil (leaves lower))) (subst (IsEnd false neighbour) (sym same) end))

  module _ {rest : List (Name × Cell K V)} (root : Name) (start : Arena K V) (tree : IsTreeBeside bytes P (node_at start) root (links_at start) rest s) where
    abbrev left : List (Name × Cell K V)
    left = cells_before P at.ctx old

    abbrev right : List (Name × Cell K V)
    right = cells_after P at.ctx ++ rest

    abbrev below : List (Name × Cell K V)
    below = below_root P at.part

    holds_start : Holds (node_at start) (left ++ (((old, root_cell P at.part) ∷ below) ++ right))
    holds_start =
        subst (Holds (node_at start)) (ap₂ (λ n c. cells_before P at.ctx n ++ (c ++ right)) at.named (cells-root P at.part ∙ ap (λ n. (n, root_cell P at.part) ∷ below) at.named))
        (unplugged P (node_at start) rest at.ctx at.part (subst (λ w. Holds (node_at start) (rest ++ cells P w)) at.place.is tree.nodes.holds))

    -- the part is a tree of its own
    pub part_subtree : IsSubtree bytes P (node_at start) old (path_to at.ctx) at.part
    part_subtree = subst (λ n. IsSubtree bytes P (node_at start) n (path_to at.ctx) at.part) at.named (place-subtree bytes P (node_at start) root s at.ctx at.part (nodes-subtree bytes P (node_at start) root s tree.nodes) at.place)

    pub part_at_depth : IsAtDepth bytes P (node_at start) old depth (path_to at.ctx) at.part
    part_at_depth = record { subtree = part_subtree; path_len = at.depth_is }

    root_named : root_of at.ctx old ≡ root
    root_named = ap (root_of at.ctx) (sym at.named) ∙ sym (name_of-plug at.ctx at.part) ∙ sym (ap name_of at.place.is) ∙ tree.nodes.named

    module _ (leaf slot : ℕ) where
      abbrev new_leaf_cell : Name × Cell K V
      new_leaf_cell = (leaf_name leaf, pair key value)

      abbrev split_cell : Name × Cell K V
      split_cell = (split_name slot, branches (split_node P (take parted.matched (drop depth (bytes key))) parted.old_byte old parted.new_byte (leaf_name leaf)))

      -- what stands in the place and after it, once the old part is trimmed
      abbrev pub split_cells : List (Name × Cell K V)
      split_cells = split_cell ∷ ((old, root_cell P lower) ∷ (below ++ new_leaf_cell ∷ right))

      frame_cell_is : (is_before : Bool) → is_before ≡ ltb parted.new_byte parted.old_byte → frame_cell P (split_frame is_before slot) (leaf_name leaf) ≡ split_cell
      frame_cell_is true order =
          let kids = split_children true parted.old_byte parted.new_byte old (leaf_name leaf) order at.differs in
          let named : name_of lower ≡ old = name_of-trimmed (parted.matched + 1) at.part ∙ at.named in
          ap₂ (λ n q. (split_name slot, node_of P q ((parted.new_byte, leaf_name leaf) ∷ (parted.old_byte, n) ∷ []))) named (sym at.front_is)
          ∙ ap (λ ks. (split_name slot, branches (record { header = record { num_children = 2; prefix_len = length (take parted.matched (drop depth (bytes key))); stored = take P (take parted.matched (drop depth (bytes key))) }; children = ks }))) (sym kids)
      frame_cell_is false order =
          let kids = split_children false parted.old_byte parted.new_byte old (leaf_name leaf) order at.differs in
          let named : name_of lower ≡ old = name_of-trimmed (parted.matched + 1) at.part ∙ at.named in
          ap₂ (λ n q. (split_name slot, node_of P q ((parted.old_byte, n) ∷ (parted.new_byte, leaf_name leaf) ∷ []))) named (sym at.front_is)
          ∙ ap (λ ks. (split_name slot, branches (record { header = record { num_children = 2; prefix_len = length (take parted.matched (drop depth (bytes key))); stored = take P (take parted.matched (drop depth (bytes key))) }; children = ks }))) (sym kids)

      lower_cells : cells P lower ≡ (old, root_cell P lower) ∷ below
      lower_cells = cells-root P lower ∙ ap₂ (λ n cs. (n, root_cell P lower) ∷ cs) (name_of-trimmed (parted.matched + 1) at.part ∙ at.named) (below-trimmed P (parted.matched + 1) at.part)

      -- the same cells as those around the new leaf
      around_leaf : (is_before : Bool) → is_before ≡ ltb parted.new_byte parted.old_byte → (map : Name → Option (Cell K V)) → Holds map (cells_before P at.ctx (split_name slot) ++ split_cells)
          → Holds map (cells_before P (split_frame is_before slot ∷ at.ctx) (leaf_name leaf) ++ new_leaf_cell ∷ (cells_after P (split_frame is_before slot ∷ at.ctx) ++ rest))
      around_leaf true order map holds =
          let xs = cells_before P at.ctx (split_name slot) in
          let here : Holds map ((xs ++ split_cell ∷ []) ++ (cells P lower ++ ((new_leaf_cell ∷ []) ++ right))) =
          subst (Holds map) (ap (λ cs. xs ++ split_cell ∷ (cs ++ new_leaf_cell ∷ right)) (sym lower_cells) ∙ sym (append_assoc xs (split_cell ∷ []) (cells P lower ++ ((new_leaf_cell ∷ []) ++ right)))) holds in
          let turned = Holds-turn map (xs ++ split_cell ∷ []) (cells P lower) (new_leaf_cell ∷ []) right here in
          subst (Holds map) (ap₂ (λ c cs. (xs ++ c ∷ []) ++ new_leaf_cell ∷ (cs ++ right)) (sym (frame_cell_is true order)) (sym (append-nil (cells P lower)))
          ∙ ap (λ zs. (xs ++ frame_cell P (split_frame true slot) (leaf_name leaf) ∷ []) ++ new_leaf_cell ∷ zs) (sym (append_assoc (cells P lower ++ []) (cells_after P at.ctx) rest))) turned
      around_leaf false order map holds =
          let xs = cells_before P at.ctx (split_name slot) in
          let moved : xs ++ split_cell ∷ (cells P lower ++ new_leaf_cell ∷ right) ≡ (xs ++ split_cell ∷ cells P lower) ++ new_leaf_cell ∷ right = sym (append_assoc xs (split_cell ∷ cells P lower) (new_leaf_cell ∷ right)) in
          subst (Holds map) (ap (λ cs. xs ++ split_cell ∷ (cs ++ new_leaf_cell ∷ right)) (sym lower_cells) ∙ moved
          ∙ ap₂ (λ c cs. (xs ++ c ∷ cs) ++ new_leaf_cell ∷ right) (sym (frame_cell_is false order)) (sym (append-nil (cells P lower)))) holds

      module _ (made : Arena K V) (both : AllocatesBoth start made (leaf_name leaf) (lone_leaf key value) (split_name slot) (inner_held (split_node P (take parted.matched (drop depth (bytes key))) parted.old_byte old parted.new_byte (leaf_name leaf)))) where
        holds_made : Holds (node_at made) (left ++ split_cell ∷ ((old, root_cell P at.part) ∷ (below ++ new_leaf_cell ∷ right)))
        holds_made =
            let part = (old, root_cell P at.part) ∷ below in
            let was : Holds (node_at start) ((left ++ part) ++ right) = subst (Holds (node_at start)) (sym (append_assoc left part right)) holds_start in
            let with_leaf = Holds-add (node_at start) (node_at both.between) (leaf_name leaf) (pair key value) (left ++ part) right
            (nodes-update start both.between (leaf_name leaf) (Some (lone_leaf key value)) both.first.updates) (ap cell_of both.first.vacant) was in
            Holds-add (node_at both.between) (node_at made) (split_name slot) _ left (part ++ new_leaf_cell ∷ right)
            (nodes-update both.between made (split_name slot) _ both.second.updates) (ap cell_of both.second.vacant) (subst (Holds (node_at both.between)) (append_assoc left part (new_leaf_cell ∷ right)) with_leaf)

        -- the old part's root is held
        pub part_cell : node_at made old ≡ Some (root_cell P at.part)
        part_cell =
            let Q = λ (c : Name × Cell K V). node_at made c.0 ≡ Some c.1 in
            (all_right Q left (split_cell ∷ ((old, root_cell P at.part) ∷ (below ++ new_leaf_cell ∷ right))) holds_made.held).1.0

        pub part_held : IsSome (held_at made old)
        part_held = cell_held (held_at made old) (root_cell P at.part) part_cell

        module _ (cut : Arena K V) (cell : UpdatesAt (node_at made) (node_at cut) old (Some (root_cell P lower))) (links : (n : ℕ) → links_at cut n ≡ links_at made n) where
          holds_cut : Holds (node_at cut) (left ++ split_cells)
          holds_cut =
              let more = below ++ new_leaf_cell ∷ right in
              subst (Holds (node_at cut)) (append_assoc left (split_cell ∷ []) ((old, root_cell P lower) ∷ more))
              (Holds-write (node_at made) (node_at cut) old (root_cell P at.part) (root_cell P lower) (left ++ split_cell ∷ []) more cell
              (subst (Holds (node_at made)) (sym (append_assoc left (split_cell ∷ []) ((old, root_cell P at.part) ∷ more))) holds_made))

          -- the new leaf is in no list yet
          pub split_beside : IsBeside (links_at cut) (leaves s) leaf
          split_beside =
              beside-same (links_at both.between) (links_at cut) (leaves s) leaf (λ n. links n ∙ links-kept both.between made (split_name slot) _ both.second.updates (not_leaf slot) n)
              (new-beside bytes P (node_at start) root (links_at start) (links_at both.between) s leaf (record { previous = None; next = None }) tree (ap cell_of both.first.vacant)
              (links-update start both.between leaf (Some (lone_leaf key value)) both.first.updates))

          -- the parent has the old part yet
          pub split_stands : (linked : Arena K V) → ((n : Name) → node_at linked n ≡ node_at cut n) → StandsAround bytes P (node_at linked) root at.ctx old split_cells last
          split_stands linked same = record {
            around = at.place.around;
            holds = Holds-same (node_at cut) (node_at linked) same (left ++ split_cells) holds_cut;
            steps = at.steps;
            named = root_named;
          }

      -- the tree with the split
      pub split : (is_before : Bool) → is_before ≡ ltb parted.new_byte parted.old_byte → (linked new : Arena K V) (new_root : Name) → Holds (node_at new) (cells_before P at.ctx (split_name slot) ++ split_cells)
          → root_of at.ctx (split_name slot) ≡ new_root → ((n : ℕ) → links_at new n ≡ links_at linked n)
          → AreLinked (links_at linked) None (leaves_before (split_frame is_before slot ∷ at.ctx) ++ record { slot = leaf; key = key; value = value } ∷ leaves_after (split_frame is_before slot ∷ at.ctx)) None
          → IsInsertedBeside bytes P new rest s last key value (record { leaf_node_ptr = leaf; existing_leaf = None; new_root = new_root; parent_node_change = NewParent (inner.Node4 slot) parted.new_byte })
      split true order linked new new_root holds root_is links in_order =
          inserted_below bytes P s new new_root (split_frame true slot) at.ctx leaf key value last (inner.Node4 slot) (around_leaf true order (node_at new) holds) (around_split true order slot) at.begins root_is
          (AreLinked-same (links_at linked) (links_at new) links None _ None in_order) (split_leaves true slot) refl at.steps
      split false order linked new new_root holds root_is links in_order =
          inserted_below bytes P s new new_root (split_frame false slot) at.ctx leaf key value last (inner.Node4 slot) (around_leaf false order (node_at new) holds) (around_split false order slot) at.begins root_is
          (AreLinked-same (links_at linked) (links_at new) links None _ None in_order) (split_leaves false slot) refl at.steps
