-- A leaf that waits beside a tree for its place under an inner node: what the arena holds there, and how the leaf gets its place.
use Rattle.std.proofs.Common.{◌≡◌, ◌≢◌, ℕ, suc, ◌+◌, ◌<◌, ◌≤◌, ◌⊎◌, List, [], ◌∷◌, ◌++◌, length, take, Option, Some, None, IsSome, refl, sym, ap, ap₂, subst, ◌∙◌, inl, inr, arith, append_assoc}
use Rattle.std.proofs.lemmas.List.{append-nil}
use Rattle.std.proofs.lemmas.Bool.Decides.{eqb_tells, leb_tells}
use Rattle.std.specs.declared.ops.Bound.TheVariants.{Excluded, Unbounded}
use Rattle.art_nodes.proofs.Common.{InnerNode, child_at, first_child, last_child, children_between, with_child, with_children, Name}
use Rattle.art_nodes.specs.declared.kind.NodeType.TheVariants.{Leaf}
use Rattle.art_nodes.specs.declared.leaf.LeafNode.{LeafNode}
use Rattle.art_arena.proofs.Common.{Arena, inner_held, held_as, as_leaf, held_at, node_at, links_at, Cell, pair, branches, leaf_name, UpdatesAt, Holds, Frame, AreBelow, plug, path_to, frame_cell, leaves_before, leaves_after, cells_before, cells_after, IsKindOf, first_slot, last_slot}
use Rattle.art_arena.proofs.Common.{AreLinked, IsPart, IsSubtree, IsNodesBeside, IsTreeBeside, Shape, Branches, leaf_at, no_branch, branch, LeafAt, name_of, children_at, join, width, leaves, leaves_in, cells, cells_in, AreUnder, all_left, all_right, copies-append, Holds-same, Holds-write}
use Rattle.art_arena.proofs.Common.{leaves_in-join, cells_in-join, width-join, leaves-plug, length-children, with_child-opening, IsNodesBeside-plug, inner_of, branch-first, branch-last, has_last, AreUnder-here, nodes-update, links-kept, AreLinked-same}
use Rattle.art_operations.proofs.FreedSizes.{at_most_one}
use Rattle.art_operations.proofs.Terms.{AwaitsLeaf}
use Rattle.art_operations.proofs.NodesRead.{read_at}
use Rattle.art_operations.proofs.NewLeaves.{first_of_longer, last_of_longer}

-- appended lists, grouped in another way
regroup_after : {X : Type 0} (xs bs ts rs cs ds : List X) (n l : X) → xs ++ (n ∷ (bs ++ (l ∷ (((ts ++ rs) ++ cs) ++ ds)))) ≡ (xs ++ (n ∷ (bs ++ (l ∷ [])))) ++ (ts ++ (rs ++ (cs ++ ds)))
regroup_after xs bs ts rs cs ds n l = simp append_assoc

pub regroup_front : {X : Type 0} (xs bs ts cs : List X) (n : X) → xs ++ (n ∷ ((bs ++ ts) ++ cs)) ≡ (xs ++ (n ∷ bs)) ++ (ts ++ cs)
regroup_front xs bs ts cs n = simp append_assoc

module _ {K V : Type 0} where
  -- an inner node is held under no leaf's name
  pub inner-kind : (arena : Arena K V) (n : Name) (node : InnerNode) → held_at arena n ≡ Some (inner_held node) → n.kind ≢ Leaf
  inner-kind arena n node there e = none _ (subst (λ kind. held_as arena kind n.slot ≡ Some (inner_held node)) e there)
    where
      none : (o : Option (LeafNode K V)) → as_leaf o ≡ Some (inner_held node) → ⊥
      none None h = cc
      none (Some leaf) h = cc

  none-after : (kids : Branches K V) → first_child (children_at kids) ≡ None → kids ≡ no_branch
  none-after no_branch e = refl
  none-after (branch b s rest) e = absurd (cc)

  -- the node of a frame with nothing at its place
  abbrev pub open_node : ℕ → Frame K V → InnerNode
  open_node P f =
      let kids = children_at (join f.before f.after) in
      record { header = record { num_children = length kids; prefix_len = length f.prefix; stored = take P f.prefix }; children = kids }

  -- a shape whose cells are among those held is held as a part
  pub part-within : (P : ℕ) (at : Name → Option (Cell K V)) (xs ys : List (Name × Cell K V)) (t : Shape K V) → Holds at (xs ++ (cells P t ++ ys)) → IsPart P at (name_of t) t
  part-within P at xs ys t holds =
      let Q = λ (c : Name × Cell K V). at c.0 ≡ Some c.1 in
      record {
        named = refl;
        held = all_left Q (cells P t) ys (all_right Q xs (cells P t ++ ys) holds.held);
        once = λ n. omega (arith, at_most_one (at n) _ (holds.once n), copies-append n xs (cells P t ++ ys), copies-append n (cells P t) ys);
      }

module _ {K V : Type 0} (bytes : K → List ℕ) where
  none_above : (path : List ℕ) (b low : ℕ) (after : Branches K V) → AreUnder bytes path low after → b + 1 ≤ low → children_between (Excluded b) Unbounded (children_at after) ≡ children_at after
  none_above path b low no_branch under above = refl
  none_above path b low (branch c s rest) under above = elim (leb_tells (suc b) c) [
    | inl more ↦ rw more.0 (ap (λ xs. (c, name_of s) ∷ xs) (none_above path b (c + 1) rest under.2 (omega (arith, under.0, above))))
    | inr less ↦ absurd (omega (arith, less.1, under.0, above))
  ]

  -- the children above an opening are the branches after it
  pub children_after : (path : List ℕ) (b : ℕ) (before after : Branches K V) → AreBelow b before → AreUnder bytes path (b + 1) after
      → children_between (Excluded b) Unbounded (children_at (join before after)) ≡ children_at after
  children_after path b no_branch after below under = none_above path b (b + 1) after under (omega arith)
  children_after path b (branch c s before) after below under = elim (leb_tells (suc b) c) [
    | inl more ↦ absurd (omega (arith, more.1, below.0))
    | inr less ↦ rw less.0 (children_after path b before after below.1 under)
  ]

  none_below : (path : List ℕ) (b low : ℕ) (after : Branches K V) → AreUnder bytes path low after → b + 1 ≤ low → children_between Unbounded (Excluded b) (children_at after) ≡ []
  none_below path b low no_branch under above = refl
  none_below path b low (branch c s rest) under above = elim (leb_tells (suc c) b) [
    | inl less ↦ absurd (omega (arith, less.1, under.0, above))
    | inr more ↦ rw more.0 (none_below path b (c + 1) rest under.2 (omega (arith, under.0, above)))
  ]

  -- the children below an opening are the branches in front of it
  pub children_in_front : (path : List ℕ) (b : ℕ) (before after : Branches K V) → AreBelow b before → AreUnder bytes path (b + 1) after
      → children_between Unbounded (Excluded b) (children_at (join before after)) ≡ children_at before
  children_in_front path b no_branch after below under = none_below path b (b + 1) after under (omega arith)
  children_in_front path b (branch c s before) after below under = elim (leb_tells (suc c) b) [
    | inl less ↦ rw less.0 (ap (λ xs. (c, name_of s) ∷ xs) (children_in_front path b before after below.1 under))
    | inr more ↦ absurd (omega (arith, more.1, below.0))
  ]

  none_from : (path : List ℕ) (b low : ℕ) (after : Branches K V) → AreUnder bytes path low after → b + 1 ≤ low → child_at (children_at after) b ≡ None
  none_from path b low no_branch under above = refl
  none_from path b low (branch c s rest) under above = elim (eqb_tells c b) [
    | inl same ↦ absurd (omega (arith, same.1, under.0, above))
    | inr other ↦ rw other.0 (none_from path b (c + 1) rest under.2 (omega (arith, under.0, above)))
  ]

  -- no child stands in an opening
  pub child_at-opening : (path : List ℕ) (b : ℕ) (before after : Branches K V) → AreBelow b before → AreUnder bytes path (b + 1) after → child_at (children_at (join before after)) b ≡ None
  child_at-opening path b no_branch after below under = none_from path b (b + 1) after under (omega arith)
  child_at-opening path b (branch c s before) after below under = elim (eqb_tells c b) [
    | inl same ↦ absurd (omega (arith, same.1, below.0))
    | inr other ↦ rw other.0 (child_at-opening path b before after below.1 under)
  ]

module _ {K V : Type 0} (bytes : K → List ℕ) (P : ℕ) {rest : List (Name × Cell K V)} (arena : Arena K V) (root node : Name) (byte leaf : ℕ) (f : Frame K V) (outer : List (Frame K V)) (l : LeafAt K V) (awaits : AwaitsLeaf bytes P arena rest root node byte leaf f outer l) where
  -- the node is held, an inner one, with a child for each branch and none under the byte
  pub node-held : held_at arena node ≡ Some (inner_held (open_node P f))
  node-held =
      subst (λ n. held_at arena n ≡ Some (inner_held (open_node P f))) awaits.node_is
      (inner_of (held_at arena f.name) (open_node P f)
      (all_right (λ (c : Name × Cell K V). node_at arena c.0 ≡ Some c.1) (cells_before P outer f.name) ((f.name, branches (open_node P f)) ∷ (cells_in P f.before ++ ((leaf_name l.slot, pair l.key l.value) ∷ (cells_after P (f ∷ outer) ++ rest)))) awaits.holds.held).0)

  pub node-inner : node.kind ≢ Leaf
  node-inner = inner-kind arena node (open_node P f) node-held

  pub none_under_byte : child_at (open_node P f).children byte ≡ None
  none_under_byte = subst (λ b. child_at (children_at (join f.before f.after)) b ≡ None) awaits.byte_is (child_at-opening bytes (path_to outer ++ f.prefix) f.byte f.before f.after awaits.below awaits.after_under)

  pub as_many : length (open_node P f).children ≡ width f.before + width f.after
  as_many = length-children (join f.before f.after) ∙ width-join f.before f.after

  -- where a child may be written under the byte, there is room for one
  pub has_few : (most : ℕ) → (length (open_node P f).children < most) ⊎ IsSome (child_at (open_node P f).children byte) → width f.before + width f.after < most
  has_few most (inl few) = omega (arith, few, as_many)
  has_few most (inr some) = let none = rw none_under_byte at some in absurd (cc)

  following : children_between (Excluded byte) Unbounded (open_node P f).children ≡ children_at f.after
  following = subst (λ b. children_between (Excluded b) Unbounded (children_at (join f.before f.after)) ≡ children_at f.after) awaits.byte_is (children_after bytes (path_to outer ++ f.prefix) f.byte f.before f.after awaits.below awaits.after_under)

  in_front : children_between Unbounded (Excluded byte) (open_node P f).children ≡ children_at f.before
  in_front = subst (λ b. children_between Unbounded (Excluded b) (children_at (join f.before f.after)) ≡ children_at f.before) awaits.byte_is (children_in_front bytes (path_to outer ++ f.prefix) f.byte f.before f.after awaits.below awaits.after_under)

  -- what was read of the node is so of it
  seen_after : (seen : InnerNode) → held_at arena node ≡ Some (inner_held seen) → (r : Option (ℕ × Name)) → r ≡ first_child (children_between (Excluded byte) Unbounded seen.children) → r ≡ first_child (children_at f.after)
  seen_after seen there r e = read_at (λ m. first_child (children_between (Excluded byte) Unbounded m.children)) (held_at arena node) (open_node P f) seen node-held there r e ∙ ap first_child following

  seen_in_front : (seen : InnerNode) → held_at arena node ≡ Some (inner_held seen) → (r : Option (ℕ × Name)) → r ≡ last_child (children_between Unbounded (Excluded byte) seen.children) → r ≡ last_child (children_at f.before)
  seen_in_front seen there r e = read_at (λ m. last_child (children_between Unbounded (Excluded byte) m.children)) (held_at arena node) (open_node P f) seen node-held there r e ∙ ap last_child in_front

  -- a child is the root of a subtree, whose first leaf comes first after the place, or whose last one comes last in front of it
  pub record IsNext (child : Name) : Type 0 where
    pub path : List ℕ
    pub part : Shape K V
    pub subtree : IsSubtree bytes P (node_at arena) child path part
    pub first : (p : ℕ) → first_slot (leaves part) None ≡ Some p → first_slot (leaves_after (f ∷ outer)) None ≡ Some p

  pub next : (seen : InnerNode) → held_at arena node ≡ Some (inner_held seen) → (r : Option (ℕ × Name)) → r ≡ first_child (children_between (Excluded byte) Unbounded seen.children) → (c : ℕ × Name) → r ≡ Some c → IsNext c.1
  next seen there_seen r e c found =
      let b = branch-first f.after c (sym (seen_after seen there_seen r e) ∙ found) in
      let under = subst (AreUnder bytes (path_to outer ++ f.prefix) (f.byte + 1)) b.2 awaits.after_under in
      let there = subst (λ xs. Holds (node_at arena) (cells_before P outer f.name ++ ((f.name, branches (open_node P f)) ∷ (cells_in P f.before ++ ((leaf_name l.slot, pair l.key l.value) ∷ ((xs ++ cells_after P outer) ++ rest))))))
      (ap (cells_in P) b.2) awaits.holds in
      let part = part-within P (node_at arena) _ (cells_in P b.1 ++ (cells_after P outer ++ rest)) b.0
      (subst (Holds (node_at arena)) (regroup_after (cells_before P outer f.name) (cells_in P f.before) (cells P b.0) (cells_in P b.1) (cells_after P outer) rest _ _) there) in
      record {
        path = (path_to outer ++ f.prefix) ++ c.0 ∷ [];
        part = b.0;
        subtree = subst (λ n. IsSubtree bytes P (node_at arena) n ((path_to outer ++ f.prefix) ++ c.0 ∷ []) b.0) b.3 (record { part = part; under = under.1 });
        first = λ p h. subst (λ ls. first_slot (ls ++ leaves_after outer) None ≡ Some p) (sym (ap leaves_in b.2))
            (first_of_longer (leaves b.0 ++ leaves_in b.1) (leaves_after outer) p (first_of_longer (leaves b.0) (leaves_in b.1) p h));
      }

  pub record IsPrevious (child : Name) : Type 0 where
    pub path : List ℕ
    pub part : Shape K V
    pub subtree : IsSubtree bytes P (node_at arena) child path part
    pub last : (p : ℕ) → last_slot None (leaves part) ≡ Some p → last_slot None (leaves_before (f ∷ outer)) ≡ Some p

  pub previous : (seen : InnerNode) → held_at arena node ≡ Some (inner_held seen) → (r : Option (ℕ × Name)) → r ≡ last_child (children_between Unbounded (Excluded byte) seen.children) → (c : ℕ × Name) → r ≡ Some c → IsPrevious c.1
  previous seen there_seen r e c found =
      let b = branch-last f.before c (sym (seen_in_front seen there_seen r e) ∙ found) in
      let under = AreUnder-here bytes (path_to outer ++ f.prefix) 0 b.0 c.0 b.1 no_branch (subst (AreUnder bytes (path_to outer ++ f.prefix) 0) b.2 awaits.before_under) in
      let cells_are : cells_in P f.before ≡ cells_in P b.0 ++ cells P b.1 = ap (cells_in P) b.2 ∙ cells_in-join P b.0 (branch c.0 b.1 no_branch) ∙ ap (λ xs. cells_in P b.0 ++ xs) (append-nil (cells P b.1)) in
      let leaves_are : leaves_in f.before ≡ leaves_in b.0 ++ leaves b.1 = ap leaves_in b.2 ∙ leaves_in-join b.0 (branch c.0 b.1 no_branch) ∙ ap (λ xs. leaves_in b.0 ++ xs) (append-nil (leaves b.1)) in
      let there = subst (λ xs. Holds (node_at arena) (cells_before P outer f.name ++ ((f.name, branches (open_node P f)) ∷ (xs ++ ((leaf_name l.slot, pair l.key l.value) ∷ (cells_after P (f ∷ outer) ++ rest)))))) cells_are awaits.holds in
      let part = part-within P (node_at arena) _ ((leaf_name l.slot, pair l.key l.value) ∷ (cells_after P (f ∷ outer) ++ rest)) b.1
      (subst (Holds (node_at arena)) (regroup_front (cells_before P outer f.name) (cells_in P b.0) (cells P b.1) ((leaf_name l.slot, pair l.key l.value) ∷ (cells_after P (f ∷ outer) ++ rest)) _) there) in
      record {
        path = (path_to outer ++ f.prefix) ++ c.0 ∷ [];
        part = b.1;
        subtree = subst (λ n. IsSubtree bytes P (node_at arena) n ((path_to outer ++ f.prefix) ++ c.0 ∷ []) b.1) b.3 (record { part = part; under = under });
        last = λ p h. subst (λ ls. last_slot None (leaves_before outer ++ ls) ≡ Some p) (sym leaves_are)
            (last_of_longer (leaves_before outer) (leaves_in b.0 ++ leaves b.1) p (last_of_longer (leaves_in b.0) (leaves b.1) p h));
      }

  -- there is a child on one side
  pub some_child : (seen : InnerNode) → held_at arena node ≡ Some (inner_held seen) → (p n : Option (ℕ × Name)) → p ≡ last_child (children_between Unbounded (Excluded byte) seen.children)
      → n ≡ first_child (children_between (Excluded byte) Unbounded seen.children) → p ≡ None → n ≡ None → ⊥
  some_child seen there p n before after none none_after =
      let alone : f.after ≡ no_branch = none-after f.after (sym (seen_after seen there n after) ∙ none_after) in
      let wide : 2 ≤ width f.before + width f.after = awaits.two in
      let narrow : width f.after ≡ 0 = ap width alone in
      let some = rw (sym (seen_in_front seen there p before) ∙ none) at (has_last f.before (omega (arith, wide, narrow))) in absurd (cc)

  -- once the leaf is linked in and the node has it under the byte, it stands in the tree
  pub child_was_put : (linked new : Arena K V) → ((n : Name) → node_at linked n ≡ node_at arena n) → AreLinked (links_at linked) None (leaves_before (f ∷ outer) ++ (l ∷ leaves_after (f ∷ outer))) None
      → UpdatesAt (held_at linked) (held_at new) node (Some (inner_held (with_children (open_node P f) (with_child (open_node P f).children byte (leaf_name leaf)))))
      → IsKindOf node.kind (suc (width f.before + width f.after))
      → IsTreeBeside bytes P (node_at new) root (links_at new) rest (plug (f ∷ outer) (leaf_at l.slot l.key l.value))
  child_was_put linked new same list update kind =
      let kids : with_child (open_node P f).children byte (leaf_name leaf) ≡ children_at f.before ++ (f.byte, leaf_name l.slot) ∷ children_at f.after =
      ap₂ (λ b s. with_child (open_node P f).children b (leaf_name s)) (sym awaits.byte_is) (sym awaits.leaf_is)
      ∙ with_child-opening bytes f.byte (leaf_name l.slot) f.before f.after (path_to outer ++ f.prefix) awaits.below awaits.after_under in
      let written = subst (λ n. UpdatesAt (node_at linked) (node_at new) n (Some (frame_cell P f (leaf_name l.slot)).1)) (sym awaits.node_is)
      (subst (λ xs. UpdatesAt (node_at linked) (node_at new) node (Some (branches (with_children (open_node P f) xs)))) kids (nodes-update linked new node _ update)) in
      let holds = Holds-write (node_at linked) (node_at new) f.name (branches (open_node P f)) (frame_cell P f (leaf_name l.slot)).1 (cells_before P outer f.name) (cells_in P f.before ++ ((leaf_name l.slot, pair l.key l.value) ∷ (cells_after P (f ∷ outer) ++ rest)))
      written (Holds-same (node_at arena) (node_at linked) same _ awaits.holds) in
      let nodes = IsNodesBeside-plug bytes P (node_at new) rest (f ∷ outer) (leaf_at l.slot l.key l.value)
      (subst (Holds (node_at new)) (sym (append_assoc (cells_before P outer f.name) (frame_cell P f (leaf_name l.slot) ∷ cells_in P f.before) ((leaf_name l.slot, pair l.key l.value) ∷ (cells_after P (f ∷ outer) ++ rest)))) holds)
      (subst (λ n. IsKindOf n.kind (suc (width f.before + width f.after))) (sym awaits.node_is) kind, awaits.before_under, awaits.below, awaits.after_under, awaits.around) awaits.begins in
      record {
        nodes = subst (λ n. IsNodesBeside bytes P (node_at new) n rest (plug (f ∷ outer) (leaf_at l.slot l.key l.value))) awaits.named nodes;
        linked = subst (λ ls. AreLinked (links_at new) None ls None) (sym (leaves-plug (f ∷ outer) (leaf_at l.slot l.key l.value)))
            (AreLinked-same (links_at linked) (links_at new) (links-kept linked new node _ update node-inner) None _ None list);
      }
