-- A node of two children without one: the other child stands for it, after a longer prefix.
use Rattle.std.proofs.Common.{◌≡◌, ◌≢◌, ℕ, ◌+◌, ◌≤◌, cond, Option, List, [], ◌∷◌, ◌++◌, length, take, Some, None, inl, inr, refl, sym, ap, ap₂, subst, ◌∙◌, arith, append_assoc, length-append}
use Rattle.std.proofs.lemmas.List.{append-nil}
use Rattle.art_nodes.proofs.Common.{Name, InnerNode}
use Rattle.art_arena.proofs.Common.{Arena, held_at, node_at, Cell, branches, leaf_name, copies, Holds, UpdatesAt, Frame, path_to, frame_cell, cells_before, cells_after, AreBelow, IsPart, IsSubtree, Shape, Branches, leaf_at, inner_at, no_branch, branch, name_of, children_at, join, width}
use Rattle.art_arena.proofs.Common.{leaves, leaves_in, cells, cells_in, node_of, IsUnder, AreUnder, all_right, same_name-self, copies-append, Holds-write, Holds-remove, Holds-same, leaves_in-join, frame_node, inner_of, nodes-update, nodes-same}
use Rattle.art_operations.proofs.Terms.{IsHeldAt, StandsFor, Lengthens, lengthened, IsOther}
use Rattle.art_operations.proofs.Apart.{set_apart, AreUnder-closed}
use Rattle.art_operations.proofs.JoinedPrefixes.{joined}
use Rattle.art_operations.proofs.Lengthened.{kind_not_leaf}
use Rattle.art_bytes.proofs.Common.{begins_append}
use Rattle.art_operations.proofs.FreedSizes.{at_most_one}
use Rattle.art_operations.proofs.Waiting.{part-within}

module _ {K V : Type 0} where
  -- the shape after a longer prefix
  abbrev pub after_more : List ℕ → ℕ → Shape K V → Shape K V
  after_more prefix b (leaf_at slot k v) = leaf_at slot k v
  after_more prefix b (inner_at n q kids) = inner_at n (prefix ++ b ∷ q) kids

  -- it has the name that it had
  pub same_name_of : (prefix : List ℕ) (b : ℕ) (s : Shape K V) → name_of (after_more prefix b s) ≡ name_of s
  same_name_of prefix b (leaf_at slot k v) = refl
  same_name_of prefix b (inner_at n q kids) = refl

  -- and the leaves
  pub same_leaves : (prefix : List ℕ) (b : ℕ) (s : Shape K V) → leaves (after_more prefix b s) ≡ leaves s
  same_leaves prefix b (leaf_at slot k v) = refl
  same_leaves prefix b (inner_at n q kids) = refl

  -- the cell of a node whose prefix is lengthened
  lengthened_cell : (P : ℕ) (prefix : List ℕ) (b : ℕ) (q : List ℕ) (kids above : List (ℕ × Name))
      → ◌≡◌ {A = Cell K V} (branches (lengthened P (record { header = record { num_children = length above; prefix_len = length prefix; stored = take P prefix }; children = above }) b
      (record { header = record { num_children = length kids; prefix_len = length q; stored = take P q }; children = kids })))
      (node_of P (prefix ++ b ∷ q) kids)
  lengthened_cell P prefix b q kids above =
      let len : length prefix + 1 + length q ≡ length (prefix ++ b ∷ q) = omega (arith, length-append prefix (b ∷ q)) in
      ap₂ (λ n s. branches (record { header = record { num_children = length kids; prefix_len = n; stored = s }; children = kids })) len (joined P prefix b q)

  -- the other child's prefix is lengthened among the cells, and then its node's cell goes
  module _ (P : ℕ) (old mid new : Arena K V) (place : Name) (prefix : List ℕ) (above : List (ℕ × Name)) (b : ℕ)
      (gone : UpdatesAt (held_at mid) (held_at new) place None) where
    abbrev above_node : InnerNode
    above_node = record { header = record { num_children = length above; prefix_len = length prefix; stored = take P prefix }; children = above }

    -- the cells are then those of the other child after the longer prefix
    pub merge_cells : (s : Shape K V) → (path : List ℕ) → (bytes : K → List ℕ) → IsUnder bytes path s → Lengthens P old mid above_node b (name_of s) → (was : Cell K V) (xs ys : List (Name × Cell K V))
        → Holds (node_at old) (xs ++ ((place, was) ∷ (cells P s ++ ys))) → Holds (node_at new) (xs ++ (cells P (after_more prefix b s) ++ ys))
    merge_cells (leaf_at slot k v) path bytes under lengthens was xs ys holds =
        Holds-remove (node_at mid) (node_at new) place was xs _ (nodes-update mid new place None gone) (Holds-same (node_at old) (node_at mid) (nodes-same old mid (lengthens.0 refl)) _ holds)
    merge_cells (inner_at n q kids) path bytes under lengthens was xs ys holds =
        let Q = λ (x : Name × Cell K V). node_at old x.0 ≡ Some x.1 in
        let there = (all_right Q xs ((place, was) ∷ (cells P (inner_at n q kids) ++ ys)) holds.held).1.0 in
        let longer = nodes-update old mid n _ (lengthens.1 (kind_not_leaf n (width kids) under.0) _ (inner_of (held_at old n) _ there)) in
        let write = Holds-write (node_at old) (node_at mid) n (node_of P q (children_at kids)) _ (xs ++ (place, was) ∷ []) (cells_in P kids ++ ys) longer
        (subst (Holds (node_at old)) (sym (append_assoc xs ((place, was) ∷ []) ((n, node_of P q (children_at kids)) ∷ (cells_in P kids ++ ys)))) holds) in
        let named : ◌≡◌ {A = List (Name × Cell K V)} ((xs ++ (place, was) ∷ [])
        ++ (
          n,
          branches (lengthened P above_node b
              (record { header = record { num_children = length (children_at kids); prefix_len = length q; stored = take P q }; children = children_at kids })),
        )
        ∷ (cells_in P kids ++ ys)) (xs ++ ((place, was) ∷ (cells P (inner_at n (prefix ++ b ∷ q) kids) ++ ys))) =
        append_assoc xs ((place, was) ∷ []) _ ∙ ap (λ c. xs ++ ((place, was) ∷ ((n, c) ∷ (cells_in P kids ++ ys)))) (lengthened_cell P prefix b q (children_at kids) above) in
        Holds-remove (node_at mid) (node_at new) place was xs _ (nodes-update mid new place None gone) (subst (Holds (node_at mid)) named write)

  -- a shape whose cells stand among others is a part
  pub part_of : (P : ℕ) (at : Name → Option (Cell K V)) (s : Shape K V) (xs : List (Name × Cell K V)) (x : Name × Cell K V) (ys : List (Name × Cell K V))
      → Holds at (xs ++ (x ∷ (cells P s ++ ys))) → IsPart P at (name_of s) s
  part_of P at s xs x ys holds = part-within P at (xs ++ x ∷ []) ys s (subst (Holds at) (sym (append_assoc xs (x ∷ []) (cells P s ++ ys))) holds)

  copies-root : (P : ℕ) (s : Shape K V) → 1 ≤ copies (name_of s) (cells P s)
  copies-root P (leaf_at slot k v) = omega (arith, ap {B = ℕ} (λ b. cond b 1 0) (same_name-self (leaf_name slot)))
  copies-root P (inner_at n prefix kids) = omega (arith, ap {B = ℕ} (λ b. cond b 1 0) (same_name-self n))

  -- and has another name than what stands before it
  pub root_apart : (P : ℕ) (at : Name → Option (Cell K V)) (s : Shape K V) (xs : List (Name × Cell K V)) (n : Name) (c : Cell K V) (ys : List (Name × Cell K V))
      → Holds at (xs ++ ((n, c) ∷ (cells P s ++ ys))) → name_of s ≢ n
  root_apart P at s xs n c ys holds e =
      let here : 1 ≤ copies n (cells P s) = subst (λ m. 1 ≤ copies m (cells P s)) e (copies-root P s) in
      let parts : copies n (xs ++ ((n, c) ∷ (cells P s ++ ys))) ≡ copies n xs + (1 + copies n (cells P s ++ ys)) = rw same_name-self at (copies-append n xs ((n, c) ∷ (cells P s ++ ys))) in
      omega (arith, at_most_one (at n) _ (holds.once n), here, parts, copies-append n (cells P s) ys)

  -- of two branches, one of which is put aside, one is left
  pub record OneLeft (before : Branches K V) (byte : ℕ) (n : Name) (after : Branches K V) : Type 0 where
    pub edge : ℕ
    pub here : Shape K V
    pub is : join before after ≡ branch edge here no_branch
    pub other : IsOther (children_at before ++ (byte, n) ∷ children_at after) byte (edge, name_of here)

module _ {K V : Type 0} (bytes : K → List ℕ) where
  -- after the path and the prefix, instead of after the path to the other child
  pub under_more : (path prefix : List ℕ) (b : ℕ) (s : Shape K V) → IsUnder bytes ((path ++ prefix) ++ b ∷ []) s → IsUnder bytes path (after_more prefix b s)
  under_more path prefix b (leaf_at slot k v) under = begins_append path prefix (bytes k) (begins_append (path ++ prefix) (b ∷ []) (bytes k) under)
  under_more path prefix b (inner_at n q kids) under =
      let same : ((path ++ prefix) ++ b ∷ []) ++ q ≡ path ++ (prefix ++ b ∷ q) = simp append_assoc in
      (under.0, subst (λ p. AreUnder bytes p 0 kids) same under.1)

  -- of two in all, one is left
  pub one_left : (path : List ℕ) (before : Branches K V) (byte : ℕ) (n : Name) (after : Branches K V) → AreBelow byte before → AreUnder bytes path (byte + 1) after
      → width before + width after ≡ 1 → OneLeft before byte n after
  one_left path no_branch byte n no_branch below under one = absurd (omega (arith, one))
  one_left path no_branch byte n (branch c t no_branch) below under one =
      record { edge = c; here = t; is = refl; other = record { child = n; apart = λ e. absurd (omega (arith, under.0, e)); are = inl refl } }
  one_left path no_branch byte n (branch c t (branch d u rest)) below under one = absurd (omega (arith, one))
  one_left path (branch c t no_branch) byte n no_branch below under one =
      record { edge = c; here = t; is = refl; other = record { child = n; apart = λ e. absurd (omega (arith, below.0, e)); are = inr refl } }
  one_left path (branch c t no_branch) byte n (branch d u rest) below under one = absurd (omega (arith, one))
  one_left path (branch c t (branch d u rest)) byte n after below under one = absurd (omega (arith, one))

module _ {K V : Type 0} {bytes : K → List ℕ} {P : ℕ} {rest : List (Name × Cell K V)} {old : Arena K V} {f : Frame K V} {outer : List (Frame K V)} {part : Shape K V} (at : IsHeldAt bytes P old rest (f ∷ outer) part) (one : OneLeft f.before f.byte (name_of part) f.after) where
  -- the other child stands after this path
  abbrev pub other_path : List ℕ
  other_path = (path_to outer ++ f.prefix) ++ one.edge ∷ []

  other_under : IsUnder bytes other_path one.here
  other_under =
      let closed = AreUnder-closed bytes (path_to outer ++ f.prefix) 0 f.byte f.before f.after at.around.1 at.around.2 (omega arith) at.around.3 in
      (subst (AreUnder bytes (path_to outer ++ f.prefix) 0) one.is closed).1

  other_cells : Holds (node_at old) (cells_before P outer f.name ++ (frame_cell P f (name_of part) ∷ (cells P one.here ++ (cells_after P outer ++ (cells P part ++ rest)))))
  other_cells =
      let listed = ap (cells_in P) one.is ∙ append-nil (cells P one.here) in
      subst (λ cs. Holds (node_at old) (cells_before P outer f.name ++ (frame_cell P f (name_of part) ∷ (cs ++ (cells_after P outer ++ (cells P part ++ rest)))))) listed (set_apart P (node_at old) rest f outer part at.holds)

  -- the arena has the other child there
  pub other_subtree : IsSubtree bytes P (node_at old) (name_of one.here) other_path one.here
  other_subtree = record { part = part_of P (node_at old) one.here (cells_before P outer f.name) (frame_cell P f (name_of part)) (cells_after P outer ++ (cells P part ++ rest)) other_cells; under = other_under }

  -- under another name than the node
  pub other_apart : name_of one.here ≢ f.name
  other_apart = root_apart P (node_at old) one.here (cells_before P outer f.name) f.name _ (cells_after P outer ++ (cells P part ++ rest)) other_cells

  -- it stands for the node, lengthened
  pub merged : (mid new : Arena K V) → Lengthens P old mid (frame_node P f (name_of part)) one.edge (name_of one.here) → UpdatesAt (held_at mid) (held_at new) f.name None
      → StandsFor bytes P new rest f outer part (name_of one.here)
  merged mid new lengthens gone = record {
    remains = after_more f.prefix one.edge one.here;
    named = same_name_of f.prefix one.edge one.here;
    holds = merge_cells P old mid new f.name f.prefix (children_at f.before ++ (f.byte, name_of part) ∷ children_at f.after) one.edge gone one.here other_path bytes other_under lengthens _ (cells_before P outer f.name) (cells_after P outer ++ (cells P part ++ rest)) other_cells;
    under = under_more bytes (path_to outer) f.prefix one.edge one.here other_under;
    left = same_leaves f.prefix one.edge one.here ∙ sym (append-nil (leaves one.here)) ∙ sym (ap leaves_in one.is) ∙ leaves_in-join f.before f.after;
  }
