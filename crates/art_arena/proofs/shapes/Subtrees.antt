-- A subtree: what the arena has at its root, its children, and its leaves.
use Rattle.std.proofs.Common.{◌≡◌, ◌≢◌, ℕ, ◌+◌, ◌<◌, ◌≤◌, List, [], ◌∷◌, ◌++◌, length, Option, Some, None, IsSome, refl, sym, ap, subst, ◌∙◌, arith, length-append, take}
use Rattle.art_nodes.proofs.Common.{InnerNode, first_child, last_child, Name}
use Rattle.art_nodes.specs.declared.kind.NodeType.TheVariants.{Leaf}
use Rattle.art_nodes.specs.declared.leaf.LeafNode.{LeafNode}
use Rattle.art_arena.proofs.Terms.{IsKindOf, Cell, pair, branches, copies, AreHeld, Arena, Held, leaf_held, inner_held, cell_of, held_at, node_at, slots_of, Shape, Branches, leaf_at, inner_at, no_branch, branch, LeafAt, name_of, children_at, join, leaves, leaves_in, cells, cells_in}
use Rattle.art_arena.proofs.Terms.{IsUnder, AreUnder, width, prefix_of, IsSubtree}
use Rattle.art_arena.proofs.tree.Order.{all_left, all_right}
use Rattle.std.specs.List.{AllByRecursion}
use Rattle.std.proofs.lemmas.List.{append-nil}
use Rattle.art_bytes.proofs.Common.{BeginsWith}
use Rattle.art_arena.proofs.shapes.CellLists.{copies-append}
use Rattle.art_arena.proofs.shapes.Contexts.{cells_in-join}
use Rattle.art_arena.proofs.shapes.Places.{around, leaves_in-begin}
use Rattle.art_arena.proofs.shapes.Measures.{cells_few, nodes_below, nodes_below-held}

module _ {K V : Type 0} where
  -- what the arena holds where a cell of this form stands

  pub inner_of : (o : Option (Held K V)) (node : InnerNode) → cell_of o ≡ Some (branches node) → o ≡ Some (inner_held node)
  inner_of None node e = absurd (cc)
  inner_of (Some (leaf_held leaf)) node e = absurd (cc)
  inner_of (Some (inner_held m)) node e = cc

  -- and that something is held there
  pub cell_held : (o : Option (Held K V)) (c : Cell K V) → cell_of o ≡ Some c → IsSome o
  cell_held None c e = absurd (cc)
  cell_held (Some h) c e = refl

  pub record HoldsPair (o : Option (Held K V)) (k : K) (v : V) : Type 0 where
    pub leaf : LeafNode K V
    pub is : o ≡ Some (leaf_held leaf)
    pub key : leaf.key ≡ k
    pub value : leaf.value ≡ v

  pub holds_pair : (o : Option (Held K V)) (k : K) (v : V) → cell_of o ≡ Some (pair k v) → HoldsPair o k v
  holds_pair None k v e = absurd (cc)
  holds_pair (Some (leaf_held leaf)) k v e = record { leaf = leaf; is = refl; key = (cc); value = (cc) }
  holds_pair (Some (inner_held m)) k v e = absurd (cc)

  -- the branches before one and those after it

  pub branch-first : (kids : Branches K V) (c : ℕ × Name) → first_child (children_at kids) ≡ Some c
      → (t : Shape K V) × (rest : Branches K V) × (kids ≡ branch c.0 t rest) × (name_of t ≡ c.1)
  branch-first no_branch c e = absurd (cc)
  branch-first (branch b t rest) c e = let same : (b, name_of t) ≡ c = cc in (t, rest, ap (λ (p : ℕ × Name). branch p.0 t rest) same, ap (λ (p : ℕ × Name). p.1) same)

  pub branch-last : (kids : Branches K V) (c : ℕ × Name) → last_child (children_at kids) ≡ Some c
      → (before : Branches K V) × (t : Shape K V) × (kids ≡ join before (branch c.0 t no_branch)) × (name_of t ≡ c.1)
  branch-last no_branch c e = absurd (cc)
  branch-last (branch b t no_branch) c e = let same : (b, name_of t) ≡ c = cc in (no_branch, t, ap (λ (p : ℕ × Name). branch p.0 t no_branch) same, ap (λ (p : ℕ × Name). p.1) same)
  branch-last (branch b t (branch d u rest)) c e =
      let later = branch-last (branch d u rest) c e in
      (branch b t later.0, later.1, ap (λ f. branch b t f) later.2, later.3)

  pub has_first : (kids : Branches K V) → 2 ≤ width kids → IsSome (first_child (children_at kids))
  has_first no_branch wide = absurd (omega (arith, wide))
  has_first (branch b t rest) wide = refl

  pub has_last : (kids : Branches K V) → 1 ≤ width kids → IsSome (last_child (children_at kids))
  has_last no_branch wide = absurd (omega (arith, wide))
  has_last (branch b t no_branch) wide = refl
  has_last (branch b t (branch d u rest)) wide = has_last (branch d u rest) (omega arith)

module _ {K V : Type 0} (bytes : K → List ℕ) where
  pub AreUnder-here : (path : List ℕ) (low : ℕ) (before : Branches K V) (b : ℕ) (t : Shape K V) (after : Branches K V)
      → AreUnder bytes path low (join before (branch b t after)) → IsUnder bytes (path ++ b ∷ []) t
  AreUnder-here path low before b t after under = (around bytes path low before b t after under).here_under

  -- each canonical shape has a leaf
  pub some_leaf : (path : List ℕ) (s : Shape K V) → IsUnder bytes path s → (l : LeafAt K V) × (ls : List (LeafAt K V)) × (leaves s ≡ l ∷ ls)
  some_leaf path (leaf_at slot k v) under = (_, [], refl)
  some_leaf path (inner_at n prefix no_branch) under = absurd (let two = under.0.two in omega (arith, two))
  some_leaf path (inner_at n prefix (branch b t rest)) under =
      let first = some_leaf ((path ++ prefix) ++ b ∷ []) t under.1.1 in
      (first.0, first.1 ++ leaves_in rest, ap (λ xs. xs ++ leaves_in rest) first.2)

  -- each key below begins with the path, and after it the prefix
  pub leaves_begin_prefix : (path : List ℕ) (s : Shape K V) → IsUnder bytes path s → AllByRecursion (λ l. BeginsWith (path ++ prefix_of s) (bytes l.key)) (leaves s)
  leaves_begin_prefix path (leaf_at slot k v) under = (rw append-nil under, tt)
  leaves_begin_prefix path (inner_at n prefix kids) under = leaves_in-begin bytes (path ++ prefix) 0 kids under.1

  module _ (P : ℕ) (at : Name → Option (Cell K V)) where
    pub subtree-leaf : (n : Name) (path : List ℕ) (s : Shape K V) → IsSubtree bytes P at n path s → n.kind ≡ Leaf → (k : K) × (v : V) × (s ≡ leaf_at n.slot k v)
    subtree-leaf n path (leaf_at slot k v) sub kind = (k, v, ap (λ m. leaf_at m k v) (ap (λ (m : Name). m.slot) sub.part.named))
    subtree-leaf n path (inner_at m prefix kids) sub kind =
        let is : IsKindOf Leaf (width kids) = subst (λ k. IsKindOf k (width kids)) (ap (λ (m : Name). m.kind) sub.part.named ∙ kind) sub.under.0 in
        absurd (let two = is.two in let most = is.most in omega (arith, two, most))

    pub subtree-inner : (n : Name) (path : List ℕ) (s : Shape K V) → IsSubtree bytes P at n path s → n.kind ≢ Leaf → (prefix : List ℕ) × (kids : Branches K V) × (s ≡ inner_at n prefix kids)
    subtree-inner n path (leaf_at slot k v) sub other = absurd (other (ap (λ (m : Name). m.kind) (sym sub.part.named)))
    subtree-inner n path (inner_at m prefix kids) sub other = (prefix, kids, ap (λ m. inner_at m prefix kids) sub.part.named)

    -- a node is held at a subtree's root
    pub subtree-held : (n : Name) (path : List ℕ) (s : Shape K V) → IsSubtree bytes P at n path s → IsSome (at n)
    subtree-held n path (leaf_at slot k v) sub = subst (λ m. IsSome (at m)) sub.part.named (rw sub.part.held.0 refl)
    subtree-held n path (inner_at m prefix kids) sub = subst (λ m. IsSome (at m)) sub.part.named (rw sub.part.held.0 refl)

    -- what stands below a branch of a subtree is a subtree of fewer nodes
    pub record IsSmallerSubtree (path : List ℕ) (t : Shape K V) (more : ℕ) : Type 0 where
      pub subtree : IsSubtree bytes P at (name_of t) path t
      pub fewer : length (cells P t) < more

    pub subtree-branch : (n : Name) (path prefix : List ℕ) (kids before : Branches K V) (b : ℕ) (t : Shape K V) (after : Branches K V)
        → IsSubtree bytes P at n path (inner_at n prefix kids) → kids ≡ join before (branch b t after)
        → IsSmallerSubtree ((path ++ prefix) ++ b ∷ []) t (length (cells P (inner_at n prefix kids)))
    subtree-branch n path prefix kids before b t after sub whole =
        let P_at = λ (c : Name × Cell K V). at c.0 ≡ Some c.1 in
        let parts : cells_in P kids ≡ cells_in P before ++ (cells P t ++ cells_in P after) = ap (cells_in P) whole ∙ cells_in-join P before (branch b t after) in
        let held : AreHeld at (cells_in P before ++ (cells P t ++ cells_in P after)) = subst (AreHeld at) parts sub.part.held.1 in
        let under : AreUnder bytes (path ++ prefix) 0 (join before (branch b t after)) = subst (AreUnder bytes (path ++ prefix) 0) whole sub.under.1 in
        let len : length (cells_in P kids) ≡ length (cells_in P before) + (length (cells P t) + length (cells_in P after)) =
        ap length parts ∙ length-append (cells_in P before) (cells P t ++ cells_in P after) ∙ ap (λ m. length (cells_in P before) + m) (length-append (cells P t) (cells_in P after)) in
        record {
          subtree = record {
            part = record {
              named = refl;
              held = all_left P_at (cells P t) (cells_in P after) (all_right P_at (cells_in P before) (cells P t ++ cells_in P after) held);
              once = λ m.
                  let whole_once = sub.part.once m in
                  let counted = ap (copies m) parts ∙ copies-append m (cells_in P before) (cells P t ++ cells_in P after) in
                  omega (arith, whole_once, counted, copies-append m (cells P t) (cells_in P after));
            };
            under = AreUnder-here (path ++ prefix) 0 before b t after under;
          };
          fewer = omega (arith, len);
        }

module _ {K V : Type 0} (bytes : K → List ℕ) (P : ℕ) (arena : Arena K V) where
  -- the node at a subtree's root

  pub root_held : (n : Name) (path prefix : List ℕ) (kids : Branches K V) → IsSubtree bytes P (node_at arena) n path (inner_at n prefix kids)
      → held_at arena n ≡ Some (inner_held (record { header = record { num_children = length (children_at kids); prefix_len = length prefix; stored = take P prefix }; children = children_at kids }))
  root_held n path prefix kids sub = inner_of (held_at arena n) _ sub.part.held.0

  -- the measure of a walk down: a subtree's nodes
  pub measure_is : (n : Name) (path : List ℕ) (s : Shape K V) → IsSubtree bytes P (node_at arena) n path s → nodes_below (slots_of arena) (node_at arena) n ≡ length (cells P s)
  measure_is n path s sub =
      ap (nodes_below (slots_of arena) (node_at arena)) (sym sub.part.named)
      ∙ nodes_below-held P (node_at arena) (slots_of arena) s sub.part.held (cells_few P arena n s sub.part)
