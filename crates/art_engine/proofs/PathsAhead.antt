-- The nodes of a way in an arena are the first nodes of a key's path in its tree.
use Rattle.std.proofs.Common.{◌≡◌, ℕ, suc, zero, ◌+◌, ◌≤◌, Some, Option, List, [], ◌∷◌, length, drop, refl, sym, ap, subst, ◌∙◌, inl, inr, arith}
use Rattle.std.proofs.Math.Seq.{drop-nil}
use Rattle.std.proofs.lemmas.Bool.Decides.{eqb_tells}
use Rattle.std.specs.Prelude.{None, MatchOption}
use Rattle.art_nodes.proofs.Common.{Name, child_at}
use Rattle.art_nodes.specs.InnerNode.{InnerNode}
use Rattle.art_arena.proofs.Common.{Arena, AreHeld, Branches, Cell, Shape, Tree, all_left, all_right, branch, branches, cell_of, cells, cells_in, children_at, erase, erase_in, inner_at, key_of, leaf_at, name_of, no_branch, node_at, node_of, pair, path_in, path_of, tree_of}
use Rattle.art_arena.proofs.shapes.Finding.{dropped}
use Rattle.art_arena.specs.tree.Paths.{look_up_in, look_up_path}
use Rattle.art_operations.specs.Runs.{HoldsTreeOf}
use Rattle.art_engine.specs.Ahead.{AreNodesAlong, IsWay, nodes_to}

pub drop-drop : (a b : ℕ) (k : List ℕ) → drop a (drop b k) ≡ drop (b + a) k
drop-drop a zero k = let same : a ≡ zero + a = omega arith in ap (λ n. drop n k) same
drop-drop a (suc b) [] = drop-nil a ∙ sym (drop-nil (suc b + a))
drop-drop a (suc b) (x ∷ xs) = let same : suc (b + a) ≡ suc b + a = omega arith in drop-drop a b xs ∙ ap (λ n. drop n (x ∷ xs)) same

-- what follows on a path after this node
abbrev below : {K V : Type 0} → Shape K V → List ℕ → List (Tree (K × V))
below (leaf_at slot k v) key = []
below (inner_at n prefix kids) key = path_in (erase_in kids) (drop (length prefix) key)

-- the inner node that a cell is
abbrev pub node_in : {K V : Type 0} → Option (Cell K V) → InnerNode → InnerNode
node_in (Some (branches node)) other = node
node_in cell other = other

module _ {K V : Type 0} (P : ℕ) (arena : Arena K V) where
  -- a node, and those after it
  first_of : (n : Name) (names : List Name) (s : Shape K V) (key : List ℕ) → n ≡ name_of s → AreHeld (node_at arena) (cells P s) → AreNodesAlong P arena names (below s key) → AreNodesAlong P arena (n ∷ names) (path_of (erase s) key)
  first_of n names (leaf_at slot k v) key is held rest = ((leaf_at slot k v, sym is, held, refl), rest)
  first_of n names (inner_at m prefix kids) key is held rest = ((inner_at m prefix kids, sym is, held, refl), rest)

  -- the child under a byte
  pub record KidAt (kids : Branches K V) (byte : ℕ) (rest : List ℕ) (child : Name) : Type 0 where
    pub shape : Shape K V
    pub named : name_of shape ≡ child
    pub held : AreHeld (node_at arena) (cells P shape)
    pub path : path_in (erase_in kids) (byte ∷ rest) ≡ path_of (erase shape) rest
    pub look_up : look_up_in P (erase_in kids) (byte ∷ rest) ≡ look_up_path P (erase shape) rest

  pub kid_at : (kids : Branches K V) (byte : ℕ) (rest : List ℕ) (child : Name) → child_at (children_at kids) byte ≡ Some child → AreHeld (node_at arena) (cells_in P kids) → KidAt kids byte rest child
  kid_at no_branch byte rest child is held = absurd (cc)
  kid_at (branch c s more) byte rest child is held =
      elim (eqb_tells c byte) [
        | inl same ↦ elim (eqb_tells byte c) [
          | inl back ↦ record {
            shape = s;
            named = let e = rw same.0 at is in cc;
            held = all_left (λ x. node_at arena x.0 ≡ Some x.1) (cells P s) (cells_in P more) held;
            path = rw back.0 refl;
            look_up = rw back.0 refl;
          }
          | inr other ↦ absurd (other.1 (sym same.1))
        ]
        | inr other ↦ elim (eqb_tells byte c) [
          | inl back ↦ absurd (other.1 (sym back.1))
          | inr apart ↦
              let k = kid_at more byte rest child (rw other.0 at is) (all_right (λ x. node_at arena x.0 ≡ Some x.1) (cells P s) (cells_in P more) held) in
              record { shape = k.shape; named = k.named; held = k.held; path = rw apart.0 k.path; look_up = rw apart.0 k.look_up }
        ]
      ]

  module _ (key : List ℕ) where
    -- a way from a part of the tree on
    way_first : (names : List Name) (s : Shape K V) (depth : ℕ) → AreHeld (node_at arena) (cells P s) → IsWay arena key (name_of s, depth) names → AreNodesAlong P arena names (path_of (erase s) (drop depth key))
    way_first [] s depth held way = tt
    way_first (n ∷ []) s depth held way = first_of n [] s (drop depth key) way.0 held tt
    way_first (n ∷ m ∷ names) (leaf_at slot k v) depth held (is, next, (node, byte, there, goes, passes), on) =
        absurd (let cell : Some (branches node) ≡ Some (pair k v) = sym (ap cell_of there) ∙ held.0 in cc)
    way_first (n ∷ m ∷ names) (inner_at name prefix kids) depth held (is, next, (node, byte, there, goes, passes), on) =
        let cell : Some (branches node) ≡ Some (node_of P prefix (children_at kids)) = sym (ap cell_of there) ∙ held.0 in
        let long : node.header.prefix_len ≡ length prefix = ap (λ c. (node_in c node).header.prefix_len) cell in
        let children : node.children ≡ children_at kids = ap (λ c. (node_in c node).children) cell in
        let kid = kid_at kids byte (drop next.1 key) next.0 (ap (λ cs. child_at cs byte) (sym children) ∙ goes.child_is) held.1 in
        let place : depth + length prefix ≡ depth + node.header.prefix_len = ap (λ k. depth + k) (sym long) in
        let after : next.1 ≡ depth + node.header.prefix_len + 1 = goes.next_is in
        let within : next.1 ≤ length key = goes.within in
        let rest : drop (length prefix) (drop depth key) ≡ byte ∷ drop next.1 key =
        drop-drop (length prefix) depth key ∙ ap (λ k. drop k key) place ∙ dropped (depth + node.header.prefix_len) key (omega arith)
        ∙ ap (λ b. b ∷ drop (depth + node.header.prefix_len + 1) key) goes.byte_is ∙ ap (λ k. byte ∷ drop k key) (sym after) in
        first_of n (m ∷ names) (inner_at name prefix kids) (drop depth key) is held
        (subst (AreNodesAlong P arena (m ∷ names)) (sym (ap (path_in (erase_in kids)) rest ∙ kid.path))
        (way_first (m ∷ names) kid.shape next.1 kid.held (subst (λ x. IsWay arena key (x, next.1) (m ∷ names)) (sym kid.named) on)))

    -- a way from the root of the tree of some pairs
    pub root_first : (bytes : K → List ℕ) (root : Option Name) (pairs : List (K × V)) (names : List Name) → HoldsTreeOf bytes P arena root pairs → MatchOption root (names ≡ []) (λ r. IsWay arena key (r, 0) names)
        → AreNodesAlong P arena names (nodes_to key (tree_of (key_of bytes) pairs))
    root_first bytes None pairs names holds none = subst (λ ns. AreNodesAlong P arena ns (nodes_to key (tree_of (key_of bytes) pairs))) (sym none) tt
    root_first bytes (Some root) pairs names holds way =
        let means = holds.2 in
        let first = way_first names means.shape 0 means.is_tree.nodes.holds.held (subst (λ x. IsWay arena key (x, 0) names) (sym means.is_tree.nodes.named) way) in
        subst (λ o. AreNodesAlong P arena names (nodes_to key o)) (sym holds.1) (subst (λ t. AreNodesAlong P arena names (path_of t key)) means.erased first)

  -- no more names than nodes
  pub first_few : (names : List Name) (nodes : List (Tree (K × V))) → AreNodesAlong P arena names nodes → length names ≤ length nodes
  first_few [] nodes first = omega arith
  first_few (n ∷ names) [] first = absurd first
  first_few (n ∷ names) (t ∷ nodes) first = let few = first_few names nodes first.1 in omega arith
