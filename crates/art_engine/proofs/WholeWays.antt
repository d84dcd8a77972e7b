-- A way to its end has the nodes that a look-up reads, and its last one tells what the look-up finds.
use Rattle.std.proofs.Common.{◌≡◌, ℕ, suc, ◌+◌, ◌<◌, ◌≤◌, Bool, true, false, cond, Some, Option, List, [], ◌∷◌, ◌++◌, length, take, drop, get_or, refl, sym, ap, subst, ◌∙◌, inl, inr, arith, eqb, length-append}
use Rattle.std.proofs.Math.ListN.{drop_of_length-le}
use Rattle.std.proofs.lemmas.Bool.{false≢true, cond-true, cond-false, cond_both}
use Rattle.std.proofs.lemmas.Bool.Decides.{leb_tells}
use Rattle.std.specs.Prelude.{◌⊎◌, None, if◌then◌else◌}
use Rattle.std.specs.Map.{lookup_entry}
use Rattle.art_bytes.proofs.Common.{BeginsWith}
use Rattle.art_nodes.proofs.Common.{Name, child_at}
use Rattle.art_nodes.specs.InnerNode.{InnerNode}
use Rattle.art_nodes.specs.declared.leaf.LeafNode.{LeafNode}
use Rattle.art_arena.proofs.Common.{Arena, AreHeld, AscendsByKey, Branches, Forest, IsCanonical, IsIn, Shape, Tree, begins_with, branches, cell_of, cells, child, children_at, erase, erase_in, held_at, in_left, in_right, inner, inner_at, inner_held, items, key_of, leaf, leaf_at, leaf_held, name_of, no_child, node_at, node_of, pair, tree_of, tree_of_ascending}
use Rattle.art_arena.proofs.Terms.{items_in}
use Rattle.art_arena.proofs.shapes.Finding.{avoid-missing, dropped, look_up-ended, look_up-missing}
use Rattle.art_arena.proofs.tree.Landing.{path_finds}
use Rattle.art_arena.proofs.tree.LookUps.{look_up_whole}
use Rattle.art_arena.proofs.tree.Parts.{begins_not, begins_same}
use Rattle.art_arena.specs.arena.Descents.{GoesNoFurther, MeetsStored}
use Rattle.art_arena.specs.tree.Paths.{last_leaf, look_up_in, look_up_path}
use Rattle.art_operations.specs.Runs.{HoldsTreeOf}
use Rattle.art_engine.specs.Ahead.{AllLeadTo, IsWholeWay, IsDeadEnd}
use Rattle.art_engine.proofs.PathsAhead.{drop-drop, kid_at, node_in}

-- the last of some nodes is that of those after the first
last_after : {X : Type 0} (t : Tree X) (nodes : List (Tree X)) (n : ℕ) → length nodes ≡ suc n → last_leaf (t ∷ nodes) ≡ last_leaf nodes
last_after t [] n long = absurd (omega (arith, long))
last_after (leaf x) (u ∷ nodes) n long = refl
last_after (inner prefix cs) (u ∷ nodes) n long = refl

module _ {K V : Type 0} (arena : Arena K V) (key : List ℕ) where
  -- what stands where a way ends: a leaf, or an inner node from which the key goes no further
  abbrev pub IsLastAt : Name × ℕ → Option (K × V) → Type 0
  IsLastAt here None = (node : InnerNode) × (held_at arena here.0 ≡ Some (inner_held node)) × IsDeadEnd key here.1 node
  IsLastAt here (Some x) = (leaf : LeafNode K V) × (held_at arena here.0 ≡ Some (leaf_held leaf)) × (x ≡ (leaf.key, leaf.value))

  module _ (P : ℕ) where
    -- so many nodes are read, and the last is this leaf, or none
    record Reads (t : Tree (K × V)) (k : List ℕ) (n : ℕ) (o : Option (K × V)) : Type 0 where
      long : length (look_up_path P t k) ≡ n
      last : last_leaf (look_up_path P t k) ≡ o

    -- at an inner node from which the key goes no further
    stopped : (n : Name) (prefix : List ℕ) (kids : Branches K V) (depth : ℕ) (node : InnerNode) → held_at arena n ≡ Some (inner_held node) → AreHeld (node_at arena) (cells P (inner_at n prefix kids)) → IsDeadEnd key depth node
        → look_up_path P (erase (inner_at n prefix kids)) (drop depth key) ≡ inner prefix (erase_in kids) ∷ []
    stopped n prefix kids depth node there held stops =
        let cell : Some (branches node) ≡ Some (node_of P prefix (children_at kids)) = sym (ap cell_of there) ∙ held.0 in
        let long : node.header.prefix_len ≡ length prefix = ap (λ c. (node_in c node).header.prefix_len) cell in
        let stored : node.header.stored ≡ take P prefix = ap (λ c. (node_in c node).header.stored) cell in
        let children : node.children ≡ children_at kids = ap (λ c. (node_in c node).children) cell in
        let place : depth + length prefix ≡ depth + node.header.prefix_len = ap (λ k. depth + k) (sym long) in
        let rest : drop (length prefix) (drop depth key) ≡ drop (depth + node.header.prefix_len) key = drop-drop (length prefix) depth key ∙ ap (λ k. drop k key) place in
        let below : List ℕ → Type 0 = λ k. look_up_in P (erase_in kids) k ≡ [] in
        let short : length key ≤ depth + node.header.prefix_len → below (drop (length prefix) (drop depth key)) =
        λ low. subst below (sym (rest ∙ drop_of_length-le key low)) (look_up-ended (λ k. []) key P kids) in
        ap (λ nodes. inner prefix (erase_in kids) ∷ nodes)
        (elim stops [
          | inl apart ↦ cond-false (begins_with (take P prefix) (drop depth key)) (look_up_in P (erase_in kids) (drop (length prefix) (drop depth key))) []
              (begins_not (take P prefix) (drop depth key) (λ meets. apart (subst (λ l. BeginsWith l (drop depth key)) (sym stored) meets)))
          | inr no_further ↦
              let none : below (drop (length prefix) (drop depth key)) = elim no_further [
                | inl low ↦ short low
                | inr missing ↦ elim (leb_tells (length key) (depth + node.header.prefix_len)) [
                  | inl low ↦ short low.1
                  | inr more ↦
                      subst below (sym (rest ∙ dropped (depth + node.header.prefix_len) key (omega (arith, more.1))))
                      (look_up-missing (λ k. []) key P kids (get_or key (depth + node.header.prefix_len) 0) (drop (depth + node.header.prefix_len + 1) key)
                      (avoid-missing (λ k. []) key (get_or key (depth + node.header.prefix_len) 0) kids (ap (λ cs. child_at cs (get_or key (depth + node.header.prefix_len) 0)) (sym children) ∙ missing)))
                ]
              ] in
              cond_both (begins_with (take P prefix) (drop depth key)) (look_up_in P (erase_in kids) (drop (length prefix) (drop depth key))) [] (λ nodes. nodes ≡ []) (λ _. none) (λ _. refl)
        ])

    -- from a part of the tree on
    way_whole : (names : List Name) (s : Shape K V) (depth : ℕ) (here : Name × ℕ) (o : Option (K × V)) → AreHeld (node_at arena) (cells P s) → AllLeadTo arena key (name_of s, depth) names here → IsLastAt here o
        → Reads (erase s) (drop depth key) (suc (length names)) o
    way_whole [] (leaf_at slot k v) depth here None held at (node, there, stops) =
        let same : held_at arena (name_of (leaf_at slot k v)) ≡ Some (inner_held node) = ap (λ (p : Name × ℕ). held_at arena p.0) (sym at) ∙ there in
        absurd (let cell : Some (branches node) ≡ Some (pair k v) = sym (ap cell_of same) ∙ held.0 in cc)
    way_whole [] (leaf_at slot k v) depth here (Some x) held at (l, there, is) =
        let same : held_at arena (name_of (leaf_at slot k v)) ≡ Some (leaf_held l) = ap (λ (p : Name × ℕ). held_at arena p.0) (sym at) ∙ there in
        let cell : Some (pair l.key l.value) ≡ Some (pair k v) = sym (ap cell_of same) ∙ held.0 in
        record { long = refl; last = let e : (k, v) ≡ x = cc in ap Some e }
    way_whole [] (inner_at n prefix kids) depth here None held at (node, there, stops) =
        let same : held_at arena n ≡ Some (inner_held node) = ap (λ (p : Name × ℕ). held_at arena p.0) (sym at) ∙ there in
        let path = stopped n prefix kids depth node same held (subst (λ (p : Name × ℕ). IsDeadEnd key p.1 node) at stops) in
        record { long = ap length path; last = ap last_leaf path }
    way_whole [] (inner_at n prefix kids) depth here (Some x) held at (l, there, is) =
        let same : held_at arena n ≡ Some (leaf_held l) = ap (λ (p : Name × ℕ). held_at arena p.0) (sym at) ∙ there in
        absurd (let cell : Some (pair l.key l.value) ≡ Some (node_of P prefix (children_at kids)) = sym (ap cell_of same) ∙ held.0 in cc)
    way_whole (n ∷ names) (leaf_at slot k v) depth here o held (is, next, (node, byte, there, goes, meets), on) stands =
        absurd (let cell : Some (branches node) ≡ Some (pair k v) = sym (ap cell_of there) ∙ held.0 in cc)
    way_whole (n ∷ names) (inner_at name prefix kids) depth here o held (is, next, (node, byte, there, goes, meets), on) stands =
        let cell : Some (branches node) ≡ Some (node_of P prefix (children_at kids)) = sym (ap cell_of there) ∙ held.0 in
        let long : node.header.prefix_len ≡ length prefix = ap (λ c. (node_in c node).header.prefix_len) cell in
        let stored : node.header.stored ≡ take P prefix = ap (λ c. (node_in c node).header.stored) cell in
        let children : node.children ≡ children_at kids = ap (λ c. (node_in c node).children) cell in
        let kid = kid_at P arena kids byte (drop next.1 key) next.0 (ap (λ cs. child_at cs byte) (sym children) ∙ goes.child_is) held.1 in
        let place : depth + length prefix ≡ depth + node.header.prefix_len = ap (λ k. depth + k) (sym long) in
        let after : next.1 ≡ depth + node.header.prefix_len + 1 = goes.next_is in
        let within : next.1 ≤ length key = goes.within in
        let rest : drop (length prefix) (drop depth key) ≡ byte ∷ drop next.1 key =
        drop-drop (length prefix) depth key ∙ ap (λ k. drop k key) place ∙ dropped (depth + node.header.prefix_len) key (omega arith)
        ∙ ap (λ b. b ∷ drop (depth + node.header.prefix_len + 1) key) goes.byte_is ∙ ap (λ k. byte ∷ drop k key) (sym after) in
        let passes = begins_same (take P prefix) (drop depth key) (subst (λ l. BeginsWith l (drop depth key)) stored meets) in
        let path : look_up_path P (erase (inner_at name prefix kids)) (drop depth key) ≡ inner prefix (erase_in kids) ∷ look_up_path P (erase kid.shape) (drop next.1 key) =
        ap (λ nodes. inner prefix (erase_in kids) ∷ nodes)
        (cond-true (begins_with (take P prefix) (drop depth key)) (look_up_in P (erase_in kids) (drop (length prefix) (drop depth key))) [] passes ∙ ap (look_up_in P (erase_in kids)) rest ∙ kid.look_up) in
        let below = way_whole names kid.shape next.1 here o kid.held (subst (λ x. AllLeadTo arena key (x, next.1) names here) (sym kid.named) on) stands in
        record {
          long = ap length path ∙ ap suc below.long;
          last = ap last_leaf path ∙ last_after (inner prefix (erase_in kids)) (look_up_path P (erase kid.shape) (drop next.1 key)) (length names) below.long ∙ below.last;
        }

    -- what a way from the root to its end tells of the tree of the pairs
    pub record ReadsRoot (bytes : K → List ℕ) (pairs : List (K × V)) (n : ℕ) (o : Option (K × V)) : Type 0 where
      pub tree : Tree (K × V)
      pub tree_is : tree_of (key_of bytes) pairs ≡ Some tree
      pub long : length (look_up_path P tree key) ≡ n
      pub last : last_leaf (look_up_path P tree key) ≡ o

    pub root_whole : (bytes : K → List ℕ) (root : Option Name) (pairs : List (K × V)) (names : List Name) (here : Name × ℕ) (o : Option (K × V)) → HoldsTreeOf bytes P arena root pairs
        → IsWholeWay arena key root names here → IsLastAt here o → ReadsRoot bytes pairs (length names) o
    root_whole bytes None pairs names here o holds way stands = absurd (let is = way.root_is in cc)
    root_whole bytes (Some root) pairs names here o holds way stands =
        let means = holds.2 in
        let from : root ≡ way.from = (let is = way.root_is in cc) in
        let reads = way_whole way.above means.shape 0 here o means.is_tree.nodes.holds.held (subst (λ x. AllLeadTo arena key (x, 0) way.above here) (sym (means.is_tree.nodes.named ∙ from)) way.leads) stands in
        record {
          tree = holds.0;
          tree_is = holds.1;
          long = subst (λ t. length (look_up_path P t key) ≡ length names) means.erased (reads.long ∙ (let all = ap length way.names_are in let more = length-append way.above (here.0 ∷ []) in omega (arith, all, more)));
          last = subst (λ t. last_leaf (look_up_path P t key) ≡ o) means.erased reads.last;
        }

rest_last : {X : Type 0} (prefix : List ℕ) (cs : Forest X) (x : X) (nodes : List (Tree X)) → last_leaf (inner prefix cs ∷ nodes) ≡ Some x → last_leaf nodes ≡ Some x
rest_last prefix cs x [] e = absurd (cc)
rest_last prefix cs x (u ∷ nodes) e = e

-- a leaf at which the nodes that are read end is one of the tree's
mutual
  last_in_tree : {X : Type 0} (P : ℕ) (t : Tree X) (k : List ℕ) (x : X) → last_leaf (look_up_path P t k) ≡ Some x → IsIn x (items t)
  last_in_tree P (leaf y) k x e = inl cc
  last_in_tree P (inner prefix cs) k x e =
      cond_both (begins_with (take P prefix) k) (look_up_in P cs (drop (length prefix) k)) [] (λ nodes. last_leaf (inner prefix cs ∷ nodes) ≡ Some x → IsIn x (items_in cs))
      (λ _ f. last_in_forest P cs (drop (length prefix) k) x (rest_last prefix cs x (look_up_in P cs (drop (length prefix) k)) f)) (λ _ f. absurd (cc)) e

  last_in_forest : {X : Type 0} (P : ℕ) (cs : Forest X) (k : List ℕ) (x : X) → last_leaf (look_up_in P cs k) ≡ Some x → IsIn x (items_in cs)
  last_in_forest P no_child k x e = absurd (cc)
  last_in_forest P (child c t cs) [] x e = absurd (cc)
  last_in_forest P (child c t cs) (b ∷ k) x e =
      let here = λ (f : last_leaf (look_up_path P t k) ≡ Some x). in_left x (items t) (items_in cs) (last_in_tree P t k x f) in
      let there = λ (f : last_leaf (look_up_in P cs (b ∷ k)) ≡ Some x). in_right x (items t) (items_in cs) (last_in_forest P cs (b ∷ k) x f) in
      cond_both (eqb b c) (look_up_path P t k) (look_up_in P cs (b ∷ k)) (λ nodes. last_leaf nodes ≡ Some x → IsIn x (items t ++ items_in cs)) (λ _. here) (λ _. there) e

-- what is found by a test is among the pairs and passes it; where none is found, none passes
entry_in : {K V : Type 0} (T : K → Bool) (ps : List (K × V)) (p : K × V) → lookup_entry T ps ≡ Some p → IsIn p ps × (T p.0 ≡ true)
entry_in T [] p e = absurd (cc)
entry_in T (x ∷ xs) p e =
    cond_both (T x.0) (Some x) (lookup_entry T xs) (λ o. o ≡ Some p → IsIn p (x ∷ xs) × (T p.0 ≡ true))
    (λ passes f. let same : x ≡ p = cc in (inl same, subst (λ (y : _). T y.0 ≡ true) same passes)) (λ fails f. let rest = entry_in T xs p f in (inr rest.0, rest.1)) e

entry_none : {K V : Type 0} (T : K → Bool) (ps : List (K × V)) → lookup_entry T ps ≡ None → (y : K × V) → IsIn y ps → T y.0 ≡ false
entry_none T [] e y i = absurd i
entry_none T (x ∷ xs) e y i =
    cond_both (T x.0) (Some x) (lookup_entry T xs) (λ o. o ≡ None → T y.0 ≡ false) (λ passes f. absurd (cc))
    (λ fails f. elim i [ inl same ↦ subst (λ (z : _). T z.0 ≡ false) same fails | inr rest ↦ entry_none T xs f y rest ]) e

-- the last leaf, if its key passes a test
abbrev pub if_passes : {K V : Type 0} → (K → Bool) → Option (K × V) → Option (K × V)
if_passes T None = None
if_passes T (Some x) = if T x.0 then Some x else None

-- By a test that only fronts of the key pass, a look-up finds the last leaf that is read, if its key passes.
pub finds_last : {K V : Type 0} (bytes : K → List ℕ) (P : ℕ) (key : List ℕ) (T : List ℕ → Bool) → ((k : List ℕ) → T k ≡ true → BeginsWith k key) → (pairs : List (K × V)) (t : Tree (K × V)) (o : Option (K × V))
    → AscendsByKey (key_of bytes) pairs → tree_of (key_of bytes) pairs ≡ Some t → last_leaf (look_up_path P t key) ≡ o → lookup_entry (λ k. T (bytes k)) pairs ≡ if_passes (λ k. T (bytes k)) o
finds_last bytes P key T fronts [] t o up is last = absurd (cc)
finds_last {K} {V} bytes P key T fronts (p ∷ ps) t o up is last = by_entry (lookup_entry (λ k. T (bytes k)) (p ∷ ps)) refl
  where
    own : (u : Tree (K × V)) × (tree_of (key_of bytes) (p ∷ ps) ≡ Some u) × IsCanonical (key_of bytes) [] u × (items u ≡ p ∷ ps)
    own = tree_of_ascending (key_of bytes) p ps up

    same : own.0 ≡ t
    same = let e = own.1 in cc

    canonical : IsCanonical (key_of bytes) [] t
    canonical = subst (IsCanonical (key_of bytes) []) same own.2

    all : items t ≡ p ∷ ps
    all = ap items (sym same) ∙ own.3

    one : (y : K × V) → IsIn y (p ∷ ps) → T (bytes y.0) ≡ true → o ≡ Some y
    one y i passes =
        let j : IsIn y (items t) = subst (IsIn y) (sym all) i in
        let front = fronts (bytes y.0) passes in
        sym last ∙ ap last_leaf (look_up_whole (key_of bytes) P t canonical key y j front) ∙ path_finds (key_of bytes) t canonical key y j front

    by_last : (q : Option (K × V)) → o ≡ q → lookup_entry (λ k. T (bytes k)) (p ∷ ps) ≡ None → None ≡ if_passes (λ k. T (bytes k)) q
    by_last None e none = refl
    by_last (Some x) e none =
        let i : IsIn x (p ∷ ps) = subst (IsIn x) all (last_in_tree P t key x (last ∙ e)) in
        sym (cond-false (T (bytes x.0)) (Some x) None (entry_none (λ k. T (bytes k)) (p ∷ ps) none x i))

    by_entry : (r : Option (K × V)) → lookup_entry (λ k. T (bytes k)) (p ∷ ps) ≡ r → r ≡ if_passes (λ k. T (bytes k)) o
    by_entry None e = by_last o refl e
    by_entry (Some y) e =
        let f = entry_in (λ k. T (bytes k)) (p ∷ ps) y e in
        sym (ap (if_passes (λ k. T (bytes k))) (one y f.0 f.1) ∙ cond-true (T (bytes y.0)) (Some y) None f.1)

-- whether a list begins with another, as it is told
pub told_begins : (r : Bool) (front k : List ℕ) → (r ≡ true → BeginsWith front k) × (BeginsWith front k → r ≡ true) → r ≡ begins_with front k
told_begins true front k t = sym (begins_same front k (t.0 refl))
told_begins false front k t = sym (begins_not front k (λ b. false≢true (t.1 b)))
