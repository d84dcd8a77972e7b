-- The whole prefix of a node stands in its header or in the key of its first leaf, and orders all keys below.
use Rattle.std.proofs.Common.{◌≡◌, ◌≢◌, ℕ, Bool, true, false, ◌+◌, ◌-◌, ◌<◌, ◌≤◌, List, [], ◌∷◌, ◌++◌, length, take, drop, Some, None, refl, sym, ap, subst, ◌∙◌, inl, inr, arith, append_assoc, length-append, length-drop, lt-ltb, le-ltb, eq-eqb, ne_eqb}
use Rattle.std.specs.List.{AllByRecursion, starts_with}
use Rattle.std.specs.Prelude.{◌==◌, IsTrue}
use Rattle.std.specs.Ordering.{nat_cmp}
use Rattle.std.specs.declared.cmp.Ordering.{Ordering}
use Rattle.std.specs.declared.cmp.Ordering.TheVariants.{Less, Equal, Greater}
use Rattle.std.proofs.lemmas.Bool.{cases_order}
use Rattle.std.proofs.lemmas.Bool.Decides.{eqb_tells, Decides-eqb}
use Rattle.std.proofs.lemmas.List.{drop_at, take_all, take_at}
use Rattle.std.proofs.lemmas.Slice.Eq.{starts_is}
use Rattle.art_bytes.proofs.Common.{BeginsWith, bytes_cmp}
use Rattle.art_nodes.proofs.Common.{agreeing, InnerNode, Name}
use Rattle.art_nodes.specs.declared.kind.NodeType.TheVariants.{Leaf}
use Rattle.art_nodes.specs.declared.leaf.LeafNode.{LeafNode}
use Rattle.art_arena.proofs.Terms.{Cell, pair, AreHeld, leaf_name, Arena, leaf_held, inner_held, held_at, node_at, Shape, Branches, leaf_at, inner_at, no_branch, branch, LeafAt, leaves, leaves_in, cells, cells_in, first_slot, IsSubtree, prefix_of, Mismatches}
use Rattle.art_arena.proofs.tree.Order.{all_append, all_left, all_right, all_weaker}
use Rattle.art_arena.proofs.shapes.Subtrees.{inner_of, holds_pair, leaves_begin_prefix}

pub drop-front : (xs ys : List ℕ) → drop (length xs) (xs ++ ys) ≡ ys
drop-front xs ys = drop_at xs ys (length xs) refl

pub take-front : (xs ys : List ℕ) → take (length xs) (xs ++ ys) ≡ xs
take-front xs ys = take_at xs ys (length xs) refl

-- the slice from a place to the end
pub tail : (d : ℕ) (xs : List ℕ) → take (length xs - d) (drop d xs) ≡ drop d xs
tail d xs = take_all (length xs - d) (drop d xs) (omega (arith, length-drop d xs))

-- what the test for a front tells

pub begins_tells : (r : Bool) (xs ys p q : List ℕ) → xs ≡ ys → p ≡ q → r ≡ starts_with ◌==◌ xs p → (IsTrue r → BeginsWith q ys) × (BeginsWith q ys → IsTrue r)
begins_tells r xs ys p q same same_front test =
    let starts : r ≡ starts_with ◌==◌ ys q = rw (← same, ← same_front) test in
    let tells = starts_is Decides-eqb ys q r starts in
    (λ passed. (drop (length q) ys, tells.0 passed), λ begins. tells.1 begins.0 begins.1)

pub begins_of : (r : Bool) (xs ys p q : List ℕ) → xs ≡ ys → p ≡ q → r ≡ starts_with ◌==◌ xs p → r ≡ true → BeginsWith q ys
begins_of r xs ys p q same same_front test passed = (begins_tells r xs ys p q same same_front test).0 passed

pub begins_not : (r : Bool) (xs ys p q : List ℕ) → xs ≡ ys → p ≡ q → r ≡ starts_with ◌==◌ xs p → r ≡ false → BeginsWith q ys → ⊥
begins_not r xs ys p q same same_front test failed begins =
    let passed : r ≡ true = (begins_tells r xs ys p q same same_front test).1 begins in cc

-- a prefix, read from a key that begins with the path to it and then goes on with it
pub record Read (depth len : ℕ) (prefix key : List ℕ) : Type 0 where
  pub within : depth + len ≤ length key
  pub part : take len (drop depth key) ≡ prefix

pub read : (path prefix key : List ℕ) (depth len : ℕ) → length path ≡ depth → len ≡ length prefix → BeginsWith (path ++ prefix) key → Read depth len prefix key
read path prefix key depth len following same (rest, e) =
    let spelled : key ≡ path ++ (prefix ++ rest) = e ∙ append_assoc path prefix rest in
    let dropped : drop depth key ≡ prefix ++ rest = ap (λ d. drop d key) (sym following) ∙ ap (drop (length path)) spelled ∙ drop-front path (prefix ++ rest) in
    record {
      within = omega (arith, ap length spelled, length-append path (prefix ++ rest), length-append prefix rest);
      part = ap (λ n. take n (drop depth key)) same ∙ ap (take (length prefix)) dropped ∙ take-front prefix rest;
    }

module _ {K V : Type 0} (bytes : K → List ℕ) (P : ℕ) (arena : Arena K V) (n : Name) where
  -- the header of an inner node
  pub record HeaderOf (s : Shape K V) : Type 0 where
    pub node : InnerNode
    pub there : held_at arena n ≡ Some (inner_held node)
    pub len : node.header.prefix_len ≡ length (prefix_of s)
    pub stored : node.header.stored ≡ take P (prefix_of s)

  pub header_there : (path : List ℕ) (s : Shape K V) → IsSubtree bytes P (node_at arena) n path s → n.kind ≢ Leaf → HeaderOf s
  header_there path (leaf_at slot k v) sub other = absurd (other (ap (λ (m : Name). m.kind) (sym sub.part.named)))
  header_there path (inner_at m prefix kids) sub other = record {
    node = _;
    there = inner_of (held_at arena n) _ (ap (node_at arena) (sym sub.part.named) ∙ sub.part.held.0);
    len = refl;
    stored = refl;
  }

module _ {K V : Type 0} (bytes : K → List ℕ) (P : ℕ) (arena : Arena K V) where
  abbrev pub IsHeld : LeafAt K V → Type 0
  IsHeld l = node_at arena (leaf_name l.slot) ≡ Some (pair l.key l.value)

  mutual
    pub leaves_are_held : (s : Shape K V) → AreHeld (node_at arena) (cells P s) → AllByRecursion IsHeld (leaves s)
    leaves_are_held (leaf_at slot k v) held = held
    leaves_are_held (inner_at n prefix kids) held = leaves_in_held kids held.1

    leaves_in_held : (kids : Branches K V) → AreHeld (node_at arena) (cells_in P kids) → AllByRecursion IsHeld (leaves_in kids)
    leaves_in_held no_branch held = tt
    leaves_in_held (branch b t rest) held =
        let P_at = λ (c : Name × Cell K V). node_at arena c.0 ≡ Some c.1 in
        all_append IsHeld (leaves t) (leaves_in rest)
        (leaves_are_held t (all_left P_at (cells P t) (cells_in P rest) held))
        (leaves_in_held rest (all_right P_at (cells P t) (cells_in P rest) held))

  -- the first leaf, as the arena has it
  pub record FirstLeaf (path prefix : List ℕ) (slot : ℕ) : Type 0 where
    pub leaf : LeafNode K V
    pub there : held_at arena (leaf_name slot) ≡ Some (leaf_held leaf)
    pub begins : BeginsWith (path ++ prefix) (bytes leaf.key)

  pub first_leaf : (n : Name) (path : List ℕ) (s : Shape K V) (slot : ℕ) → IsSubtree bytes P (node_at arena) n path s → first_slot (leaves s) None ≡ Some slot → FirstLeaf path (prefix_of s) slot
  first_leaf n path s slot sub first = head (leaves s) (leaves_are_held s sub.part.held) (leaves_begin_prefix bytes path s sub.under) first
    where
      head : (ls : List (LeafAt K V)) → AllByRecursion IsHeld ls → AllByRecursion (λ l. BeginsWith (path ++ prefix_of s) (bytes l.key)) ls → first_slot ls None ≡ Some slot → FirstLeaf path (prefix_of s) slot
      head [] h b e = absurd (cc)
      head (l ∷ ls) h b e =
          let same : l.slot ≡ slot = cc in
          let p = holds_pair (held_at arena (leaf_name slot)) l.key l.value (ap (λ m. node_at arena (leaf_name m)) (sym same) ∙ h.0) in
          record { leaf = p.leaf; there = p.is; begins = subst (λ k. BeginsWith (path ++ prefix_of s) (bytes k)) (sym p.key) b.0 }

-- how a key meets a prefix that it doesn't begin with

pub agreeing_inside : (p r : List ℕ) → (BeginsWith p r → ⊥) → agreeing p r < length p
agreeing_inside [] r n = absurd (n (r, refl))
agreeing_inside (x ∷ p) [] n = omega arith
agreeing_inside (x ∷ p) (y ∷ r) n = elim (eqb_tells x y) [
  | inl same ↦ let later = agreeing_inside p r (λ h. let e = same.1 in let f = h.1 in n (h.0, (cc))) in rw same.0 (omega (arith, later))
  | inr other ↦ rw other.0 (omega arith)
]

cmp_self : (a : ℕ) → nat_cmp a a ≡ Equal
cmp_self a = let n = le-ltb a a (omega arith) in let e = eq-eqb a a refl in rw (n, e) refl

-- what goes on after a prefix that the key doesn't begin with compares as the prefix does
cmp_more : (p more r : List ℕ) → (BeginsWith p r → ⊥) → bytes_cmp (p ++ more) r ≡ bytes_cmp p r
cmp_more [] more r n = absurd (n (r, refl))
cmp_more (a ∷ p) more [] n = refl
cmp_more (a ∷ p) more (b ∷ r) n = elim (cases_order a b) [
  | inl e ↦
      let later = cmp_more p more r (λ h. let f = h.1 in n (h.0, (cc))) in
      let same : nat_cmp a b ≡ Equal = ap (λ x. nat_cmp a x) (sym e) ∙ cmp_self a in
      rw same later
  | inr (inl lt) ↦ rw (lt-ltb a b lt) refl
  | inr (inr lt) ↦ let c = le-ltb a b (omega arith) in let d = ne_eqb a b (λ f. omega arith) in rw (c, d) refl
]

cmp_front : (q x y : List ℕ) → bytes_cmp (q ++ x) (q ++ y) ≡ bytes_cmp x y
cmp_front [] x y = refl
cmp_front (a ∷ q) x y = let same = cmp_self a in rw same (cmp_front q x y)

cmp_equal : (p r : List ℕ) → bytes_cmp p r ≡ Equal → BeginsWith p r
cmp_equal [] r e = (r, refl)
cmp_equal (a ∷ p) [] e = absurd (cc)
cmp_equal (a ∷ p) (b ∷ r) e = elim (cases_order a b) [
  | inl f ↦
      let same : nat_cmp a b ≡ Equal = ap (λ x. nat_cmp a x) (sym f) ∙ cmp_self a in
      let g : bytes_cmp p r ≡ Equal = rw same at e in
      let later = cmp_equal p r g in let h = later.1 in (later.0, (cc))
  | inr (inl lt) ↦ let l : Less ≡ Equal = rw (lt-ltb a b lt) at e in absurd (cc)
  | inr (inr lt) ↦ let c = le-ltb a b (omega arith) in let d = ne_eqb a b (λ f. omega arith) in let g : Greater ≡ Equal = rw (c, d) at e in absurd (cc)
]

module _ {K V : Type 0} (bytes : K → List ℕ) where
  pub mismatches : (key path : List ℕ) (depth : ℕ) (s : Shape K V) (matched : ℕ) (order : Ordering)
      → length path ≡ depth → AllByRecursion (λ l. BeginsWith (path ++ prefix_of s) (bytes l.key)) (leaves s) → (BeginsWith (prefix_of s) (drop depth key) → ⊥)
      → matched ≡ agreeing (prefix_of s) (drop depth key) → order ≡ bytes_cmp (prefix_of s) (drop depth key) → Mismatches bytes key path s matched order
  mismatches key path depth s matched order following begin apart agrees compares = record {
    agrees = rw following agrees;
    inside = omega (arith, agreeing_inside (prefix_of s) (drop depth key) apart, agrees);
    compares = rw following compares;
    apart = λ e. apart (cmp_equal (prefix_of s) (drop depth key) (sym compares ∙ e));
    leaves_beside = λ on_path. all_weaker _ _ (λ l st.
        let rest : drop depth key ≡ on_path.0 = ap (λ d. drop d key) (sym following) ∙ ap (drop (length path)) on_path.1 ∙ drop-front path on_path.0 in
        let left : bytes l.key ≡ path ++ (prefix_of s ++ st.0) = st.1 ∙ append_assoc path (prefix_of s) st.0 in
        let right : key ≡ path ++ drop depth key = on_path.1 ∙ ap (λ r. path ++ r) (sym rest) in
        ap (λ k. bytes_cmp k key) left ∙ ap (λ k. bytes_cmp (path ++ (prefix_of s ++ st.0)) k) right
        ∙ cmp_front path (prefix_of s ++ st.0) (drop depth key) ∙ cmp_more (prefix_of s) st.0 (drop depth key) apart ∙ sym compares) (leaves s) begin;
  }
