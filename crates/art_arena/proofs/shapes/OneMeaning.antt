-- A name in an arena means one tree, though a header stores but the front of a prefix: the leaves have the rest.
use Rattle.std.proofs.Common.{◌≡◌, ℕ, ◌≤◌, List, [], ◌∷◌, ◌++◌, length, Option, Some, refl, sym, ap, ap₂, ◌∙◌, subst, arith, length-append}
use Rattle.art_nodes.proofs.Common.{Name}
use Rattle.std.specs.List.{AllByRecursion}
use Rattle.art_bytes.proofs.Common.{BeginsWith, begins_append}
use Rattle.art_arena.proofs.Terms.{Cell, pair, branches, AreHeld, Shape, Branches, leaf_at, inner_at, no_branch, branch, name_of, children_at, width, erase, erase_in, cells, cells_in, IsUnder, AreUnder, key_of, node_of, OneMeaning}
use Rattle.art_arena.proofs.tree.Order.{all_left, all_right}
use Rattle.art_arena.proofs.tree.Canonical.{begin_in, some_item_in}
use Rattle.art_arena.proofs.tree.Fronts.{cancel_front}
use Rattle.art_arena.proofs.tree.Shrinks.{same_front}
use Rattle.art_arena.proofs.shapes.Erased.{count-erase, canonical_in-erase}
use Rattle.art_arena.proofs.shapes.CellLists.{cell_children, same_cell}

module _ {K V : Type 0} (bytes : K → List ℕ) (P : ℕ) (at : Name → Option (Cell K V)) where
  -- two prefixes of one length, after paths of one length, under which the same keys stand
  same_prefix : (p q a b : List ℕ) → length p ≡ length q → length a ≡ length b → (kids : Branches K V) → 1 ≤ width kids
      → AreUnder bytes (p ++ a) 0 kids → AreUnder bytes (q ++ b) 0 kids → a ≡ b
  same_prefix p q a b same_path same_len kids some under over =
      let key = key_of bytes in
      let is_p = canonical_in-erase bytes (p ++ a) 0 kids under in
      let is_q = canonical_in-erase bytes (q ++ b) 0 kids over in
      let x = some_item_in key (p ++ a) (erase_in kids) (omega (arith, count-erase kids)) is_p in
      let in_p : BeginsWith (p ++ a) (key x.0) = (subst (AllByRecursion (λ y. BeginsWith (p ++ a) (key y))) x.2 (begin_in key (p ++ a) (erase_in kids) is_p)).0 in
      let in_q : BeginsWith (q ++ b) (key x.0) = (subst (AllByRecursion (λ y. BeginsWith (q ++ b) (key y))) x.2 (begin_in key (q ++ b) (erase_in kids) is_q)).0 in
      let paths : p ≡ q = same_front p q (key x.0) (begins_append p a (key x.0) in_p) (begins_append q b (key x.0) in_q) same_path in
      let wholes : p ++ a ≡ q ++ b = same_front (p ++ a) (q ++ b) (key x.0) in_p in_q (omega (arith, length-append p a, length-append q b)) in
      cancel_front p a b (wholes ∙ ap (λ r. r ++ b) (sym paths))

  mutual
    pub same_shape : (p q : List ℕ) (s t : Shape K V) → length p ≡ length q → IsUnder bytes p s → IsUnder bytes q t → AreHeld at (cells P s) → AreHeld at (cells P t) → name_of s ≡ name_of t → s ≡ t
    same_shape p q (leaf_at m j u) (leaf_at n k v) len a b h i e =
        let same = same_cell at _ _ _ _ e h.0 i.0 in
        let slots : m ≡ n = ap (λ (x : Name). x.slot) e in
        let keys : j ≡ k = cc in
        let values : u ≡ v = cc in
        ap (λ x. leaf_at x j u) slots ∙ ap₂ (leaf_at n) keys values
    same_shape p q (leaf_at m j u) (inner_at n prefix kids) len a b h i e = let same = same_cell at _ _ _ _ e h.0 i.0 in absurd (cc)
    same_shape p q (inner_at m prefix kids) (leaf_at n k v) len a b h i e = let same = same_cell at _ _ _ _ e h.0 i.0 in absurd (cc)
    same_shape p q (inner_at m a cs) (inner_at n b ds) len x y h i e =
        let same = same_cell at _ _ (node_of P a (children_at cs)) (node_of P b (children_at ds)) e h.0 i.0 in
        let lengths : length a ≡ length b = ap prefix_len same in
        let children : children_at cs ≡ children_at ds = ap cell_children same in
        let kids = same_branches (p ++ a) (q ++ b) 0 0 cs ds (omega (arith, length-append p a, length-append q b)) x.1 y.1 h.1 i.1 children in
        let prefixes = same_prefix p q a b len lengths cs (omega (arith, x.0.two)) x.1 (subst (AreUnder bytes (q ++ b) 0) (sym kids) y.1) in
        ap (λ w. inner_at w a cs) e ∙ ap₂ (inner_at n) prefixes kids
      where
        prefix_len : Cell K V → ℕ
        prefix_len (pair k v) = 0
        prefix_len (branches node) = node.header.prefix_len

    same_branches : (p q : List ℕ) (low high : ℕ) (cs ds : Branches K V) → length p ≡ length q → AreUnder bytes p low cs → AreUnder bytes q high ds → AreHeld at (cells_in P cs) → AreHeld at (cells_in P ds) → children_at cs ≡ children_at ds → cs ≡ ds
    same_branches p q low high no_branch no_branch len a b h i e = refl
    same_branches p q low high no_branch (branch c t ds) len a b h i e = absurd (cc)
    same_branches p q low high (branch b s cs) no_branch len a b' h i e = absurd (cc)
    same_branches p q low high (branch b s cs) (branch c t ds) len x y h i e =
        let first : ◌≡◌ {A = ℕ × Name} (b, name_of s) (c, name_of t) = cc in
        let rest : children_at cs ≡ children_at ds = cc in
        let bytes_same : b ≡ c = ap (λ z. z.0) first in
        let names : name_of s ≡ name_of t = ap (λ z. z.1) first in
        let held = λ (z : Name × Cell K V). at z.0 ≡ Some z.1 in
        let here = same_shape (p ++ b ∷ []) (q ++ c ∷ []) s t (omega (arith, length-append p (b ∷ []), length-append q (c ∷ []))) x.1 y.1
        (all_left held (cells P s) (cells_in P cs) h) (all_left held (cells P t) (cells_in P ds) i) names in
        let there = same_branches p q _ _ cs ds len x.2 y.2 (all_right held (cells P s) (cells_in P cs) h) (all_right held (cells P t) (cells_in P ds) i) rest in
        ap (λ w. branch w s cs) bytes_same ∙ ap₂ (branch c) here there

pub one_meaning : (K V : Type 0) → OneMeaning K V
one_meaning K V bytes P at root links t u a b =
    let same = same_shape bytes P at [] [] a.shape b.shape refl a.under b.under a.part.held b.part.held (a.part.named ∙ sym b.part.named) in
    sym a.erased ∙ ap erase same ∙ b.erased
