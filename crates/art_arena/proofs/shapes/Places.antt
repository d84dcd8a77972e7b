-- Places in a tree: what an arena holds there, and the step down to a child.
use Rattle.std.proofs.Common.{◌≡◌, ℕ, suc, ◌+◌, ◌≤◌, List, [], ◌∷◌, ◌++◌, length, take, Option, Some, refl, sym, ap, ap₂, subst, ◌∙◌, inl, inr, arith}
use Rattle.std.proofs.lemmas.Bool.Decides.{eqb_tells}
use Rattle.std.specs.List.{AllByRecursion}
use Rattle.art_bytes.proofs.Common.{BeginsWith, begins_append}
use Rattle.art_nodes.proofs.Common.{Name, InnerNode, child_at}
use Rattle.art_arena.proofs.Terms.{IsKindOf, Cell, pair, branches, AreHeld, Shape, Branches, leaf_at, inner_at, no_branch, branch, name_of, children_at, join, width, leaves, leaves_in, cells, IsUnder, AreUnder, Frame, plug, path_to, cells_before, cells_after, AreBelow, IsPlace}
use Rattle.art_arena.proofs.tree.Order.{all_append, all_left, all_right, all_weaker}
use Rattle.art_arena.proofs.shapes.Contexts.{cells-plug, width-join}

module _ {K V : Type 0} (P : ℕ) (at : Name → Option (Cell K V)) where
  -- what stands at a place of a tree that is held is held
  pub held-below : (ctx : List (Frame K V)) (part : Shape K V) → AreHeld at (cells P (plug ctx part)) → AreHeld at (cells P part)
  held-below ctx part held =
      let Q = λ (c : Name × Cell K V). at c.0 ≡ Some c.1 in
      all_left Q (cells P part) (cells_after P ctx) (all_right Q (cells_before P ctx (name_of part)) (cells P part ++ cells_after P ctx) (subst (AreHeld at) (cells-plug P ctx part) held))

  -- where a leaf is held under the name of a part, the part is that leaf
  pub leaf-there : (s : Shape K V) (k : K) (v : V) → AreHeld at (cells P s) → at (name_of s) ≡ Some (pair k v) → s ≡ leaf_at (name_of s).slot k v
  leaf-there (leaf_at slot j u) k v held there =
      let e = sym held.0 ∙ there in
      let same_key : j ≡ k = cc in
      let same_value : u ≡ v = cc in
      ap₂ (leaf_at slot) same_key same_value
  leaf-there (inner_at n prefix kids) k v held there = let e = sym held.0 ∙ there in absurd (cc)

  -- where an inner node is held, the part is an inner node with these children
  pub record InnerThere (s : Shape K V) (node : InnerNode) : Type 0 where
    pub prefix : List ℕ
    pub kids : Branches K V
    pub is : s ≡ inner_at (name_of s) prefix kids
    pub node_is : node ≡ record { header = record { num_children = length (children_at kids); prefix_len = length prefix; stored = take P prefix }; children = children_at kids }

  pub inner-there : (s : Shape K V) (node : InnerNode) → AreHeld at (cells P s) → at (name_of s) ≡ Some (branches node) → InnerThere s node
  inner-there (leaf_at slot k v) node held there = let e = sym held.0 ∙ there in absurd (cc)
  inner-there (inner_at n prefix kids) node held there =
      let e = sym there ∙ held.0 in
      record { prefix = prefix; kids = kids; is = refl; node_is = cc }

module _ {K V : Type 0} where
  -- the branches around the one under a byte
  pub record Splits (kids : Branches K V) (b : ℕ) (m : Name) : Type 0 where
    pub before : Branches K V
    pub here : Shape K V
    pub after : Branches K V
    pub kids_are : kids ≡ join before (branch b here after)
    pub named : name_of here ≡ m

  pub split : (kids : Branches K V) (b : ℕ) (m : Name) → child_at (children_at kids) b ≡ Some m → Splits kids b m
  split no_branch b m found = absurd (cc)
  split (branch c s rest) b m found = elim (eqb_tells c b) [
    | inl same ↦ record {
      before = no_branch;
      here = s;
      after = rest;
      kids_are = ap (λ x. branch x s rest) same.1;
      named = (let e = rw same.0 at found in cc);
    }
    | inr other ↦
        let later = split rest b m (rw other.0 at found) in
        record {
          before = branch c s later.before;
          here = later.here;
          after = later.after;
          kids_are = ap (branch c s) later.kids_are;
          named = later.named;
        }
  ]

module _ {K V : Type 0} (bytes : K → List ℕ) where
  -- each leaf's key begins with the path to the shape
  mutual
    pub leaves-begin : (path : List ℕ) (s : Shape K V) → IsUnder bytes path s → AllByRecursion (λ l. BeginsWith path (bytes l.key)) (leaves s)
    leaves-begin path (leaf_at slot k v) under = (under, tt)
    leaves-begin path (inner_at n prefix kids) under =
        all_weaker _ (λ l. BeginsWith path (bytes l.key)) (λ l h. begins_append path prefix (bytes l.key) h) (leaves_in kids) (leaves_in-begin (path ++ prefix) 0 kids under.1)

    pub leaves_in-begin : (path : List ℕ) (low : ℕ) (f : Branches K V) → AreUnder bytes path low f → AllByRecursion (λ l. BeginsWith path (bytes l.key)) (leaves_in f)
    leaves_in-begin path low no_branch under = tt
    leaves_in-begin path low (branch b s rest) under =
        all_append (λ l. BeginsWith path (bytes l.key)) (leaves s) (leaves_in rest)
        (all_weaker _ (λ l. BeginsWith path (bytes l.key)) (λ l h. begins_append path (b ∷ []) (bytes l.key) h) (leaves s) (leaves-begin (path ++ b ∷ []) s under.1))
        (leaves_in-begin path (b + 1) rest under.2)

  -- what is known of a branch, and of those around it
  pub record Around (path : List ℕ) (low : ℕ) (before : Branches K V) (b : ℕ) (t : Shape K V) (after : Branches K V) : Type 0 where
    pub before_under : AreUnder bytes path low before
    pub below : AreBelow b before
    pub above_low : low ≤ b
    pub here_under : IsUnder bytes (path ++ b ∷ []) t
    pub after_under : AreUnder bytes path (b + 1) after

  pub around : (path : List ℕ) (low : ℕ) (before : Branches K V) (b : ℕ) (t : Shape K V) (after : Branches K V) → AreUnder bytes path low (join before (branch b t after)) → Around path low before b t after
  around path low no_branch b t after under = record { before_under = tt; below = tt; above_low = under.0; here_under = under.1; after_under = under.2 }
  around path low (branch c u before) b t after under =
      let later = around path (c + 1) before b t after under.2 in
      record {
        before_under = (under.0, under.1, later.before_under);
        below = (omega (arith, later.above_low), later.below);
        above_low = omega (arith, later.above_low, under.0);
        here_under = later.here_under;
        after_under = later.after_under;
      }

  -- from an inner node at a place to one of its children
  pub place_below : (whole : Shape K V) (ctx : List (Frame K V)) (n : Name) (prefix : List ℕ) (kids before : Branches K V) (b : ℕ) (t : Shape K V) (after : Branches K V)
      → IsPlace bytes whole ctx (inner_at n prefix kids) → kids ≡ join before (branch b t after)
      → IsPlace bytes whole (record { name = n; prefix = prefix; before = before; byte = b; after = after } ∷ ctx) t
  place_below whole ctx n prefix kids before b t after place is =
      let a = around (path_to ctx ++ prefix) 0 before b t after (subst (AreUnder bytes (path_to ctx ++ prefix) 0) is place.under.1) in
      let wide : width kids ≡ suc (width before + width after) = omega (arith, ap width is, width-join before (branch b t after)) in
      record {
        is = place.is ∙ ap (λ f. plug ctx (inner_at n prefix f)) is;
        around = (subst (IsKindOf n.kind) wide place.under.0, a.before_under, a.below, a.after_under, place.around);
        under = a.here_under;
      }

  -- the place of the whole itself
  pub at-root : (whole : Shape K V) → IsUnder bytes [] whole → IsPlace bytes whole [] whole
  at-root whole under = record { is = refl; around = tt; under = under }
