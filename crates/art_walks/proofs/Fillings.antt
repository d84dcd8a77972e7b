-- Whole prefixes out of keys: a shape whose prefixes are read from the first key below each node is canonical just where each node fits
-- what stands directly below it.
use Rattle.std.proofs.Common.{◌≡◌, ℕ, ◌+◌, ◌≤◌, List, [], ◌∷◌, ◌++◌, length, take, drop, Option, Some, refl, sym, ap, ap₂, subst, ◌∙◌, arith, append_assoc, length-append}
use Rattle.std.proofs.lemmas.List.{take-append-drop, take_at, drop_at, length-take-le, length-drop}
use Rattle.std.proofs.Math.Seq.{take-add}
use Rattle.art_bytes.proofs.Common.{BeginsWith, begins_append}
use Rattle.art_nodes.proofs.Common.{Name}
use Rattle.art_arena.proofs.Common.{Cell, pair, branches, copies, AreHeld, IsKindOf, Shape, Branches, leaf_at, inner_at, no_branch, branch, name_of, children_at, width, cells, cells_in, node_of, IsUnder, AreUnder, IsPart, IsSubtree, all_left, all_right, cell_children, same_cell, length-children}
use Rattle.art_walks.proofs.Terms.{first_key, first_key_in, Fits, FitIn}

-- what the header of a cell tells
abbrev pub prefix_len_of : {K V : Type 0} → Cell K V → ℕ
prefix_len_of (pair k v) = 0
prefix_len_of (branches node) = node.header.prefix_len

abbrev pub stored_of : {K V : Type 0} → Cell K V → List ℕ
stored_of (pair k v) = []
stored_of (branches node) = node.header.stored

module _ {K V : Type 0} (bytes : K → List ℕ) where
  -- the shape after so many bytes, its prefixes read from first keys
  abbrev mutual
    pub fill : ℕ → Shape K V → Shape K V
    fill d (leaf_at slot k v) = leaf_at slot k v
    fill d (inner_at n prefix kids) = inner_at n (take (length prefix) (drop d (first_key_in bytes kids))) (fill_in (d + length prefix + 1) kids)

    pub fill_in : ℕ → Branches K V → Branches K V
    fill_in d no_branch = no_branch
    fill_in d (branch b s rest) = branch b (fill d s) (fill_in d rest)

  name-fill : (d : ℕ) (s : Shape K V) → name_of (fill d s) ≡ name_of s
  name-fill d (leaf_at slot k v) = refl
  name-fill d (inner_at n prefix kids) = refl

  children-fill : (d : ℕ) (kids : Branches K V) → children_at (fill_in d kids) ≡ children_at kids
  children-fill d no_branch = refl
  children-fill d (branch b s rest) = ap₂ (λ (n : Name) (cs : List (ℕ × Name)). (b, n) ∷ cs) (name-fill d s) (children-fill d rest)

  pub width-fill : (d : ℕ) (kids : Branches K V) → width (fill_in d kids) ≡ width kids
  width-fill d no_branch = refl
  width-fill d (branch b s rest) = omega (arith, width-fill d rest)

  module _ (P : ℕ) where
    -- where each node fits, the filled shape is canonical
    mutual
      pub under-fill : (d : ℕ) (s : Shape K V) → Fits bytes P d s → IsUnder bytes (take d (first_key bytes s)) (fill d s)
      under-fill d (leaf_at slot k v) fits = (drop d (bytes k), sym (take-append-drop d (bytes k)))
      under-fill d (inner_at n prefix kids) fits = (
        subst (IsKindOf n.kind) (sym (width-fill (d + length prefix + 1) kids)) fits.0,
        subst (λ p. AreUnder bytes p 0 (fill_in (d + length prefix + 1) kids)) (take-add d (length prefix) (first_key_in bytes kids)) (under-fill_in (d + length prefix) (first_key_in bytes kids) 0 kids fits.3),
      )

      under-fill_in : (e : ℕ) (key : List ℕ) (low : ℕ) (kids : Branches K V) → FitIn bytes P e key low kids → AreUnder bytes (take e key) low (fill_in (e + 1) kids)
      under-fill_in e key low no_branch fit = tt
      under-fill_in e key low (branch b s rest) fit =
          (fit.0, subst (λ p. IsUnder bytes p (fill (e + 1) s)) fit.1 (under-fill (e + 1) s fit.2), under-fill_in e key (b + 1) rest fit.3)

    node_same : (p q : List ℕ) (cs ds : List (ℕ × Name)) → length p ≡ length q → take P p ≡ take P q → cs ≡ ds → node_of {K = K} {V = V} P p cs ≡ node_of P q ds
    node_same p q cs ds lens stored same =
        ap₂ (λ (l : ℕ) (st : List ℕ). branches (record { header = record { num_children = length cs; prefix_len = l; stored = st }; children = cs })) lens stored ∙ ap (node_of P q) same

    -- and has the same cells
    mutual
      pub cells-fill : (d : ℕ) (s : Shape K V) → Fits bytes P d s → cells P (fill d s) ≡ cells P s
      cells-fill d (leaf_at slot k v) fits = refl
      cells-fill d (inner_at n prefix kids) fits =
          let long = fits.1 in
          let lens : length (take (length prefix) (drop d (first_key_in bytes kids))) ≡ length prefix = length-take-le (length prefix) (drop d (first_key_in bytes kids)) (omega (arith, long, length-drop d (first_key_in bytes kids))) in
          ap₂ (λ (c : Cell K V) xs. (n, c) ∷ xs)
          (node_same (take (length prefix) (drop d (first_key_in bytes kids))) prefix (children_at (fill_in (d + length prefix + 1) kids)) (children_at kids) lens (sym fits.2) (children-fill (d + length prefix + 1) kids))
          (cells-fill_in (d + length prefix) (first_key_in bytes kids) 0 kids fits.3)

      cells-fill_in : (e : ℕ) (key : List ℕ) (low : ℕ) (kids : Branches K V) → FitIn bytes P e key low kids → cells_in P (fill_in (e + 1) kids) ≡ cells_in P kids
      cells-fill_in e key low no_branch fit = refl
      cells-fill_in e key low (branch b s rest) fit = ap₂ (λ xs ys. xs ++ ys) (cells-fill (e + 1) s fit.2) (cells-fill_in e key (b + 1) rest fit.3)

    -- the first key below a canonical shape begins with the path
    first-begins : (path : List ℕ) (s : Shape K V) → IsUnder bytes path s → BeginsWith path (first_key bytes s)
    first-begins path (leaf_at slot k v) under = under
    first-begins path (inner_at n prefix no_branch) under = let two = under.0.two in absurd (omega (arith, two))
    first-begins path (inner_at n prefix (branch b s rest)) under =
        begins_append path prefix _ (begins_append (path ++ prefix) (b ∷ []) _ (first-begins ((path ++ prefix) ++ b ∷ []) s under.1.1))

    prefix_there : (path prefix : List ℕ) (n : Name) (kids : Branches K V) → IsUnder bytes path (inner_at n prefix kids) → BeginsWith (path ++ prefix) (first_key_in bytes kids)
    prefix_there path prefix n no_branch under = let two = under.0.two in absurd (omega (arith, two))
    prefix_there path prefix n (branch b s rest) under = begins_append (path ++ prefix) (b ∷ []) _ (first-begins ((path ++ prefix) ++ b ∷ []) s under.1.1)

    -- in a canonical shape each node fits
    mutual
      pub fits-under : (path : List ℕ) (s : Shape K V) → IsUnder bytes path s → Fits bytes P (length path) s
      fits-under path (leaf_at slot k v) under = let e = ap length under.1 in omega (arith, e, length-append path under.0)
      fits-under path (inner_at n prefix kids) under =
          let whole = prefix_there path prefix n kids under in
          let parts : first_key_in bytes kids ≡ path ++ (prefix ++ whole.0) = whole.1 ∙ append_assoc path prefix whole.0 in
          let lens : length (first_key_in bytes kids) ≡ length (path ++ prefix) + length whole.0 = ap length whole.1 ∙ length-append (path ++ prefix) whole.0 in
          let here : take (length prefix) (drop (length path) (first_key_in bytes kids)) ≡ prefix =
          ap (λ k. take (length prefix) (drop (length path) k)) parts ∙ ap (take (length prefix)) (drop_at path (prefix ++ whole.0) (length path) refl) ∙ take_at prefix whole.0 (length prefix) refl in
          let both : take (length path + length prefix) (first_key_in bytes kids) ≡ path ++ prefix =
          ap (take (length path + length prefix)) whole.1 ∙ take_at (path ++ prefix) whole.0 (length path + length prefix) (length-append path prefix) in (
            under.0,
            omega (arith, lens, length-append path prefix),
            ap (take P) (sym here),
            fit-under (path ++ prefix) (length path + length prefix) (length-append path prefix) (first_key_in bytes kids) both 0 kids under.1,
          )

      fit-under : (q : List ℕ) (e : ℕ) → length q ≡ e → (key : List ℕ) → take e key ≡ q → (low : ℕ) (kids : Branches K V) → AreUnder bytes q low kids → FitIn bytes P e key low kids
      fit-under q e len key both low no_branch under = tt
      fit-under q e len key both low (branch b s rest) under =
          let whole = first-begins (q ++ b ∷ []) s under.1 in
          let deep : length (q ++ b ∷ []) ≡ e + 1 = length-append q (b ∷ []) ∙ ap (λ m. m + 1) len in (
            under.0,
            ap (take (e + 1)) whole.1 ∙ take_at (q ++ b ∷ []) whole.0 (e + 1) deep ∙ ap (λ z. z ++ b ∷ []) (sym both),
            subst (λ d. Fits bytes P d s) deep (fits-under (q ++ b ∷ []) s under.1),
            fit-under q e len key both (b + 1) rest under.2,
          )

    -- whether nodes fit is told by the cells alone: of two shapes that an arena has below one name both fit, or neither
    module _ (at : Name → Option (Cell K V)) where
      abbrev held_cell : Name × Cell K V → Type 0
      held_cell c = at c.0 ≡ Some c.1

      mutual
        pub first_key-same : (s t : Shape K V) → AreHeld at (cells P s) → AreHeld at (cells P t) → name_of s ≡ name_of t → first_key bytes s ≡ first_key bytes t
        first_key-same (leaf_at m j u) (leaf_at n k v) h i e = let same = same_cell at _ _ _ _ e h.0 i.0 in let keys : j ≡ k = cc in ap bytes keys
        first_key-same (leaf_at m j u) (inner_at n prefix kids) h i e = let same = same_cell at _ _ _ _ e h.0 i.0 in absurd (cc)
        first_key-same (inner_at m prefix kids) (leaf_at n k v) h i e = let same = same_cell at _ _ _ _ e h.0 i.0 in absurd (cc)
        first_key-same (inner_at m a cs) (inner_at n b ds) h i e =
            let same = same_cell at _ _ (node_of P a (children_at cs)) (node_of P b (children_at ds)) e h.0 i.0 in first_key-same_in cs ds h.1 i.1 (ap cell_children same)

        first_key-same_in : (cs ds : Branches K V) → AreHeld at (cells_in P cs) → AreHeld at (cells_in P ds) → children_at cs ≡ children_at ds → first_key_in bytes cs ≡ first_key_in bytes ds
        first_key-same_in no_branch no_branch h i e = refl
        first_key-same_in no_branch (branch c t ds) h i e = absurd (cc)
        first_key-same_in (branch b s cs) no_branch h i e = absurd (cc)
        first_key-same_in (branch b s cs) (branch c t ds) h i e =
            let first : ◌≡◌ {A = ℕ × Name} (b, name_of s) (c, name_of t) = cc in
            first_key-same s t (all_left held_cell (cells P s) (cells_in P cs) h) (all_left held_cell (cells P t) (cells_in P ds) i) (ap (λ (z : ℕ × Name). z.1) first)

      fit-parts : (d x y : ℕ) (p q j k : List ℕ) (w : Branches K V) → x ≡ y → p ≡ q → j ≡ k
          → (d + y ≤ length k) × (q ≡ take P (take y (drop d k))) × FitIn bytes P (d + y) k 0 w → (d + x ≤ length j) × (p ≡ take P (take x (drop d j))) × FitIn bytes P (d + x) j 0 w
      fit-parts d x y p q j k w e f g h = rw (e, f, g) h

      mutual
        pub fits-same : (d : ℕ) (s t : Shape K V) → AreHeld at (cells P s) → AreHeld at (cells P t) → name_of s ≡ name_of t → Fits bytes P d t → Fits bytes P d s
        fits-same d (leaf_at m j u) (leaf_at n k v) h i e fits =
            let same = same_cell at _ _ _ _ e h.0 i.0 in let keys : j ≡ k = cc in subst (λ x. d ≤ length (bytes x)) (sym keys) fits
        fits-same d (leaf_at m j u) (inner_at n prefix kids) h i e fits = let same = same_cell at _ _ _ _ e h.0 i.0 in absurd (cc)
        fits-same d (inner_at m prefix kids) (leaf_at n k v) h i e fits = let same = same_cell at _ _ _ _ e h.0 i.0 in absurd (cc)
        fits-same d (inner_at m a cs) (inner_at n b ds) h i e fits =
            let same = same_cell at _ _ (node_of P a (children_at cs)) (node_of P b (children_at ds)) e h.0 i.0 in
            let children : children_at cs ≡ children_at ds = ap cell_children same in
            let widths : width cs ≡ width ds = sym (length-children cs) ∙ ap length children ∙ length-children ds in
            let kind : IsKindOf m.kind (width cs) = subst (λ w. IsKindOf m.kind w) (sym widths) (subst (λ (x : Name). IsKindOf x.kind (width ds)) (sym e) fits.0) in
            let keys = first_key-same_in cs ds h.1 i.1 children in
            let rest = fit-parts d (length a) (length b) (take P a) (take P b) (first_key_in bytes cs) (first_key_in bytes ds) cs (ap prefix_len_of same) (ap stored_of same) keys
            (fits.1, fits.2, fit-same (d + length b) (first_key_in bytes ds) 0 cs ds h.1 i.1 children fits.3) in
            (kind, rest.0, rest.1, rest.2)

        fit-same : (x : ℕ) (key : List ℕ) (low : ℕ) (cs ds : Branches K V) → AreHeld at (cells_in P cs) → AreHeld at (cells_in P ds) → children_at cs ≡ children_at ds → FitIn bytes P x key low ds → FitIn bytes P x key low cs
        fit-same x key low no_branch no_branch h i e fit = tt
        fit-same x key low no_branch (branch c t ds) h i e fit = absurd (cc)
        fit-same x key low (branch b s cs) no_branch h i e fit = absurd (cc)
        fit-same x key low (branch b s cs) (branch c t ds) h i e fit =
            let first : ◌≡◌ {A = ℕ × Name} (b, name_of s) (c, name_of t) = cc in
            let more : children_at cs ≡ children_at ds = cc in
            let same_byte : b ≡ c = ap (λ (z : ℕ × Name). z.0) first in
            let s_held = all_left held_cell (cells P s) (cells_in P cs) h in
            let t_held = all_left held_cell (cells P t) (cells_in P ds) i in
            let names : name_of s ≡ name_of t = ap (λ (z : ℕ × Name). z.1) first in
            let key_same = first_key-same s t s_held t_held names in (
              subst (λ y. low ≤ y) (sym same_byte) fit.0,
              ap (take (x + 1)) key_same ∙ fit.1 ∙ ap (λ y. take x key ++ y ∷ []) (sym same_byte),
              fits-same (x + 1) s t s_held t_held names fit.2,
              fit-same x key (b + 1) cs ds (all_right held_cell (cells P s) (cells_in P cs) h) (all_right held_cell (cells P t) (cells_in P ds) i) more (subst (λ y. FitIn bytes P x key (y + 1) ds) (sym same_byte) fit.3),
            )

      module _ (root : Name) (s : Shape K V) (part : IsPart P at root s) where
        -- a shape whose nodes fit is canonical once its prefixes are filled in
        pub filled-subtree : Fits bytes P 0 s → IsSubtree bytes P at root [] (fill 0 s)
        filled-subtree fits =
            let same = cells-fill 0 s fits in
            record {
              part = record {
                named = name-fill 0 s ∙ part.named;
                held = subst (AreHeld at) (sym same) part.held;
                once = λ m. subst (λ xs. copies m xs ≤ 1) (sym same) (part.once m);
              };
              under = under-fill 0 s fits;
            }

        -- and where one doesn't fit, none is
        pub unfit-none : (Fits bytes P 0 s → ⊥) → (t : Shape K V) → IsSubtree bytes P at root [] t → ⊥
        unfit-none unfit t sub = unfit (fits-same 0 s t part.held sub.part.held (part.named ∙ sym sub.part.named) (fits-under [] t sub.under))
