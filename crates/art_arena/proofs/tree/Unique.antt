-- A canonical tree is the tree that is built from its items.
use Rattle.std.proofs.Common.{◌≡◌, ℕ, zero, suc, ◌+◌, ◌<◌, ◌≤◌, List, [], ◌∷◌, ◌++◌, length, drop, drop_at, refl, sym, ap, ◌∙◌, subst, append-nil, arith, length-append, eq-eqb, ne_eqb, slice_index, Some}
use Rattle.std.specs.List.{AllByRecursion}
use Rattle.std.proofs.lemmas.Bool.{cond-true, cond-false}
use Rattle.std.proofs.lemmas.List.{get_or_at}
use Rattle.art_bytes.proofs.Common.{BeginsWith, common_prefix, shared_prefix, begins_step, shared_parts, shared_begins, common_apart, common_front}
use Rattle.art_arena.proofs.Terms.{Tree, Forest, leaf, inner, no_child, child, items, items_in, count, IsBelow, IsCanonical, AreCanonical, Group, add_to, grouped, children_of, tree_below, tree_of}
use Rattle.art_arena.proofs.tree.Canonical.{begin, some_item, some_item_in}

-- the groups of the children's items
abbrev pub groups_of : {X : Type 0} → Forest X → List (Group X)
groups_of no_child = []
groups_of (child b t cs) = (b, items t) ∷ groups_of cs

abbrev pub BeginsOtherwise : {X : Type 0} → ℕ → List (Group X) → Type 0
BeginsOtherwise b [] = Unit {0}
BeginsOtherwise b (g ∷ gs) = b ≡ g.0 → ⊥

-- each child has at most n items
abbrev pub AllFit : {X : Type 0} → ℕ → Forest X → Type 0
AllFit n no_child = Unit {0}
AllFit n (child b t cs) = (length (items t) ≤ n) × AllFit n cs

otherwise : {X : Type 0} (b : ℕ) (cs : Forest X) → IsBelow b cs → BeginsOtherwise b (groups_of cs)
otherwise b no_child h = tt
otherwise b (child c t cs) h = λ e. let l = h.0 in omega arith

module _ {X : Type 0} (key : X → List ℕ) where
  new_group : (b : ℕ) (x : X) (gs : List (Group X)) → BeginsOtherwise b gs → add_to b x gs ≡ (b, x ∷ []) ∷ gs
  new_group b x [] h = refl
  new_group b x (g ∷ gs) h = cond-false _ _ _ (ne_eqb b g.0 h)

  read_at : (q : List ℕ) (b : ℕ) (k : List ℕ) → BeginsWith (q ++ b ∷ []) k → slice_index k (length q) ≡ b
  read_at q b k h = let s = begins_step q b k h in ap (λ m. slice_index m (length q)) s.1 ∙ get_or_at q b s.0 0 (length q) refl

  grouped_append : (q : List ℕ) (b : ℕ) (x : X) (xs ys : List X) → AllByRecursion (λ z. BeginsWith (q ++ b ∷ []) (key z)) (x ∷ xs)
      → BeginsOtherwise b (grouped key (length q) ys) → grouped key (length q) ((x ∷ xs) ++ ys) ≡ (b, x ∷ xs) ∷ grouped key (length q) ys
  grouped_append q b x [] ys h other =
      ap (λ c. add_to c x (grouped key (length q) ys)) (read_at q b (key x) h.0) ∙ new_group b x _ other
  grouped_append q b x (z ∷ zs) ys h other =
      ap (λ c. add_to c x (grouped key (length q) ((z ∷ zs) ++ ys))) (read_at q b (key x) h.0)
      ∙ ap (add_to b x) (grouped_append q b z zs ys h.1 other) ∙ cond-true _ _ _ (eq-eqb b b refl)

  grouped_items : (q : List ℕ) (cs : Forest X) → AreCanonical key q cs → grouped key (length q) (items_in cs) ≡ groups_of cs
  grouped_items q no_child h = refl
  grouped_items q (child b t cs) h =
      let rest = grouped_items q cs h.2 in
      let s = some_item key (q ++ b ∷ []) t h.0 in
      let all = subst (AllByRecursion (λ z. BeginsWith (q ++ b ∷ []) (key z))) s.2 (begin key (q ++ b ∷ []) t h.0) in
      let other = subst (BeginsOtherwise b) (sym rest) (otherwise b cs h.1) in
      ap (λ l. grouped key (length q) (l ++ items_in cs)) s.2 ∙ grouped_append q b s.0 s.1 (items_in cs) all other
      ∙ ap (λ gs. (b, s.0 ∷ s.1) ∷ gs) rest ∙ ap (λ l. (b, l) ∷ groups_of cs) (sym s.2)

  -- the keys below an inner node share its path and prefix, and no more
  shared_after : (q : List ℕ) (b : ℕ) (c : ℕ) (t : Tree X) (cs : Forest X) → b < c → AreCanonical key q (child c t cs)
      → (1 ≤ count cs → shared_prefix key (items_in (child c t cs)) ≡ q) → (r : List ℕ) → common_prefix (q ++ b ∷ r) (shared_prefix key (items_in (child c t cs))) ≡ q
  shared_after q b c t no_child less h more r =
      let s = some_item key (q ++ c ∷ []) t h.0 in
      let all = subst (AllByRecursion (λ z. BeginsWith (q ++ c ∷ []) (key z))) s.2 (begin key (q ++ c ∷ []) t h.0) in
      let u = begins_step q c _ (shared_begins key (q ++ c ∷ []) s.0 s.1 all) in
      ap (λ l. common_prefix (q ++ b ∷ r) (shared_prefix key l)) (append-nil (items t) ∙ s.2) ∙ ap (common_prefix (q ++ b ∷ r)) u.1
      ∙ common_apart q b c r u.0 (λ e. omega arith)
  shared_after q b c t (child d v cs) less h more r =
      ap (common_prefix (q ++ b ∷ r)) (more (omega arith)) ∙ common_front q (b ∷ r)

  shared_items : (q : List ℕ) (cs : Forest X) → AreCanonical key q cs → 2 ≤ count cs → shared_prefix key (items_in cs) ≡ q
  shared_items q no_child h n = absurd (omega arith)
  shared_items q (child b t no_child) h n = absurd (omega arith)
  shared_items q (child b t (child c u cs)) h n =
      let s = some_item key (q ++ b ∷ []) t h.0 in
      let all = subst (AllByRecursion (λ z. BeginsWith (q ++ b ∷ []) (key z))) s.2 (begin key (q ++ b ∷ []) t h.0) in
      let v = some_item_in key q (child c u cs) (omega arith) h.2 in
      let after = shared_after q b c u cs h.1.0 h.2 (λ m. shared_items q (child c u cs) h.2 (omega arith)) in
      ap (λ l. shared_prefix key (l ++ items_in (child c u cs))) s.2 ∙ ap (λ l. shared_prefix key ((s.0 ∷ s.1) ++ l)) v.2
      ∙ shared_parts key q b s.0 s.1 v.0 v.1 all (λ r. ap (λ l. common_prefix (q ++ b ∷ r) (shared_prefix key l)) (sym v.2) ∙ after r)

  -- fuel

  leaf_count : (q : List ℕ) (cs : Forest X) → AreCanonical key q cs → count cs ≤ length (items_in cs)
  leaf_count q no_child h = omega arith
  leaf_count q (child b t cs) h =
      let s = some_item key (q ++ b ∷ []) t h.0 in
      let n : 1 ≤ length (items t) = subst (λ l. 1 ≤ length l) (sym s.2) (omega arith) in
      let rest = leaf_count q cs h.2 in
      let e = length-append (items t) (items_in cs) in omega arith

  all_fit : (q : List ℕ) (cs : Forest X) (n extra : ℕ) → AreCanonical key q cs → length (items_in cs) + extra ≤ suc n → 2 ≤ count cs + extra → AllFit n cs
  all_fit q no_child n extra h fits two = tt
  all_fit q (child b t cs) n extra h fits two =
      let s = some_item key (q ++ b ∷ []) t h.0 in
      let m : 1 ≤ length (items t) = subst (λ l. 1 ≤ length l) (sym s.2) (omega arith) in
      let e = length-append (items t) (items_in cs) in
      let c = leaf_count q cs h.2 in
      (omega arith, all_fit q cs n (extra + length (items t)) h.2 (omega arith) (omega arith))

  tree_below_many : (fuel depth : ℕ) (xs : List X) → 2 ≤ length xs
      → tree_below key (suc fuel) depth xs
      ≡ inner (drop depth (shared_prefix key xs)) (children_of (tree_below key fuel (suc (length (shared_prefix key xs)))) (grouped key (length (shared_prefix key xs)) xs))
  tree_below_many fuel depth [] n = absurd (omega arith)
  tree_below_many fuel depth (x ∷ []) n = absurd (omega arith)
  tree_below_many fuel depth (x ∷ y ∷ xs) n = refl

  mutual
    pub built : (fuel : ℕ) (path : List ℕ) (t : Tree X) → IsCanonical key path t → length (items t) ≤ fuel
        → tree_below key fuel (length path) (items t) ≡ t
    built zero path (leaf x) h n = absurd (omega arith)
    built (suc fuel) path (leaf x) h n = refl
    built zero path (inner prefix cs) h n = let c = leaf_count (path ++ prefix) cs h.1 in let d = h.0 in absurd (omega arith)
    built (suc fuel) path (inner prefix cs) h n =
        let c = leaf_count (path ++ prefix) cs h.1 in
        let d = h.0 in
        tree_below_many fuel (length path) (items_in cs) (omega arith)
        ∙ ap (λ q. inner (drop (length path) q) (children_of (tree_below key fuel (suc (length q))) (grouped key (length q) (items_in cs))))
        (shared_items (path ++ prefix) cs h.1 h.0)
        ∙ ap (λ p. inner p (children_of (tree_below key fuel (suc (length (path ++ prefix)))) (grouped key (length (path ++ prefix)) (items_in cs))))
        (drop_at path prefix (length path) refl)
        ∙ ap (λ gs. inner prefix (children_of (tree_below key fuel (suc (length (path ++ prefix)))) gs)) (grouped_items (path ++ prefix) cs h.1)
        ∙ ap (inner prefix) (built_in fuel (path ++ prefix) cs h.1 (all_fit (path ++ prefix) cs fuel 0 h.1 (omega arith) (omega arith)))

    pub built_in : (fuel : ℕ) (q : List ℕ) (cs : Forest X) → AreCanonical key q cs → AllFit fuel cs
        → children_of (tree_below key fuel (suc (length q))) (groups_of cs) ≡ cs
    built_in fuel q no_child h n = refl
    built_in fuel q (child b t cs) h n =
        let e : suc (length q) ≡ length (q ++ b ∷ []) = omega (arith, length-append q (b ∷ [])) in
        ap (λ d. child b (tree_below key fuel d (items t)) (children_of (tree_below key fuel (suc (length q))) (groups_of cs))) e
        ∙ ap (λ u. child b u (children_of (tree_below key fuel (suc (length q))) (groups_of cs))) (built fuel (q ++ b ∷ []) t h.0 n.0)
        ∙ ap (child b t) (built_in fuel q cs h.2 n.1)

  pub tree_of_items : (t : Tree X) → IsCanonical key [] t → tree_of key (items t) ≡ Some t
  tree_of_items t h =
      let s = some_item key [] t h in
      ap (tree_of key) s.2 ∙ ap (λ l. Some (tree_below key (length l) 0 l)) (sym s.2) ∙ ap Some (built (length (items t)) [] t h (omega arith))
