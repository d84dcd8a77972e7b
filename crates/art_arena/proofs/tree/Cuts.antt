-- All keys with a front taken out of a canonical tree.
use Rattle.std.proofs.Common.{◌≡◌, ◌≢◌, ℕ, suc, ◌+◌, ◌<◌, ◌≤◌, List, [], ◌∷◌, ◌++◌, length, refl, sym, ap, ap₂, ◌∙◌, subst, inl, inr, append_assoc, append-nil, arith, length-append, Bool, not, cond, eqb, eq-eqb, ne_eqb}
use Rattle.std.specs.List.{AllByRecursion}
use Rattle.std.proofs.lemmas.Bool.{cond-true, cond-false, cases_eq, cases_Bool, not_from_true, not_from_false}
use Rattle.std.proofs.lemmas.List.Elements.{filter-append}
use Rattle.art_bytes.proofs.Common.{BeginsWith, common_prefix, begins_from_step}
use Rattle.art_arena.proofs.Terms.{IsIn, Tree, Forest, leaf, inner, no_child, child, items, items_in, count, IsBelow, IsCanonical, AreCanonical, nodes_with, nodes_in, ends, differs, passes, pass, width_of, begins_with, with_front, without_front, one_if, one_fewer, IsCrossing}
use Rattle.art_arena.proofs.tree.Order.{all_append, all_weaker}
use Rattle.art_arena.proofs.tree.Canonical.{begin, begin_in, some_item, some_item_in}
use Rattle.art_arena.proofs.tree.Insert.{all_at, in_left, in_right}
use Rattle.art_arena.proofs.tree.Delete.{settled, settled_canonical, settled_items, settled_nodes}
use Rattle.art_arena.proofs.tree.Filters.{filter_all, filter_none, from_kept}
use Rattle.art_arena.proofs.tree.Fronts.{Widths, WidthsIn, not_among_others, begins_trans, widths, common_left}
use Rattle.art_arena.proofs.tree.Paths.{in_cases}
use Rattle.art_arena.proofs.tree.Shrinks.{at_above, at_other, same_front, same_tree}
use Rattle.art_arena.proofs.tree.Landing.{Passed, end, other, on, pass_says}
use Rattle.art_arena.proofs.tree.Tenants.{begins_true, begins_false}
use Rattle.art_arena.proofs.tree.Parts.{own_all, own_none, own_append, elsewhere, begins_same, begins_not}

-- how many children the node has from which the part is cut, n where there is none
abbrev mutual
  pub cut_count : {X : Type 0} → ℕ → Tree X → List ℕ → ℕ
  cut_count n (leaf x) rest = n
  cut_count n (inner prefix cs) rest = elim (pass prefix rest) [ ends ↦ n | differs ↦ n | passes b r ↦ cut_count_in (count cs) cs b r ]

  pub cut_count_in : {X : Type 0} → ℕ → Forest X → ℕ → List ℕ → ℕ
  cut_count_in n no_child b r = n
  cut_count_in n (child c t cs) b r = cond (eqb b c) (cut_count n t r) (cut_count_in n cs b r)

-- a tree below another path
abbrev pub lifted : {X : Type 0} → List ℕ → Tree X → Tree X
lifted path (leaf x) = leaf x
lifted path (inner prefix cs) = inner (path ++ prefix) cs

module _ {X : Type 0} (key : X → List ℕ) (front : List ℕ) where
  others_all : (xs : List X) → AllByRecursion (λ x. BeginsWith front (key x)) xs → without_front key front xs ≡ []
  others_all xs h = filter_none (λ x. not (begins_with front (key x))) xs (all_weaker _ _ (λ x b. not_from_true _ (begins_same front (key x) b)) xs h)

  others_none : (xs : List X) → AllByRecursion (λ x. BeginsWith front (key x) → ⊥) xs → without_front key front xs ≡ xs
  others_none xs h = filter_all (λ x. not (begins_with front (key x))) xs (all_weaker _ _ (λ x n. not_from_false _ (begins_not front (key x) n)) xs h)

  others_append : (xs ys : List X) → without_front key front (xs ++ ys) ≡ without_front key front xs ++ without_front key front ys
  others_append xs ys = filter-append (λ x. not (begins_with front (key x))) xs ys

  others_in : (x : X) (xs : List X) → IsIn x (without_front key front xs) → IsIn x xs
  others_in x xs i = (from_kept (λ y. not (begins_with front (key y))) x xs i).0

  lifted_canonical : (path : List ℕ) (t : Tree X) → IsCanonical key path t → IsCanonical key [] (lifted path t)
  lifted_canonical path (leaf x) h = (key x, refl)
  lifted_canonical path (inner prefix cs) h = h

  lifted_items : (path : List ℕ) (t : Tree X) → items (lifted path t) ≡ items t
  lifted_items path (leaf x) = refl
  lifted_items path (inner prefix cs) = refl

  lifted_nodes : (test : ℕ → Bool) (path : List ℕ) (t : Tree X) → nodes_with test (lifted path t) ≡ nodes_with test t
  lifted_nodes test path (leaf x) = refl
  lifted_nodes test path (inner prefix cs) = refl

  -- of the first number of nodes, the second are left and the third cut away, and the node that loses them had n children
  abbrev CutsNodes : (ℕ → Bool) → ℕ → ℕ → ℕ → ℕ → Type 0
  CutsNodes test before after part n = (after + part) + one_if (test n) ≡ before + one_fewer test n

  data Cut (path rest : List ℕ) (t : Tree X) : Type 0 where
    untouched : AllByRecursion (λ x. BeginsWith front (key x) → ⊥) (items t) → Cut path rest t
    all_of : AllByRecursion (λ x. BeginsWith front (key x)) (items t) → ((n : ℕ) → cut_count n t rest ≡ n) → Cut path rest t
    cut : (u v : Tree X) (w : List ℕ) → IsCanonical key path u → IsCanonical key w v → without_front key front (items t) ≡ items u → with_front key front (items t) ≡ items v
        → (m : List ℕ) → IsCrossing key (items t) front m → length path ≤ length m
        → ((test : ℕ → Bool) (n : ℕ) → CutsNodes test (nodes_with test t) (nodes_with test u) (nodes_with test v) (cut_count n t rest))
        → ((f : List ℕ → ℕ) (n : ℕ) → Widths f path t → f m ≡ cut_count n t rest) → Cut path rest t

  data CutIn (q : List ℕ) (b : ℕ) (r : List ℕ) (cs : Forest X) : Type 0 where
    untouched_in : AllByRecursion (λ x. BeginsWith front (key x) → ⊥) (items_in cs) → CutIn q b r cs
    gone : (ds : Forest X) (v : Tree X) (w : List ℕ) → AreCanonical key q ds → IsCanonical key w v → count cs ≡ suc (count ds) → ((a : ℕ) → IsBelow a cs → IsBelow a ds)
        → without_front key front (items_in cs) ≡ items_in ds → with_front key front (items_in cs) ≡ items v
        → ((z : X) → IsIn z (items_in cs) → (BeginsWith front (key z) → ⊥) → common_prefix front (key z) ≡ q)
        → ((z : X) → IsIn z (items_in ds) → BeginsWith front (key z) → ⊥)
        → ((test : ℕ → Bool) → nodes_in test ds + nodes_with test v ≡ nodes_in test cs) → ((n : ℕ) → cut_count_in n cs b r ≡ n) → CutIn q b r cs
    inside : (ds : Forest X) (v : Tree X) (w : List ℕ) → AreCanonical key q ds → IsCanonical key w v → count cs ≡ count ds → ((a : ℕ) → IsBelow a cs → IsBelow a ds)
        → without_front key front (items_in cs) ≡ items_in ds → with_front key front (items_in cs) ≡ items v
        → (m : List ℕ) → IsCrossing key (items_in cs) front m → length q < length m
        → ((test : ℕ → Bool) (n : ℕ) → CutsNodes test (nodes_in test cs) (nodes_in test ds) (nodes_with test v) (cut_count_in n cs b r))
        → ((f : List ℕ → ℕ) (n : ℕ) → WidthsIn f q cs → f m ≡ cut_count_in n cs b r) → CutIn q b r cs

  up : (path prefix : List ℕ) (b : ℕ) (r rest : List ℕ) (cs : Forest X) → pass prefix rest ≡ passes b r → IsCanonical key path (inner prefix cs) → CutIn (path ++ prefix) b r cs → Cut path rest (inner prefix cs)
  up path prefix b r rest cs f h (untouched_in none) = untouched none
  up path prefix b r rest cs f h (gone ds v w hd hv m low eo ev at out nodes last) =
      let two = h.0 in
      let s = some_item_in key (path ++ prefix) ds (omega arith) hd in
      let i : IsIn s.0 (items_in ds) = subst (IsIn s.0) (sym s.2) (inl refl) in
      let j = others_in s.0 (items_in cs) (subst (IsIn s.0) (sym eo) i) in
      let l : (n : ℕ) → cut_count n (inner prefix cs) rest ≡ suc (count ds) = λ n. ap (λ g. elim g as (λ _. ℕ) [ ends ↦ n | differs ↦ n | passes c q ↦ cut_count_in (count cs) cs c q ]) f ∙ last (count cs) ∙ m in
      cut (settled prefix ds) v w (settled_canonical key path prefix ds (omega arith) hd) hv (eo ∙ sym (settled_items key prefix ds)) ev
      (path ++ prefix) ((s.0, j, out s.0 i, at s.0 j (out s.0 i)), λ z k n. let e = ap length (at z k n) in omega arith) (omega (arith, length-append path prefix))
      (λ test n.
      let a = settled_nodes key test prefix ds (omega arith) in
      let c = nodes test in
      let d = ap (λ k. one_if (test k)) m in
      subst (CutsNodes test (nodes_with test (inner prefix cs)) (nodes_with test (settled prefix ds)) (nodes_with test v)) (sym (l n)) (omega (arith, a, c, d)))
      (λ g n ws. ws.0 ∙ m ∙ sym (l n))
  up path prefix b r rest cs f h (inside ds v w hd hv m low eo ev top cross less nodes last) =
      let two = h.0 in
      let l : (n : ℕ) → cut_count n (inner prefix cs) rest ≡ cut_count_in (count cs) cs b r = λ n. ap (λ g. elim g as (λ _. ℕ) [ ends ↦ n | differs ↦ n | passes c q ↦ cut_count_in (count cs) cs c q ]) f in
      cut (inner prefix ds) v w (omega arith, hd) hv eo ev top cross (omega (arith, length-append path prefix))
      (λ test n.
      let c = nodes test (count cs) in
      let d = ap (λ k. one_if (test k)) m in
      subst (CutsNodes test (nodes_with test (inner prefix cs)) (nodes_with test (inner prefix ds)) (nodes_with test v)) (sym (l n)) (omega (arith, c, d)))
      (λ g n ws. last g (count cs) ws.1 ∙ sym (l n))

  not_above : (q : List ℕ) (b : ℕ) (r : List ℕ) → front ≡ q ++ b ∷ r → (cs : Forest X) → IsBelow b cs → AreCanonical key q cs → AllByRecursion (λ x. BeginsWith front (key x) → ⊥) (items_in cs)
  not_above q b r e cs low h = all_weaker _ _ (λ x n j. n (begins_trans (q ++ b ∷ []) front (key x) (begins_from_step q b r front e) j)) _ (not_among_others key q b cs low h)

  on_child : (q : List ℕ) (b : ℕ) (r : List ℕ) → front ≡ q ++ b ∷ r → (t : Tree X) (cs : Forest X) → AreCanonical key q (child b t cs) → Cut (q ++ b ∷ []) r t → CutIn q b r (child b t cs)
  on_child q b r e t cs h (untouched none) = untouched_in (all_append _ (items t) (items_in cs) none (not_above q b r e cs h.1 h.2))
  on_child q b r e t cs h (all_of every last) =
      let none = not_above q b r e cs h.1 h.2 in
      gone cs t (q ++ b ∷ []) h.2 h.0 refl (λ a low. low.1)
      (others_append (items t) (items_in cs) ∙ ap₂ (λ l m. l ++ m) (others_all (items t) every) (others_none (items_in cs) none))
      (own_append key front (items t) (items_in cs) ∙ ap₂ (λ l m. l ++ m) (own_all key front (items t) every) (own_none key front (items_in cs) none) ∙ append-nil (items t))
      (λ z i n. elim (in_cases z (items t) (items_in cs) i) [ inl j ↦ absurd (n (all_at (λ x. BeginsWith front (key x)) z (items t) every j)) | inr j ↦ at_above key front q b r e cs h.1 h.2 z j ])
      (λ z i. all_at (λ x. BeginsWith front (key x) → ⊥) z (items_in cs) none i)
      (λ test. omega arith)
      (λ n. cond-true (eqb b b) (cut_count n t r) (cut_count_in n cs b r) (eq-eqb b b refl) ∙ last n)
  on_child q b r e t cs h (cut u v w hu hv eo ev m cross less nodes last) =
      let none = not_above q b r e cs h.1 h.2 in
      let l = λ (n : ℕ). cond-true (eqb b b) (cut_count n t r) (cut_count_in n cs b r) (eq-eqb b b refl) in
      inside (child b u cs) v w (hu, h.1, h.2) hv refl (λ a low. low)
      (others_append (items t) (items_in cs) ∙ ap₂ (λ l m. l ++ m) eo (others_none (items_in cs) none))
      (own_append key front (items t) (items_in cs) ∙ ap₂ (λ l m. l ++ m) ev (own_none key front (items_in cs) none) ∙ append-nil (items v))
      m (
        (cross.0.0, in_left cross.0.0 (items t) (items_in cs) cross.0.1, cross.0.2, cross.0.3),
        λ z i n. elim (in_cases z (items t) (items_in cs) i) [ inl j ↦ cross.1 z j n | inr j ↦ let f = ap length (at_above key front q b r e cs h.1 h.2 z j) in let g = length-append q (b ∷ []) in omega arith ],
      )
      (let g = length-append q (b ∷ []) in omega arith)
      (λ test n. let c = nodes test n in subst (CutsNodes test (nodes_in test (child b t cs)) (nodes_in test (child b u cs)) (nodes_with test v)) (sym (l n)) (omega (arith, c)))
      (λ g n ws. last g n ws.0 ∙ sym (l n))

  past_child : (q : List ℕ) (b : ℕ) (r : List ℕ) → front ≡ q ++ b ∷ r → (c : ℕ) → b ≢ c → (t : Tree X) (cs : Forest X) → AreCanonical key q (child c t cs) → CutIn q b r cs → CutIn q b r (child c t cs)
  past_child q b r e c apart t cs h (untouched_in none) =
      untouched_in (all_append _ (items t) (items_in cs) (all_weaker _ _ (λ x i. elsewhere key front q b r e c apart (key x) i) _ (begin key (q ++ c ∷ []) t h.0)) none)
  past_child q b r e c apart t cs h (gone ds v w hd hv m low eo ev at out nodes last) =
      let here = all_weaker (λ x. BeginsWith (q ++ c ∷ []) (key x)) (λ x. BeginsWith front (key x) → ⊥) (λ x i. elsewhere key front q b r e c apart (key x) i) (items t) (begin key (q ++ c ∷ []) t h.0) in
      gone (child c t ds) v w (h.0, low c h.1, hd) hv (ap suc m) (λ a l. (l.0, low a l.1))
      (others_append (items t) (items_in cs) ∙ ap₂ (λ l m. l ++ m) (others_none (items t) here) eo)
      (own_append key front (items t) (items_in cs) ∙ ap₂ (λ l m. l ++ m) (own_none key front (items t) here) ev)
      (λ z i n. elim (in_cases z (items t) (items_in cs) i) [
        | inl j ↦ at_other key front q b r e c apart t h.0 z j
        | inr j ↦ at z j n
      ])
      (λ z i. elim (in_cases z (items t) (items_in ds) i) [ inl j ↦ all_at (λ x. BeginsWith front (key x) → ⊥) z (items t) here j | inr j ↦ out z j ])
      (λ test. let k = nodes test in omega arith)
      (λ n. cond-false (eqb b c) (cut_count n t r) (cut_count_in n cs b r) (ne_eqb b c apart) ∙ last n)
  past_child q b r e c apart t cs h (inside ds v w hd hv m low eo ev top cross less nodes last) =
      let here = all_weaker (λ x. BeginsWith (q ++ c ∷ []) (key x)) (λ x. BeginsWith front (key x) → ⊥) (λ x i. elsewhere key front q b r e c apart (key x) i) (items t) (begin key (q ++ c ∷ []) t h.0) in
      let l = λ (n : ℕ). cond-false (eqb b c) (cut_count n t r) (cut_count_in n cs b r) (ne_eqb b c apart) in
      inside (child c t ds) v w (h.0, low c h.1, hd) hv (ap suc m) (λ a l. (l.0, low a l.1))
      (others_append (items t) (items_in cs) ∙ ap₂ (λ l m. l ++ m) (others_none (items t) here) eo)
      (own_append key front (items t) (items_in cs) ∙ ap₂ (λ l m. l ++ m) (own_none key front (items t) here) ev)
      top (
        (cross.0.0, in_right cross.0.0 (items t) (items_in cs) cross.0.1, cross.0.2, cross.0.3),
        λ z i n. elim (in_cases z (items t) (items_in cs) i) [
          | inl j ↦ let f = ap length (at_other key front q b r e c apart t h.0 z j) in omega arith
          | inr j ↦ cross.1 z j n
        ],
      )
      less
      (λ test n. let k = nodes test n in subst (CutsNodes test (nodes_in test (child c t cs)) (nodes_in test (child c t ds)) (nodes_with test v)) (sym (l n)) (omega (arith, k)))
      (λ g n ws. last g n ws.1 ∙ sym (l n))

  at_prefix : (p prefix : List ℕ) (cs : Forest X) → IsCanonical key p (inner prefix cs) → (rest : List ℕ) → front ≡ p ++ rest
      → ((b : ℕ) (r : List ℕ) → rest ≡ prefix ++ b ∷ r → CutIn (p ++ prefix) b r cs) → Passed prefix rest → Cut p rest (inner prefix cs)
  at_prefix p prefix cs h rest e down (end f s g) =
      all_of (all_weaker _ _ (λ x j. begins_trans front (p ++ prefix) (key x) (s, ap (λ m. p ++ m) g ∙ sym (append_assoc p rest s) ∙ ap (λ m. m ++ s) (sym e)) j) _ (begin_in key (p ++ prefix) cs h.1))
      (λ n. ap (λ g. elim g as (λ _. ℕ) [ ends ↦ n | differs ↦ n | passes c q ↦ cut_count_in (count cs) cs c q ]) f)
  at_prefix p prefix cs h rest e down (other f z a r b s g j apart) =
      untouched (all_weaker _ _ (λ x i. elsewhere key front (p ++ z) a r (e ∙ ap (λ m. p ++ m) g ∙ sym (append_assoc p z (a ∷ r))) b apart (key x)
      (begins_trans ((p ++ z) ++ b ∷ []) (p ++ prefix) (key x) (s, ap (λ m. p ++ m) j ∙ sym (append_assoc p z (b ∷ s)) ∙ sym (append_assoc (p ++ z) (b ∷ []) s)) i)) _ (begin_in key (p ++ prefix) cs h.1))
  at_prefix p prefix cs h rest e down (on b r f g) = up p prefix b r rest cs f h (down b r g)

  mutual
    cuts : (p : List ℕ) (t : Tree X) → IsCanonical key p t → (rest : List ℕ) → front ≡ p ++ rest → Cut p rest t
    cuts p (leaf x) h rest e =
        elim (cases_Bool (begins_with front (key x))) [
          | inl f ↦ all_of (begins_true front (key x) f, tt) (λ n. refl)
          | inr f ↦ untouched (begins_false front (key x) f, tt)
        ]
    cuts p (inner prefix cs) h rest e =
        at_prefix p prefix cs h rest e (λ b r g. cuts_in (p ++ prefix) cs h.1 b r (e ∙ ap (λ m. p ++ m) g ∙ sym (append_assoc p prefix (b ∷ r)))) (pass_says prefix rest)

    cuts_in : (q : List ℕ) (cs : Forest X) → AreCanonical key q cs → (b : ℕ) (r : List ℕ) → front ≡ q ++ b ∷ r → CutIn q b r cs
    cuts_in q no_child h b r e = untouched_in tt
    cuts_in q (child c t cs) h b r e =
        let here = λ (f : b ≡ c). subst (λ a. CutIn q a r (child c t cs)) (sym f)
        (on_child q c r (e ∙ ap (λ a. q ++ a ∷ r) f) t cs h (cuts (q ++ c ∷ []) t h.0 r (e ∙ ap (λ a. q ++ a ∷ r) f ∙ sym (append_assoc q (c ∷ []) r)))) in
        let later = λ (n : b ≡ c → ⊥). past_child q b r e c n t cs h (cuts_in q cs h.2 b r e) in
        elim (cases_eq b c) [ inl f ↦ here f | inr n ↦ later n ]

  same_crossing : (xs : List X) (m n : List ℕ) → IsCrossing key xs front m → IsCrossing key xs front n → m ≡ n
  same_crossing xs m n ((y, i, a, e), h) ((z, j, b, f), l) =
      let le_mn : length m ≤ length n = subst (λ x. length x ≤ length n) e (l y i a) in
      let le_nm : length n ≤ length m = subst (λ x. length x ≤ length m) f (h z j b) in
      same_front m n front (subst (λ x. BeginsWith x front) e (common_left front (key y))) (subst (λ x. BeginsWith x front) f (common_left front (key z))) (omega arith)

  -- the trees of the two parts together lack one child of one node
  pub cut_loses : (t u v : Tree X) → IsCanonical key [] t → IsCanonical key [] u → IsCanonical key [] v → items u ≡ without_front key front (items t) → items v ≡ with_front key front (items t)
      → (m : List ℕ) → IsCrossing key (items t) front m → (test : ℕ → Bool)
      → CutsNodes test (nodes_with test t) (nodes_with test u) (nodes_with test v) (width_of key (items t) m)
  cut_loses t u v ht hu hv eu ev m cross test = go (cuts [] t ht front refl)
    where
      go : Cut [] front t → CutsNodes test (nodes_with test t) (nodes_with test u) (nodes_with test v) (width_of key (items t) m)
      go (untouched none) =
          let s = some_item key [] v hv in
          let e : [] ≡ s.0 ∷ s.1 = sym (own_none key front (items t) none) ∙ sym ev ∙ s.2 in absurd (cc)
      go (all_of every last) = absurd (cross.0.2 (all_at (λ x. BeginsWith front (key x)) cross.0.0 (items t) every cross.0.1))
      go (cut a b w ha hb ea eb top crossing less nodes last) =
          let same_u = same_tree key u a hu ha (eu ∙ ea) in
          let same_v = same_tree key v (lifted w b) hv (lifted_canonical w b hb) (ev ∙ eb ∙ sym (lifted_items w b)) in
          let n = ap (width_of key (items t)) (same_crossing (items t) m top cross crossing) ∙ last (width_of key (items t)) 0 (widths key (items t) [] t ht (λ f i. refl)) in
          let nu = ap (nodes_with test) same_u in
          let nv = ap (nodes_with test) same_v in
          let nb = lifted_nodes test w b in
          let sum = nodes test 0 in
          subst (CutsNodes test (nodes_with test t) (nodes_with test u) (nodes_with test v)) (sym n) (omega (arith, nu, nv, nb, sum))
