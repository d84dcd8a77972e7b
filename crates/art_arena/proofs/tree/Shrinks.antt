-- The node above a leaf, by the keys alone.
use Rattle.std.proofs.Common.{◌≡◌, ◌≢◌, ℕ, ◌<◌, ◌≤◌, ◌⊎◌, List, [], ◌∷◌, ◌++◌, length, drop, drop_at, refl, sym, ap, ap₂, ◌∙◌, subst, inl, inr, append_assoc, append-nil, arith, length-append, Bool, eqb, eq-eqb, ne_eqb, Some}
use Rattle.std.proofs.lemmas.Bool.{cond-true, cond-false}
use Rattle.art_bytes.proofs.Common.{BeginsWith, IsBefore, begins_from_step, common_prefix, before_not_self}
use Rattle.art_arena.proofs.Terms.{AscendsByKey, IsIn, IsPutIn, Tree, Forest, leaf, inner, no_child, child, items, items_in, count, IsBelow, IsCanonical, AreCanonical, nodes_with, tree_of, IsLimit, width_of, IsMeeting, ShrinksIsKindChange}
use Rattle.art_arena.proofs.tree.Canonical.{begin, ascending}
use Rattle.art_arena.proofs.tree.Unique.{tree_of_items}
use Rattle.art_arena.proofs.tree.Insert.{all_at, in_left, in_right}
use Rattle.art_arena.proofs.tree.Exists.{in_middle}
use Rattle.art_arena.proofs.tree.Delete.{last_count, last_in, Loses, Removal, absent, whole, removed, delete}
use Rattle.art_arena.proofs.tree.Fronts.{Widths, WidthsIn, cancel_front, one_byte, not_among_others, widths, common_left}
use Rattle.art_arena.proofs.tree.Paths.{in_cases, in_map, Stored, meets_apart, meets_above, off_path, deeper, in_unmap}
use Rattle.art_arena.proofs.tree.Limits.{limits_are_kinds}

common_itself : (k : List ℕ) → common_prefix k k ≡ k
common_itself [] = refl
common_itself (a ∷ k) = cond-true _ _ _ (eq-eqb a a refl) ∙ ap (λ m. a ∷ m) (common_itself k)

pub front_le : (p q k : List ℕ) → BeginsWith p k → BeginsWith q k → length p ≤ length q → BeginsWith p q
front_le [] q k h j l = (q, refl)
front_le (a ∷ p) [] k h j l = absurd (omega arith)
front_le (a ∷ p) (b ∷ q) [] (r, e) j l = absurd (cc)
front_le (a ∷ p) (b ∷ q) (c ∷ k) (r, e) (s, f) l =
    let hp : k ≡ p ++ r = cc in
    let hq : k ≡ q ++ s = cc in
    let i : b ≡ a = cc in
    let le : length p ≤ length q = omega arith in
    let rest = front_le p q k (r, hp) (s, hq) le in
    (rest.0, ap₂ (λ x m. x ∷ m) i rest.1)

pub same_front : (p q k : List ℕ) → BeginsWith p k → BeginsWith q k → length p ≡ length q → p ≡ q
same_front p q k h j e = go (front_le p q k h j (omega arith))
  where
    go : BeginsWith p q → p ≡ q
    go ([], f) = sym (f ∙ append-nil p)
    go (b ∷ r, f) = absurd (omega (arith, ap length f, length-append p (b ∷ r)))

module _ {X : Type 0} (key : X → List ℕ) where
  pub same_meeting : (xs : List X) (k m n : List ℕ) → IsMeeting key xs k m → IsMeeting key xs k n → m ≡ n
  same_meeting xs k m n ((y, i, a, e), h) ((z, j, b, f), l) =
      let le = l y i a in
      let ge = h z j b in
      let le_mn : length m ≤ length n = subst (λ x. length x ≤ length n) e le in
      let le_nm : length n ≤ length m = subst (λ x. length x ≤ length m) f ge in
      same_front m n k (subst (λ x. BeginsWith x k) e (common_left k (key y))) (subst (λ x. BeginsWith x k) f (common_left k (key z))) (omega arith)

  module _ (k : List ℕ) where
    abbrev pub TreeMeets : List ℕ → Tree X → List ℕ → Type 0
    TreeMeets p t rest =
        (((n : ℕ) → last_count n t rest ≡ n) × ((z : X) → IsIn z (items t) → key z ≢ k → ⊥))
        ⊎ ((m : List ℕ) × IsMeeting key (items t) k m × (length p ≤ length m) × ((w : List ℕ → ℕ) (n : ℕ) → Widths w p t → w m ≡ last_count n t rest))

    abbrev pub ForestMeets : List ℕ → ℕ → List ℕ → Forest X → Type 0
    ForestMeets q b r cs =
        (((n : ℕ) → last_in n cs (b ∷ r) ≡ n) × ((z : X) → IsIn z (items_in cs) → key z ≢ k → common_prefix k (key z) ≡ q))
        ⊎ ((m : List ℕ) × IsMeeting key (items_in cs) k m × (length q < length m) × ((w : List ℕ → ℕ) (n : ℕ) → WidthsIn w q cs → w m ≡ last_in n cs (b ∷ r)))

    -- the keys off the path meet k at the node's front
    pub at_other : (q : List ℕ) (b : ℕ) (r : List ℕ) → k ≡ q ++ b ∷ r → (c : ℕ) → (b ≡ c → ⊥) → (t : Tree X) → IsCanonical key (q ++ c ∷ []) t → (z : X) → IsIn z (items t) → common_prefix k (key z) ≡ q
    at_other q b r e c apart t h z i =
        all_at (λ f. f ≡ q) _ _ (meets_apart key k q b r e c apart (items t) (begin key (q ++ c ∷ []) t h)) (in_map (λ x. common_prefix k (key x)) z (items t) i)

    pub at_above : (q : List ℕ) (b : ℕ) (r : List ℕ) → k ≡ q ++ b ∷ r → (cs : Forest X) → IsBelow b cs → AreCanonical key q cs → (z : X) → IsIn z (items_in cs) → common_prefix k (key z) ≡ q
    at_above q b r e cs low h z i = all_at (λ f. f ≡ q) _ _ (meets_above key k q b r e cs low h) (in_map (λ x. common_prefix k (key x)) z (items_in cs) i)

    on_child : (q : List ℕ) (b : ℕ) (r : List ℕ) → k ≡ q ++ b ∷ r → (t : Tree X) (cs : Forest X) → AreCanonical key q (child b t cs)
        → TreeMeets (q ++ b ∷ []) t r → ForestMeets q b r (child b t cs)
    on_child q b r e t cs h (inl s) =
        inl (
          λ n. cond-true (eqb b b) (last_count n t r) (last_in n cs (b ∷ r)) (eq-eqb b b refl) ∙ s.0 n,
          λ z i a. elim (in_cases z (items t) (items_in cs) i) [ inl j ↦ absurd (s.1 z j a) | inr j ↦ at_above q b r e cs h.1 h.2 z j ],
        )
    on_child q b r e t cs h (inr (m, ((y, i, a, f), l), less, w)) =
        let g = length-append q (b ∷ []) in
        inr (
          m,
          (
            (y, in_left y (items t) (items_in cs) i, a, f),
            λ z j o. elim (in_cases z (items t) (items_in cs) j) [
              | inl u ↦ l z u o
              | inr u ↦ let v = ap length (at_above q b r e cs h.1 h.2 z u) in omega arith
            ],
          ),
          omega arith,
          λ x n v. w x n v.0 ∙ sym (cond-true (eqb b b) (last_count n t r) (last_in n cs (b ∷ r)) (eq-eqb b b refl)),
        )

    past_child : (q : List ℕ) (b : ℕ) (r : List ℕ) → k ≡ q ++ b ∷ r → (c : ℕ) → (b ≡ c → ⊥) → (t : Tree X) (cs : Forest X) → AreCanonical key q (child c t cs)
        → ForestMeets q b r cs → ForestMeets q b r (child c t cs)
    past_child q b r e c apart t cs h (inl s) =
        inl (
          λ n. cond-false (eqb b c) (last_count n t r) (last_in n cs (b ∷ r)) (ne_eqb b c apart) ∙ s.0 n,
          λ z i a. elim (in_cases z (items t) (items_in cs) i) [ inl j ↦ at_other q b r e c apart t h.0 z j | inr j ↦ s.1 z j a ],
        )
    past_child q b r e c apart t cs h (inr (m, ((y, i, a, f), l), less, w)) =
        inr (
          m,
          (
            (y, in_right y (items t) (items_in cs) i, a, f),
            λ z j o. elim (in_cases z (items t) (items_in cs) j) [
              | inl u ↦ let v = ap length (at_other q b r e c apart t h.0 z u) in omega arith
              | inr u ↦ l z u o
            ],
          ),
          less,
          λ x n v. w x n v.1 ∙ sym (cond-false (eqb b c) (last_count n t r) (last_in n cs (b ∷ r)) (ne_eqb b c apart)),
        )

    -- of two children and more, one is off the path
    pub another : (q : List ℕ) (b : ℕ) (r : List ℕ) → k ≡ q ++ b ∷ r → (cs : Forest X) → AreCanonical key q cs → 2 ≤ count cs → (y : X) × IsIn y (items_in cs) × (key y ≢ k) × (common_prefix k (key y) ≡ q)
    another q b r e no_child h n = absurd (omega arith)
    another q b r e (child c t no_child) h n = absurd (omega arith)
    another q b r e (child c t (child d u cs)) h n =
        let s = in_unmap (λ x. common_prefix k (key x)) q (items_in (child c t (child d u cs))) (off_path key k q b r e c t d u cs h) in
        (s.0, s.1, λ f. let g : q ++ [] ≡ q ++ b ∷ r = append-nil q ∙ sym s.2 ∙ ap (common_prefix k) f ∙ common_itself k ∙ e in let i : [] ≡ b ∷ r = cancel_front q [] (b ∷ r) g in cc, s.2)

    up : (p prefix : List ℕ) (b : ℕ) (r rest : List ℕ) (cs : Forest X) → rest ≡ prefix ++ b ∷ r → k ≡ (p ++ prefix) ++ b ∷ r → IsCanonical key p (inner prefix cs)
        → ForestMeets (p ++ prefix) b r cs → TreeMeets p (inner prefix cs) rest
    up p prefix b r rest cs f e h (inl s) =
        let d = ap (drop (length prefix)) f ∙ drop_at prefix (b ∷ r) (length prefix) refl in
        inr (
          p ++ prefix,
          (another (p ++ prefix) b r e cs h.1 h.0, λ z i a. let v = ap length (s.1 z i a) in omega arith),
          omega (arith, length-append p prefix),
          λ w n v. v.0 ∙ sym (ap (last_in (count cs) cs) d ∙ s.0 (count cs)),
        )
    up p prefix b r rest cs f e h (inr (m, meet, less, w)) =
        let d = ap (drop (length prefix)) f ∙ drop_at prefix (b ∷ r) (length prefix) refl in
        inr (m, meet, omega (arith, length-append p prefix), λ x n v. w x (count cs) v.1 ∙ sym (ap (last_in (count cs) cs) d))

    mutual
      pub tree_meets : (p : List ℕ) (t : Tree X) → IsCanonical key p t → (rest : List ℕ) → k ≡ p ++ rest → Stored key k (items t) → TreeMeets p t rest
      tree_meets p (leaf x) h rest e (y, i, f) = inl (λ n. refl, λ z j a. a (only z j))
        where
          only : (z : X) → IsIn z (x ∷ []) → key z ≡ k
          only z (inl g) = ap key (sym g) ∙ there y i f
            where
              there : (y : X) → IsIn y (x ∷ []) → key y ≡ k → key x ≡ k
              there y (inl j) f = ap key j ∙ f
              there y (inr j) f = absurd j
          only z (inr g) = absurd g
      tree_meets p (inner prefix cs) h rest e s =
          let d = deeper key k (p ++ prefix) cs h.1 s in
          let f : rest ≡ prefix ++ d.0 ∷ d.1 = cancel_front p rest (prefix ++ d.0 ∷ d.1) (sym e ∙ d.2 ∙ append_assoc p prefix (d.0 ∷ d.1)) in
          up p prefix d.0 d.1 rest cs f d.2 h (forest_meets (p ++ prefix) cs h.1 d.0 d.1 d.2 s)

      pub forest_meets : (q : List ℕ) (cs : Forest X) → AreCanonical key q cs → (b : ℕ) (r : List ℕ) → k ≡ q ++ b ∷ r → Stored key k (items_in cs) → ForestMeets q b r cs
      forest_meets q no_child h b r e s = absurd s.1
      forest_meets q (child c t cs) h b r e s =
          let here = λ (f : b ≡ c) (i : IsIn s.0 (items t)). subst (λ a. ForestMeets q a r (child c t cs)) (sym f)
          (on_child q c r (e ∙ ap (λ a. q ++ a ∷ r) f) t cs h (tree_meets (q ++ c ∷ []) t h.0 r (e ∙ ap (λ a. q ++ a ∷ r) f ∙ sym (append_assoc q (c ∷ []) r)) (s.0, i, s.2))) in
          let there = λ (i : IsIn s.0 (items_in cs)) (f : b ≡ c → ⊥). past_child q b r e c f t cs h (forest_meets q cs h.2 b r e (s.0, i, s.2)) in
          elim (in_cases s.0 (items t) (items_in cs) s.1) [
            | inl i ↦ here (one_byte q b c k (begins_from_step q b r k e) (subst (BeginsWith (q ++ c ∷ [])) s.2 (all_at (λ x. BeginsWith (q ++ c ∷ []) (key x)) s.0 (items t) (begin key (q ++ c ∷ []) t h.0) i))) i
            | inr i ↦ there i (λ f. all_at (λ x. BeginsWith (q ++ c ∷ []) (key x) → ⊥) s.0 (items_in cs) (not_among_others key q c cs h.1 h.2) i
                (subst (BeginsWith (q ++ c ∷ [])) (sym s.2) (subst (λ a. BeginsWith (q ++ a ∷ []) k) f (begins_from_step q b r k e))))
          ]

  -- the width of the longest front that k shares is the number of children of the node above k's leaf
  pub above_is_width : (t : Tree X) → IsCanonical key [] t → (k m : List ℕ) → Stored key k (items t) → IsMeeting key (items t) k m → (n : ℕ) → width_of key (items t) m ≡ last_count n t k
  above_is_width t h k m s meet n = go (tree_meets k [] t h k refl s)
    where
      go : TreeMeets k [] t k → width_of key (items t) m ≡ last_count n t k
      go (inl a) = absurd (a.1 meet.0.0 meet.0.1 meet.0.2)
      go (inr (o, other, l, w)) = ap (width_of key (items t)) (same_meeting (items t) k m o meet other) ∙ w (width_of key (items t)) n (widths key (items t) [] t h (λ front i. refl))

  pub same_tree : (t u : Tree X) → IsCanonical key [] t → IsCanonical key [] u → items t ≡ items u → t ≡ u
  same_tree t u h j e = let f : Some t ≡ Some u = sym (tree_of_items key t h) ∙ ap (tree_of key) e ∙ tree_of_items key u j in cc

  -- without the one item of a key, an ascending list is one list
  same_rest : (x y : X) → key y ≡ key x → (front back front' back' : List X) → AscendsByKey key (front ++ x ∷ back) → front ++ x ∷ back ≡ front' ++ y ∷ back' → front ++ back ≡ front' ++ back'
  same_rest x y e [] back [] back' h f = cc
  same_rest x y e [] back (z ∷ front') back' h f =
      let a : x ≡ z = cc in
      let b : back ≡ front' ++ y ∷ back' = cc in
      let less = all_at (λ w. IsBefore (key x) (key w)) y back h.0 (subst (IsIn y) (sym b) (in_middle key front' y back')) in
      absurd (before_not_self (key x) (subst (IsBefore (key x)) e less))
  same_rest x y e (z ∷ front) back [] back' h f =
      let a : z ≡ y = cc in
      let less = all_at (λ w. IsBefore (key z) (key w)) x (front ++ x ∷ back) h.0 (in_middle key front x back) in
      absurd (before_not_self (key x) (subst (λ k. IsBefore k (key x)) (ap key a ∙ e) less))
  same_rest x y e (z ∷ front) back (w ∷ front') back' h f =
      let a : z ≡ w = cc in
      let b : front ++ x ∷ back ≡ front' ++ y ∷ back' = cc in
      ap₂ (λ c l. c ∷ l) a (same_rest x y e front back front' back' h.1 b)

  -- What a removal does to the nodes: one of n children loses a child, n being the width of the longest front that the key shares with another.
  pub removal_loses : (t u : Tree X) → IsCanonical key [] t → IsCanonical key [] u → (x : X) → IsPutIn x (items u) (items t) → (m : List ℕ) → IsMeeting key (items t) (key x) m
      → (test : ℕ → Bool) → Loses test (nodes_with test t) (nodes_with test u) (width_of key (items t) m)
  removal_loses t u h j x (front, back, a, b) m meet test = go (delete key [] t h (key x) (key x) refl)
    where
      stored : IsIn x (items t)
      stored = subst (IsIn x) (sym b) (in_middle key front x back)

      go : Removal key [] (key x) (key x) t → Loses test (nodes_with test t) (nodes_with test u) (width_of key (items t) m)
      go (absent never) = absurd (never x stored refl)
      go (whole y e f) = absurd (meet.0.2 (only meet.0.0 (subst (λ v. IsIn meet.0.0 (items v)) e meet.0.1)))
        where
          only : (z : X) → IsIn z (y ∷ []) → key z ≡ key x
          only z (inl g) = ap key (sym g) ∙ f
          only z (inr g) = absurd g
      go (removed y e v k put nodes) =
          let same : items u ≡ items v = a ∙ same_rest x y e front back put.0 put.1 (subst (AscendsByKey key) b (ascending key [] t h)) (sym b ∙ put.3) ∙ sym put.2 in
          let tree = same_tree u v j k same in
          let w = above_is_width t h (key x) m (x, stored, refl) meet 0 in
          subst (λ n. Loses test (nodes_with test t) (nodes_with test u) n) (sym w)
          (subst (λ i. Loses test (nodes_with test t) (nodes_with test i) (last_count 0 t (key x))) (sym tree) (nodes test 0))

module _ (X : Type 0) where
  pub shrinks_is_kind_change : ShrinksIsKindChange X
  shrinks_is_kind_change key xs k m meet = (
    λ s. (limits_are_kinds (width_of key xs m)).0 (subst IsLimit (ap (width_of key xs) (same_meeting key xs k s.0 m s.1 meet)) s.2),
    λ h. (m, meet, (limits_are_kinds (width_of key xs m)).1 h),
  )
