-- Where a key's descent ends, and the items.
use Rattle.std.proofs.Common.{◌≡◌, ◌≢◌, ℕ, List, [], ◌∷◌, ◌++◌, length, drop, drop_at, refl, sym, ap, ◌∙◌, subst, inl, inr, append_assoc, append-nil, arith, eqb, eqb-true, eq-eqb, ne_eqb, Some}
use Rattle.std.proofs.lemmas.Bool.{cond-true, cond-false, cond_both, cases_eq, cases_order}
use Rattle.art_bytes.proofs.Common.{BeginsWith, Conflict, IsProperFront, begins_step, begins_from_step, before_at, conflict_first, conflict_turned, conflict_not_before}
use Rattle.art_arena.proofs.Terms.{IsIn, Tree, Forest, leaf, inner, no_child, child, items, items_in, IsCanonical, AreCanonical, last_leaf, path_of, path_in, ends, differs, passes, pass, Landing, on_leaf, begins_all, splits_prefix, lacks_child, landing, landing_in, EndsInConflict}
use Rattle.art_arena.proofs.tree.Canonical.{begin, some_item_in}
use Rattle.art_arena.proofs.tree.Insert.{all_at, in_left, in_right}
use Rattle.art_arena.proofs.tree.Fronts.{cancel_front, one_byte, not_among_others, begins_trans}
use Rattle.art_arena.proofs.tree.Paths.{in_cases, deeper}

-- pass, with what it says
pub data Passed (prefix k : List ℕ) : Type 0 where
  end : pass prefix k ≡ ends → (s : List ℕ) → prefix ≡ k ++ s → Passed prefix k
  other : pass prefix k ≡ differs → (z : List ℕ) (a : ℕ) (r : List ℕ) (b : ℕ) (s : List ℕ) → k ≡ z ++ a ∷ r → prefix ≡ z ++ b ∷ s → a ≢ b → Passed prefix k
  on : (b : ℕ) (r : List ℕ) → pass prefix k ≡ passes b r → k ≡ prefix ++ b ∷ r → Passed prefix k

one_byte_more : (a b : ℕ) (prefix k : List ℕ) → a ≡ b → Passed prefix k → Passed (a ∷ prefix) (b ∷ k)
one_byte_more a b prefix k e (end p s f) = end (cond-true _ _ _ (eq-eqb a b e) ∙ p) s (cc)
one_byte_more a b prefix k e (other p z c r d s f g apart) =
    other (cond-true _ _ _ (eq-eqb a b e) ∙ p) (b ∷ z) c r d s (ap (λ m. b ∷ m) f) (cc) apart
one_byte_more a b prefix k e (on c r p f) = on c r (cond-true _ _ _ (eq-eqb a b e) ∙ p) (cc)

pub pass_says : (prefix k : List ℕ) → Passed prefix k
pass_says [] [] = end refl [] refl
pass_says [] (b ∷ k) = on b k refl refl
pass_says (a ∷ prefix) [] = end refl (a ∷ prefix) refl
pass_says (a ∷ prefix) (b ∷ k) =
    let rest = pass_says prefix k in
    elim (cases_eq a b) [
      | inl e ↦ one_byte_more a b prefix k e rest
      | inr n ↦ other (cond-false (eqb a b) (pass prefix k) differs (ne_eqb a b n)) [] b k a prefix refl refl (λ e. n (sym e))
    ]

-- keys that differ at a byte
apart_no_conflict : (q : List ℕ) (a : ℕ) (r : List ℕ) (b : ℕ) (s : List ℕ) → a ≢ b → Conflict (q ++ a ∷ r) (q ++ b ∷ s) → ⊥
apart_no_conflict q a r b s n c =
    elim (cases_order a b) [
      | inl e ↦ n e
      | inr (inl l) ↦ conflict_not_before _ _ c (before_at q a b r s l)
      | inr (inr l) ↦ conflict_not_before _ _ (conflict_turned (q ++ a ∷ r) (q ++ b ∷ s) c) (before_at q b a s r l)
    ]

module _ {X : Type 0} (key : X → List ℕ) (k : List ℕ) where
  -- R can't hold of keys that differ from k at a byte
  module _ (R : List ℕ → Type 0) (no_apart : (q : List ℕ) (a : ℕ) (r : List ℕ) (b : ℕ) (s l : List ℕ) → k ≡ q ++ a ∷ r → l ≡ q ++ b ∷ s → a ≢ b → R l → ⊥) where
    abbrev LandsOn : X → Landing X → Type 0
    LandsOn y (on_leaf x) = x ≡ y
    LandsOn y begins_all = IsProperFront k (key y)
    LandsOn y splits_prefix = ⊥
    LandsOn y (lacks_child b) = ⊥

    proper : (q rest s : List ℕ) (c : ℕ) (u : List ℕ) (l : List ℕ) → k ≡ q ++ rest → l ≡ (q ++ (rest ++ s)) ++ c ∷ u → IsProperFront k l
    proper q rest [] c u l e f = (c, u, f ∙ ap (λ m. (q ++ m) ++ c ∷ u) (append-nil rest) ∙ ap (λ m. m ++ c ∷ u) (sym e))
    proper q rest (d ∷ s) c u l e f =
        (d, s ++ c ∷ u, f ∙ ap (λ m. m ++ c ∷ u) (sym (append_assoc q rest (d ∷ s))) ∙ append_assoc (q ++ rest) (d ∷ s) (c ∷ u) ∙ ap (λ m. m ++ d ∷ (s ++ c ∷ u)) (sym e))

    at_prefix : (p prefix : List ℕ) (cs : Forest X) → IsCanonical key p (inner prefix cs) → (rest : List ℕ) → k ≡ p ++ rest → (y : X) → IsIn y (items_in cs) → R (key y)
        → ((b : ℕ) (r : List ℕ) → rest ≡ prefix ++ b ∷ r → LandsOn y (landing_in cs b r)) → Passed prefix rest → LandsOn y (landing (inner prefix cs) rest)
    at_prefix p prefix cs h rest e y i R-y down (end f s g) =
        let b = deeper key (key y) (p ++ prefix) cs h.1 (y, i, refl) in
        subst (λ v. LandsOn y (elim v as (λ _. Landing X) [ ends ↦ begins_all | differs ↦ splits_prefix | passes c r ↦ landing_in cs c r ])) (sym f)
        (proper p rest s b.0 b.1 (key y) e (b.2 ∙ ap (λ m. (p ++ m) ++ b.0 ∷ b.1) g))
    at_prefix p prefix cs h rest e y i R-y down (other f z a r b s g j apart) =
        let d = deeper key (key y) (p ++ prefix) cs h.1 (y, i, refl) in
        absurd (no_apart (p ++ z) a r b (s ++ d.0 ∷ d.1) (key y) (e ∙ ap (λ m. p ++ m) g ∙ sym (append_assoc p z (a ∷ r)))
        (d.2 ∙ ap (λ m. (p ++ m) ++ d.0 ∷ d.1) j ∙ ap (λ m. m ++ d.0 ∷ d.1) (sym (append_assoc p z (b ∷ s))) ∙ append_assoc (p ++ z) (b ∷ s) (d.0 ∷ d.1)) apart R-y)
    at_prefix p prefix cs h rest e y i R-y down (on b r f g) =
        subst (λ v. LandsOn y (elim v as (λ _. Landing X) [ ends ↦ begins_all | differs ↦ splits_prefix | passes c s ↦ landing_in cs c s ])) (sym f) (down b r g)

    mutual
      lands : (p : List ℕ) (t : Tree X) → IsCanonical key p t → (rest : List ℕ) → k ≡ p ++ rest → (y : X) → IsIn y (items t) → R (key y) → LandsOn y (landing t rest)
      lands p (leaf x) h rest e y (inl i) R-y = i
      lands p (leaf x) h rest e y (inr i) R-y = absurd i
      lands p (inner prefix cs) h rest e y i R-y =
          at_prefix p prefix cs h rest e y i R-y
          (λ b r g. lands_in (p ++ prefix) cs h.1 b r (e ∙ ap (λ m. p ++ m) g ∙ sym (append_assoc p prefix (b ∷ r))) y i R-y) (pass_says prefix rest)

      lands_in : (q : List ℕ) (cs : Forest X) → AreCanonical key q cs → (b : ℕ) (r : List ℕ) → k ≡ q ++ b ∷ r → (y : X) → IsIn y (items_in cs) → R (key y) → LandsOn y (landing_in cs b r)
      lands_in q no_child h b r e y i R-y = absurd i
      lands_in q (child c t cs) h b r e y i R-y =
          let here = λ (f : b ≡ c) (j : IsIn y (items t)). subst (LandsOn y) (sym (cond-true (eqb b c) (landing t r) (landing_in cs b r) (eq-eqb b c f)))
          (lands (q ++ c ∷ []) t h.0 r (e ∙ ap (λ a. q ++ a ∷ r) f ∙ sym (append_assoc q (c ∷ []) r)) y j R-y) in
          let there = λ (n : b ≡ c → ⊥) (j : IsIn y (items_in cs)). subst (LandsOn y) (sym (cond-false (eqb b c) (landing t r) (landing_in cs b r) (ne_eqb b c n)))
          (lands_in q cs h.2 b r e y j R-y) in
          elim (in_cases y (items t) (items_in cs) i) [
            | inl j ↦ elim (cases_eq b c) [
              | inl f ↦ here f j
              | inr n ↦ let s = begins_step q c (key y) (all_at _ y (items t) (begin key (q ++ c ∷ []) t h.0) j) in absurd (no_apart q b r c s.0 (key y) e s.1 n R-y)
            ]
            | inr j ↦ elim (cases_eq b c) [
              | inl f ↦ let s = deeper key (key y) q cs h.2 (y, j, refl) in
                  absurd (elim (cases_eq b s.0) [
                    | inl g ↦ all_at (λ x. BeginsWith (q ++ c ∷ []) (key x) → ⊥) y (items_in cs) (not_among_others key q c cs h.1 h.2) j
                        (begins_from_step q c s.1 (key y) (s.2 ∙ ap (λ a. q ++ a ∷ s.1) (sym g ∙ f)))
                    | inr n ↦ no_apart q b r s.0 s.1 (key y) e s.2 n R-y
                  ])
              | inr n ↦ there n j
            ]
          ]

  -- what stands where the descent ends
  abbrev IsThere : List X → Landing X → Type 0
  IsThere xs (on_leaf x) = IsIn x xs
  IsThere xs begins_all = (y : X) × IsIn y xs × IsProperFront k (key y)
  IsThere xs splits_prefix = Unit {0}
  IsThere xs (lacks_child b) = Unit {0}

  there_left : (xs ys : List X) (l : Landing X) → IsThere xs l → IsThere (xs ++ ys) l
  there_left xs ys (on_leaf x) h = in_left x xs ys h
  there_left xs ys begins_all h = (h.0, in_left h.0 xs ys h.1, h.2)
  there_left xs ys splits_prefix h = tt
  there_left xs ys (lacks_child b) h = tt

  there_right : (xs ys : List X) (l : Landing X) → IsThere ys l → IsThere (xs ++ ys) l
  there_right xs ys (on_leaf x) h = in_right x xs ys h
  there_right xs ys begins_all h = (h.0, in_right h.0 xs ys h.1, h.2)
  there_right xs ys splits_prefix h = tt
  there_right xs ys (lacks_child b) h = tt

  proper_front : (q rest s : List ℕ) (c : ℕ) (u : List ℕ) (l : List ℕ) → k ≡ q ++ rest → l ≡ (q ++ (rest ++ s)) ++ c ∷ u → IsProperFront k l
  proper_front = proper (λ l. k ≡ l) (λ q a r b s l e f n g. let h : q ++ a ∷ r ≡ q ++ b ∷ s = sym e ∙ g ∙ f in let i : a ∷ r ≡ b ∷ s = cancel_front q (a ∷ r) (b ∷ s) h in n cc)

  there_at : (p prefix : List ℕ) (cs : Forest X) → IsCanonical key p (inner prefix cs) → (rest : List ℕ) → k ≡ p ++ rest
      → ((b : ℕ) (r : List ℕ) → rest ≡ prefix ++ b ∷ r → IsThere (items_in cs) (landing_in cs b r)) → Passed prefix rest → IsThere (items_in cs) (landing (inner prefix cs) rest)
  there_at p prefix cs h rest e down (end f s g) =
      let v = some_item_in key (p ++ prefix) cs (let n = h.0 in omega arith) h.1 in
      let i : IsIn v.0 (items_in cs) = subst (IsIn v.0) (sym v.2) (inl refl) in
      let b = deeper key (key v.0) (p ++ prefix) cs h.1 (v.0, i, refl) in
      subst (λ w. IsThere (items_in cs) (elim w as (λ _. Landing X) [ ends ↦ begins_all | differs ↦ splits_prefix | passes c r ↦ landing_in cs c r ])) (sym f)
      (v.0, i, proper_front p rest s b.0 b.1 (key v.0) e (b.2 ∙ ap (λ m. (p ++ m) ++ b.0 ∷ b.1) g))
  there_at p prefix cs h rest e down (other f z a r b s g j apart) =
      subst (λ w. IsThere (items_in cs) (elim w as (λ _. Landing X) [ ends ↦ begins_all | differs ↦ splits_prefix | passes c r ↦ landing_in cs c r ])) (sym f) tt
  there_at p prefix cs h rest e down (on b r f g) =
      subst (λ w. IsThere (items_in cs) (elim w as (λ _. Landing X) [ ends ↦ begins_all | differs ↦ splits_prefix | passes c s ↦ landing_in cs c s ])) (sym f) (down b r g)

  mutual
    there : (p : List ℕ) (t : Tree X) → IsCanonical key p t → (rest : List ℕ) → k ≡ p ++ rest → IsThere (items t) (landing t rest)
    there p (leaf x) h rest e = inl refl
    there p (inner prefix cs) h rest e =
        there_at p prefix cs h rest e (λ b r g. there_in (p ++ prefix) cs h.1 b r (e ∙ ap (λ m. p ++ m) g ∙ sym (append_assoc p prefix (b ∷ r)))) (pass_says prefix rest)

    there_in : (q : List ℕ) (cs : Forest X) → AreCanonical key q cs → (b : ℕ) (r : List ℕ) → k ≡ q ++ b ∷ r → IsThere (items_in cs) (landing_in cs b r)
    there_in q no_child h b r e = tt
    there_in q (child c t cs) h b r e =
        let here = λ (f : b ≡ c). there_left (items t) (items_in cs) (landing t r) (there (q ++ c ∷ []) t h.0 r (e ∙ ap (λ a. q ++ a ∷ r) f ∙ sym (append_assoc q (c ∷ []) r))) in
        let later = there_right (items t) (items_in cs) (landing_in cs b r) (there_in q cs h.2 b r e) in
        cond_both (eqb b c) (landing t r) (landing_in cs b r) (IsThere (items t ++ items_in cs)) (λ f. here (eqb-true b c f)) (λ n. later)

  -- the descent ends at the leaf whose key is a front of k
  pub lands_on : (t : Tree X) → IsCanonical key [] t → (y : X) → IsIn y (items t) → BeginsWith (key y) k → landing t k ≡ on_leaf y
  lands_on t h y i s = go (landing t k) (lands (λ l. BeginsWith l k) apart [] t h k refl y i s)
    where
      apart : (q : List ℕ) (a : ℕ) (r : List ℕ) (b : ℕ) (u l : List ℕ) → k ≡ q ++ a ∷ r → l ≡ q ++ b ∷ u → a ≢ b → BeginsWith l k → ⊥
      apart q a r b u l e f n (w, g) =
          let i : a ∷ r ≡ b ∷ (u ++ w) = cancel_front q (a ∷ r) (b ∷ (u ++ w)) (sym e ∙ g ∙ ap (λ m. m ++ w) f ∙ append_assoc q (b ∷ u) w) in n cc

      go : (l : Landing X) → LandsOn (λ l. BeginsWith l k) apart y l → l ≡ on_leaf y
      go (on_leaf x) f = ap on_leaf f
      go begins_all (b, r, f) =
          let g : k ++ [] ≡ k ++ (b ∷ r ++ s.0) = append-nil k ∙ s.1 ∙ ap (λ m. m ++ s.0) f ∙ append_assoc k (b ∷ r) s.0 in
          let i : [] ≡ b ∷ (r ++ s.0) = cancel_front k [] (b ∷ (r ++ s.0)) g in absurd (cc)
      go splits_prefix f = absurd f
      go (lacks_child b) f = absurd f

  -- a conflict, and where the descent ends
  pub conflict_blocks : (t : Tree X) → IsCanonical key [] t → (y : X) → IsIn y (items t) → Conflict k (key y) → EndsInConflict key k (landing t k)
  conflict_blocks t h y i c = go (landing t k) (lands (Conflict k) apart [] t h k refl y i c)
    where
      apart : (q : List ℕ) (a : ℕ) (r : List ℕ) (b : ℕ) (s l : List ℕ) → k ≡ q ++ a ∷ r → l ≡ q ++ b ∷ s → a ≢ b → Conflict k l → ⊥
      apart q a r b s l e f n g = apart_no_conflict q a r b s n (subst (λ m. Conflict m (q ++ b ∷ s)) e (subst (Conflict k) f g))

      go : (l : Landing X) → LandsOn (Conflict k) apart y l → EndsInConflict key k l
      go (on_leaf x) f = subst (Conflict k) (sym (ap key f)) c
      go begins_all f = tt
      go splits_prefix f = f
      go (lacks_child b) f = f

  pub block_conflicts : (t : Tree X) → IsCanonical key [] t → EndsInConflict key k (landing t k) → (y : X) × IsIn y (items t) × Conflict k (key y)
  block_conflicts t h b = go (landing t k) (there [] t h k refl) b
    where
      go : (l : Landing X) → IsThere (items t) l → EndsInConflict key k l → (y : X) × IsIn y (items t) × Conflict k (key y)
      go (on_leaf x) i c = (x, i, c)
      go begins_all i c = (i.0, i.1, conflict_first k (key i.0) i.2)
      go splits_prefix i c = absurd c
      go (lacks_child b) i c = absurd c

-- the last node on the way to a stored key

pub last_more : {X : Type 0} (t : Tree X) (x : X) (nodes : List (Tree X)) → last_leaf nodes ≡ Some x → last_leaf (t ∷ nodes) ≡ Some x
last_more t x [] e = absurd (cc)
last_more t x (u ∷ nodes) e = e

module _ {X : Type 0} (key : X → List ℕ) where
  -- what is a front of k is on k's way
  mutual
    finds : (k p : List ℕ) (t : Tree X) → IsCanonical key p t → (y : X) → IsIn y (items t) → BeginsWith (key y) k → (rest : List ℕ) → k ≡ p ++ rest → last_leaf (path_of t rest) ≡ Some y
    finds k p (leaf x) h y (inl i) s rest e = ap Some i
    finds k p (leaf x) h y (inr i) s rest e = absurd i
    finds k p (inner prefix cs) h y i s rest e =
        let d = deeper key (key y) (p ++ prefix) cs h.1 (y, i, refl) in
        let g : k ≡ (p ++ prefix) ++ d.0 ∷ (d.1 ++ s.0) = s.1 ∙ ap (λ m. m ++ s.0) d.2 ∙ append_assoc (p ++ prefix) (d.0 ∷ d.1) s.0 in
        let f : rest ≡ prefix ++ d.0 ∷ (d.1 ++ s.0) = cancel_front p rest (prefix ++ d.0 ∷ (d.1 ++ s.0)) (sym e ∙ g ∙ append_assoc p prefix (d.0 ∷ (d.1 ++ s.0))) in
        last_more (inner prefix cs) y (path_in cs (drop (length prefix) rest))
        (ap (λ l. last_leaf (path_in cs l)) (ap (drop (length prefix)) f ∙ drop_at prefix (d.0 ∷ (d.1 ++ s.0)) (length prefix) refl)
        ∙ finds_in k (p ++ prefix) cs h.1 y i s d.0 (d.1 ++ s.0) g)

    finds_in : (k q : List ℕ) (cs : Forest X) → AreCanonical key q cs → (y : X) → IsIn y (items_in cs) → BeginsWith (key y) k → (b : ℕ) (r : List ℕ) → k ≡ q ++ b ∷ r
        → last_leaf (path_in cs (b ∷ r)) ≡ Some y
    finds_in k q no_child h y i s b r e = absurd i
    finds_in k q (child c t cs) h y i s b r e =
        let here = λ (f : b ≡ c) (j : IsIn y (items t)). ap last_leaf (cond-true (eqb b c) (path_of t r) (path_in cs (b ∷ r)) (eq-eqb b c f))
        ∙ finds k (q ++ c ∷ []) t h.0 y j s r (e ∙ ap (λ a. q ++ a ∷ r) f ∙ sym (append_assoc q (c ∷ []) r)) in
        let there = λ (n : b ≡ c → ⊥) (j : IsIn y (items_in cs)). ap last_leaf (cond-false (eqb b c) (path_of t r) (path_in cs (b ∷ r)) (ne_eqb b c n)) ∙ finds_in k q cs h.2 y j s b r e in
        elim (in_cases y (items t) (items_in cs) i) [
          | inl j ↦ here (one_byte q b c k (begins_from_step q b r k e)
              (begins_trans (q ++ c ∷ []) (key y) k (all_at (λ x. BeginsWith (q ++ c ∷ []) (key x)) y (items t) (begin key (q ++ c ∷ []) t h.0) j) s)) j
          | inr j ↦ there (λ f.
              let d = deeper key (key y) q cs h.2 (y, j, refl) in
              let g : c ≡ d.0 = sym f ∙ one_byte q b d.0 k (begins_from_step q b r k e) (begins_trans (q ++ d.0 ∷ []) (key y) k (begins_from_step q d.0 d.1 (key y) d.2) s) in
              all_at (λ x. BeginsWith (q ++ c ∷ []) (key x) → ⊥) y (items_in cs) (not_among_others key q c cs h.1 h.2) j
              (subst (λ a. BeginsWith (q ++ a ∷ []) (key y)) (sym g) (begins_from_step q d.0 d.1 (key y) d.2))) j
        ]

  pub path_finds : (t : Tree X) → IsCanonical key [] t → (k : List ℕ) (y : X) → IsIn y (items t) → BeginsWith (key y) k → last_leaf (path_of t k) ≡ Some y
  path_finds t h k y i s = finds k [] t h y i s k refl

-- a stored key and what goes on after it have one path
module _ {X : Type 0} (key : X → List ℕ) where
  mutual
    same_way : (k p : List ℕ) (t : Tree X) → IsCanonical key p t → (y : X) → IsIn y (items t) → (s : BeginsWith (key y) k) → (rest : List ℕ) → key y ≡ p ++ rest → path_of t (rest ++ s.0) ≡ path_of t rest
    same_way k p (leaf x) h y i s rest e = refl
    same_way k p (inner prefix cs) h y i s rest e =
        let d = deeper key (key y) (p ++ prefix) cs h.1 (y, i, refl) in
        let f : rest ≡ prefix ++ d.0 ∷ d.1 = cancel_front p rest (prefix ++ d.0 ∷ d.1) (sym e ∙ d.2 ∙ append_assoc p prefix (d.0 ∷ d.1)) in
        let a = ap (λ l. drop (length prefix) (l ++ s.0)) f ∙ ap (drop (length prefix)) (append_assoc prefix (d.0 ∷ d.1) s.0) ∙ drop_at prefix (d.0 ∷ (d.1 ++ s.0)) (length prefix) refl in
        let b = ap (drop (length prefix)) f ∙ drop_at prefix (d.0 ∷ d.1) (length prefix) refl in
        ap (λ nodes. inner prefix cs ∷ nodes) (ap (path_in cs) a ∙ same_way_in k (p ++ prefix) cs h.1 y i s d.0 d.1 d.2 ∙ sym (ap (path_in cs) b))

    same_way_in : (k q : List ℕ) (cs : Forest X) → AreCanonical key q cs → (y : X) → IsIn y (items_in cs) → (s : BeginsWith (key y) k) → (b : ℕ) (r : List ℕ) → key y ≡ q ++ b ∷ r
        → path_in cs (b ∷ (r ++ s.0)) ≡ path_in cs (b ∷ r)
    same_way_in k q no_child h y i s b r e = absurd i
    same_way_in k q (child c t cs) h y i s b r e =
        let here = λ (f : b ≡ c) (j : IsIn y (items t)). cond-true (eqb b c) (path_of t (r ++ s.0)) (path_in cs (b ∷ (r ++ s.0))) (eq-eqb b c f)
        ∙ same_way k (q ++ c ∷ []) t h.0 y j s r (e ∙ ap (λ a. q ++ a ∷ r) f ∙ sym (append_assoc q (c ∷ []) r))
        ∙ sym (cond-true (eqb b c) (path_of t r) (path_in cs (b ∷ r)) (eq-eqb b c f)) in
        let there = λ (n : b ≡ c → ⊥) (j : IsIn y (items_in cs)). cond-false (eqb b c) (path_of t (r ++ s.0)) (path_in cs (b ∷ (r ++ s.0))) (ne_eqb b c n)
        ∙ same_way_in k q cs h.2 y j s b r e
        ∙ sym (cond-false (eqb b c) (path_of t r) (path_in cs (b ∷ r)) (ne_eqb b c n)) in
        elim (in_cases y (items t) (items_in cs) i) [
          | inl j ↦ here (one_byte q b c (key y) (begins_from_step q b r (key y) e) (all_at (λ x. BeginsWith (q ++ c ∷ []) (key x)) y (items t) (begin key (q ++ c ∷ []) t h.0) j)) j
          | inr j ↦ there (λ f. all_at (λ x. BeginsWith (q ++ c ∷ []) (key x) → ⊥) y (items_in cs) (not_among_others key q c cs h.1 h.2) j
              (subst (λ a. BeginsWith (q ++ a ∷ []) (key y)) f (begins_from_step q b r (key y) e))) j
        ]

  pub path_same : (t : Tree X) → IsCanonical key [] t → (k : List ℕ) (y : X) → IsIn y (items t) → BeginsWith (key y) k → path_of t k ≡ path_of t (key y)
  path_same t h k y i s = ap (path_of t) s.1 ∙ same_way k [] t h y i s (key y) refl

-- a leaf at which a path ends is one of the tree's
last_cases : {X : Type 0} (prefix : List ℕ) (cs : Forest X) (x : X) (nodes : List (Tree X)) → last_leaf (inner prefix cs ∷ nodes) ≡ Some x → last_leaf nodes ≡ Some x
last_cases prefix cs x [] e = absurd (cc)
last_cases prefix cs x (u ∷ nodes) e = e

mutual
  pub last_in_tree : {X : Type 0} (t : Tree X) (k : List ℕ) (x : X) → last_leaf (path_of t k) ≡ Some x → IsIn x (items t)
  last_in_tree (leaf y) k x e = inl cc
  last_in_tree (inner prefix cs) k x e = last_in_forest cs (drop (length prefix) k) x (last_cases prefix cs x (path_in cs (drop (length prefix) k)) e)

  pub last_in_forest : {X : Type 0} (cs : Forest X) (k : List ℕ) (x : X) → last_leaf (path_in cs k) ≡ Some x → IsIn x (items_in cs)
  last_in_forest no_child k x e = absurd (cc)
  last_in_forest (child c t cs) [] x e = absurd (cc)
  last_in_forest (child c t cs) (b ∷ k) x e =
      let here = λ (f : last_leaf (path_of t k) ≡ Some x). in_left x (items t) (items_in cs) (last_in_tree t k x f) in
      let there = λ (f : last_leaf (path_in cs (b ∷ k)) ≡ Some x). in_right x (items t) (items_in cs) (last_in_forest cs (b ∷ k) x f) in
      cond_both (eqb b c) (path_of t k) (path_in cs (b ∷ k)) (λ nodes. last_leaf nodes ≡ Some x → IsIn x (items t ++ items_in cs)) (λ _. here) (λ _. there) e
