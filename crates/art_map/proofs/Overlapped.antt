-- The leaves whose keys overlap a key: the one whose key is a front of it, or else those that begin with it.
use Rattle.std.proofs.Common.{◌≡◌, ◌≢◌, ℕ, ◌≤◌, Bool, true, false, cond, ◌||◌, eqb, filter, List, [], ◌∷◌, ◌++◌, Option, Some, None, option_map, ◌⊎◌, inl, inr, refl, sym, ap, ap₂, subst, ◌∙◌, arith}
use Rattle.std.specs.List.{AllByRecursion}
use Rattle.std.specs.Map.{lookup_entry}
use Rattle.std.proofs.lemmas.Bool.{cases_order, or_right}
use Rattle.std.proofs.lemmas.List.Elements.{filter-append}
use Rattle.art_bytes.proofs.Common.{BeginsWith, IsBefore, before_trans}
use Rattle.art_arena.proofs.Common.{leaf_where, passing, first_slot, last_slot, times, LeafAt, pairs_of, AscendsByKey, begins_with, eqb-self, ends_with, times-append, times-here, all_weaker, begins_same, begins_true}
use Rattle.art_operations.proofs.Common.{AreEndsWhere, overlaps, before, following, before_no_overlap, after_no_overlap, IsConvex}
use Rattle.art_map.proofs.Terms.{Contents, first_item, IsFound, IsLoneAt, lone_item, IsWalkOf}
use Rattle.art_map.proofs.LookedUp.{first-at}

-- two keys overlap, or one comes before the other
overlap_or_order : (k l : List ℕ) → (overlaps k l ≡ true) ⊎ ((IsBefore k l) ⊎ (IsBefore l k))
overlap_or_order [] l = inl refl
overlap_or_order (a ∷ k) [] = inl refl
overlap_or_order (a ∷ k) (b ∷ l) = elim (cases_order a b) [
  | inl e ↦ same e (overlap_or_order k l)
  | inr (inl h) ↦ inr (inl (inl h))
  | inr (inr h) ↦ inr (inr (inl h))
]
  where
    same : a ≡ b → (overlaps k l ≡ true) ⊎ ((IsBefore k l) ⊎ (IsBefore l k)) → (overlaps (a ∷ k) (b ∷ l) ≡ true) ⊎ ((IsBefore (a ∷ k) (b ∷ l)) ⊎ (IsBefore (b ∷ l) (a ∷ k)))
    same e (inl o) = inl (rw (e, eqb-self b) o)
    same e (inr (inl h)) = inr (inl (inr (e, h)))
    same e (inr (inr h)) = inr (inr (inr (sym e, h)))

-- whatever stands between two keys that overlap a key overlaps it
pub overlap_convex : (key : List ℕ) → IsConvex (λ k. overlaps key k)
overlap_convex key a b c ab bc on_a on_c = elim (overlap_or_order key b) [
  | inl o ↦ o
  | inr (inl h) ↦ let f = before_no_overlap key c (before_trans key b c h bc) in absurd (cc)
  | inr (inr h) ↦ let f = after_no_overlap key a (before_trans a b key ab h) in absurd (cc)
]

-- a key before a front of another comes before that one, and one after it after
before_longer : (k l r : List ℕ) → IsBefore k l → IsBefore k (l ++ r)
before_longer [] l r h = absurd h
before_longer (a ∷ k) [] r h = absurd h
before_longer (a ∷ k) (b ∷ l) r (inl h) = inl h
before_longer (a ∷ k) (b ∷ l) r (inr h) = inr (h.0, before_longer k l r h.1)

longer_before : (k r l : List ℕ) → IsBefore k l → IsBefore (k ++ r) l
longer_before [] r l h = absurd h
longer_before (a ∷ k) r [] h = absurd h
longer_before (a ∷ k) r (b ∷ l) (inl h) = inl h
longer_before (a ∷ k) r (b ∷ l) (inr h) = inr (h.0, longer_before k r l h.1)

module _ {K V : Type 0} (bytes : K → List ℕ) (key : List ℕ) where
  -- the leaves whose keys overlap the key
  abbrev Over : List (LeafAt K V) → List (LeafAt K V)
  Over ls = passing bytes (λ k. overlaps key k) ls

  none_over : (ls : List (LeafAt K V)) → AllByRecursion (λ (l : LeafAt K V). overlaps key (bytes l.key) ≡ false) ls → Over ls ≡ []
  none_over [] h = refl
  none_over (l ∷ ls) h = rw h.0 (none_over ls h.1)

  -- a leaf whose key is a front of the key overlaps it alone
  one_over : (front : List (LeafAt K V)) (l : LeafAt K V) (back : List (LeafAt K V)) → BeginsWith (bytes l.key) key → AscendsByKey (λ (m : LeafAt K V). bytes m.key) (front ++ l ∷ back) → Over (front ++ l ∷ back) ≡ l ∷ []
  one_over front l back (r, e) up =
      let key_before = all_weaker _ (λ (m : LeafAt K V). overlaps key (bytes m.key) ≡ false)
      (λ m b. after_no_overlap key (bytes m.key) (subst (IsBefore (bytes m.key)) (sym e) (before_longer (bytes m.key) (bytes l.key) r b))) front (before (λ (m : LeafAt K V). bytes m.key) l front back up) in
      let key_after = all_weaker _ (λ (m : LeafAt K V). overlaps key (bytes m.key) ≡ false)
      (λ m b. before_no_overlap key (bytes m.key) (subst (λ k. IsBefore k (bytes m.key)) (sym e) (longer_before (bytes l.key) r (bytes m.key) b))) back (following (λ (m : LeafAt K V). bytes m.key) l front back up) in
      filter-append (λ (m : LeafAt K V). overlaps key (bytes m.key)) front (l ∷ back)
      ∙ ap₂ (λ xs ys. xs ++ ys) (none_over front key_before) (rw (over_front (bytes l.key) r e) (ap (λ xs. l ∷ xs) (none_over back key_after)))
    where
      over_front : (k r : List ℕ) → key ≡ k ++ r → overlaps key k ≡ true
      over_front k r e = or_right (begins_with key k) (begins_with k key) (begins_same k key (r, e))

  pub lone_ends : (ls : List (LeafAt K V)) (slot : ℕ) → AscendsByKey (λ (l : LeafAt K V). bytes l.key) ls → leaf_where bytes (λ k. begins_with k key) ls ≡ Some slot → AreEndsWhere bytes (λ k. overlaps key k) ls (Some (slot, slot))
  lone_ends ls slot up e =
      let first = first-at bytes (λ k. begins_with k key) ls slot e in
      let over = ap Over first.is ∙ one_over first.front first.leaf first.back (begins_true (bytes first.leaf.key) key first.passes) (subst (AscendsByKey (λ (l : LeafAt K V). bytes l.key)) first.is up) in
      (ap (λ xs. first_slot xs None) over ∙ ap Some first.slot_is, ap (last_slot None) over ∙ ap Some first.slot_is)

  -- where no key is a front of the key, those overlap it that begin with it
  same_over : (ls : List (LeafAt K V)) → leaf_where bytes (λ k. begins_with k key) ls ≡ None → Over ls ≡ passing bytes (λ k. begins_with key k) ls
  same_over [] e = refl
  same_over (l ∷ ls) e = here (begins_with (bytes l.key) key) refl (same_over ls)
    where
      here : (b : Bool) → begins_with (bytes l.key) key ≡ b → (leaf_where bytes (λ k. begins_with k key) ls ≡ None → Over ls ≡ passing bytes (λ k. begins_with key k) ls)
          → Over (l ∷ ls) ≡ passing bytes (λ k. begins_with key k) (l ∷ ls)
      here true t rest = let f = rw t at e in absurd (cc)
      here false t rest =
          let later = rest (rw t at e) in
          elim (begins_with key (bytes l.key)) as (λ b. cond (b || begins_with (bytes l.key) key) (l ∷ Over ls) (Over ls) ≡ cond b (l ∷ passing bytes (λ k. begins_with key k) ls) (passing bytes (λ k. begins_with key k) ls)) [
            | true ↦ ap (λ xs. l ∷ xs) later
            | false ↦ rw t later
          ]

  pub many_ends : (ls : List (LeafAt K V)) (ends : Option (ℕ × ℕ)) → leaf_where bytes (λ k. begins_with k key) ls ≡ None → AreEndsWhere bytes (λ k. begins_with key k) ls ends → AreEndsWhere bytes (λ k. overlaps key k) ls ends
  many_ends ls None e h = same_over ls e ∙ h
  many_ends ls (Some ends) e h = (ap (λ xs. first_slot xs None) (same_over ls e) ∙ h.0, ap (last_slot None) (same_over ls e) ∙ h.1)

-- the first of the ends is the first leaf that passes
pub first_of : {K V : Type 0} (bytes : K → List ℕ) (test : List ℕ → Bool) (ls : List (LeafAt K V)) (ends : Option (ℕ × ℕ)) → AreEndsWhere bytes test ls ends → option_map (λ e. e.0) ends ≡ leaf_where bytes test ls
first_of bytes test ls None h = sym (ap (λ xs. first_slot xs None) h)
first_of bytes test ls (Some ends) h = sym h.0

module _ {K V : Type 0} where
  -- the first pair that passes a test is the first of those that do
  pub entry-of : (test : K → Bool) (pairs : List (K × V)) → lookup_entry test pairs ≡ first_item (filter (λ p. test p.0) pairs)
  entry-of test [] = refl
  entry-of test (p ∷ ps) = elim (test p.0) as (λ b. cond b (Some p) (lookup_entry test ps) ≡ first_item (cond b (p ∷ filter (λ q. test q.0) ps) (filter (λ q. test q.0) ps))) [
    | true ↦ refl
    | false ↦ entry-of test ps
  ]

  -- a run that begins and ends with one leaf has one pair, and no other has
  pub one_leaf : (ys : List (LeafAt K V)) (a b : ℕ) → first_slot ys None ≡ Some a → last_slot None ys ≡ Some b → ((n : ℕ) → times n ys ≤ 1) → a ≡ b → lone_item (pairs_of ys) ≡ first_item (pairs_of ys)
  one_leaf [] a b f l once e = refl
  one_leaf (y ∷ []) a b f l once e = refl
  one_leaf (y ∷ z ∷ ys) a b f l once e =
      let end = ends_with (Some y.slot) z ys b l in
      let there : 1 ≤ times b (z ∷ ys) = subst (λ xs. 1 ≤ times b xs) (sym end.2) (subst (λ n. 1 ≤ times n (end.0 ++ end.1 ∷ [])) end.3 (times-here end.0 [] end.1)) in
      let same : y.slot ≡ b = (let g : Some y.slot ≡ Some a = f in cc) in
      let met : eqb b y.slot ≡ true = rw same (eqb-self b) in
      absurd (omega (arith, once b, there, ap {B = ℕ} (λ x. cond x 1 0) met))

  pub two_leaves : (ys : List (LeafAt K V)) (a b : ℕ) → first_slot ys None ≡ Some a → last_slot None ys ≡ Some b → a ≢ b → lone_item (pairs_of ys) ≡ None
  two_leaves [] a b f l n = refl
  two_leaves (y ∷ []) a b f l n = absurd (n (cc))
  two_leaves (y ∷ z ∷ ys) a b f l n = refl

  -- where a run of the pairs that pass begins with a leaf, that leaf has the only one of them if it ends with it too
  module _ (test : K → Bool) (m : Contents K V) (a b : ℕ) where
    run_once : (walk : IsWalkOf m.nodes (Some (a, b)) (filter (λ p. test p.0) m.pairs)) (n : ℕ) → times n walk.run.leaves ≤ 1
    run_once walk n =
        let w = walk.run.walk in
        let whole = w.list.once n in
        omega (arith, whole, times-append n w.xs (walk.run.leaves ++ w.zs), times-append n walk.run.leaves w.zs)

    pub lone-at : IsWalkOf m.nodes (Some (a, b)) (filter (λ p. test p.0) m.pairs) → IsFound test m (Some a) → a ≡ b → IsLoneAt test m (Some a)
    lone-at walk found e = (
      found.0,
      found.1,
      ap lone_item (sym walk.pairs_are) ∙ one_leaf walk.run.leaves a b walk.run.walk.ends_are.0 walk.run.walk.ends_are.1 (run_once walk) e ∙ ap first_item walk.pairs_are ∙ sym (entry-of test m.pairs) ∙ found.2,
      found.3,
    )

    pub not_lone : IsWalkOf m.nodes (Some (a, b)) (filter (λ p. test p.0) m.pairs) → a ≢ b → IsLoneAt test m None
    not_lone walk n = ap lone_item (sym walk.pairs_are) ∙ two_leaves walk.run.leaves a b walk.run.walk.ends_are.0 walk.run.walk.ends_are.1 n
