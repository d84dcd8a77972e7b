-- Finite maps from names, and the lists of what they hold: no shapes here.
use Rattle.std.proofs.Common.{◌≡◌, ◌≢◌, ◌⊎◌, ◌+◌, ◌≤◌, ℕ, true, false, cond, List, [], ◌∷◌, ◌++◌, Option, Some, None, is_some, refl, sym, ap, ap₂, subst, ◌∙◌, inl, inr, arith}
use Rattle.std.proofs.lemmas.Bool.Decides.{eqb_tells}
use Rattle.art_nodes.proofs.Common.{Name}
use Rattle.art_nodes.specs.declared.kind.NodeType.{NodeType}
use Rattle.art_nodes.specs.declared.kind.NodeType.TheVariants.{Node4, Node16, Node32, Node48, Node256, Leaf}
use Rattle.art_arena.proofs.Terms.{Cell, pair, branches, UpdatesAt, same_kind, same_name, copies, AreHeld, Holds, HoldsOnly}
use Rattle.art_arena.proofs.tree.Order.{all_append, all_left, all_right}

-- the children of a cell
abbrev pub cell_children : {K V : Type 0} → Cell K V → List (ℕ × Name)
cell_children (pair k v) = []
cell_children (branches node) = node.children

-- under one name stands one cell
pub same_cell : {K V : Type 0} (at : Name → Option (Cell K V)) (m n : Name) (c d : Cell K V) → m ≡ n → at m ≡ Some c → at n ≡ Some d → c ≡ d
same_cell at m n c d e f g = let h : Some c ≡ Some d = sym f ∙ ap at e ∙ g in cc

-- the test tells names apart

pub same_kind_tells : (a b : NodeType) → ((same_kind a b ≡ true) × (a ≡ b)) ⊎ ((same_kind a b ≡ false) × (a ≢ b))
same_kind_tells Node4 Node4 = inl (refl, refl)
same_kind_tells Node4 b = inr (refl, λ e. absurd (cc))
same_kind_tells Node16 Node16 = inl (refl, refl)
same_kind_tells Node16 b = inr (refl, λ e. absurd (cc))
same_kind_tells Node32 Node32 = inl (refl, refl)
same_kind_tells Node32 b = inr (refl, λ e. absurd (cc))
same_kind_tells Node48 Node48 = inl (refl, refl)
same_kind_tells Node48 b = inr (refl, λ e. absurd (cc))
same_kind_tells Node256 Node256 = inl (refl, refl)
same_kind_tells Node256 b = inr (refl, λ e. absurd (cc))
same_kind_tells Leaf Leaf = inl (refl, refl)
same_kind_tells Leaf b = inr (refl, λ e. absurd (cc))

pub same_name_tells : (a b : Name) → ((same_name a b ≡ true) × (a ≡ b)) ⊎ ((same_name a b ≡ false) × (a ≢ b))
same_name_tells a b = elim (same_kind_tells a.kind b.kind) [
  | inl kind ↦ elim (eqb_tells a.slot b.slot) [
    | inl slot ↦ inl (rw (kind.0, slot.0) refl, ap₂ (λ k s. record { kind = k; slot = s }) kind.1 slot.1)
    | inr slot ↦ inr (rw (kind.0, slot.0) refl, λ e. slot.1 (ap (λ (n : Name). n.slot) e))
  ]
  | inr kind ↦ inr (rw kind.0 refl, λ e. kind.1 (ap (λ (n : Name). n.kind) e))
]

pub same_name-self : (a : Name) → same_name a a ≡ true
same_name-self a = elim (same_name_tells a a) [ inl y ↦ y.0 | inr n ↦ absurd (n.1 refl) ]

module _ {C : Type 0} where
  pub copies-append : (n : Name) (xs ys : List (Name × C)) → copies n (xs ++ ys) ≡ copies n xs + copies n ys
  copies-append n [] ys = omega arith
  copies-append n (x ∷ xs) ys = omega (arith, copies-append n xs ys)

  -- what the list names stays, where the maps differ elsewhere alone
  pub AreHeld-kept : (old new : Name → Option C) (cells : List (Name × C)) → ((n : Name) → 1 ≤ copies n cells → new n ≡ old n) → AreHeld old cells → AreHeld new cells
  AreHeld-kept old new [] same held = tt
  AreHeld-kept old new (c ∷ rest) same held = (
    same c.0 (omega (arith, ap {B = ℕ} (λ b. cond b 1 0) (same_name-self c.0))) ∙ held.0,
    AreHeld-kept old new rest (λ n here. same n (omega (arith, here))) held.1,
  )

  -- what the list doesn't name may change
  pub AreHeld-frame : (old new : Name → Option C) (place : Name) (value : Option C) → UpdatesAt old new place value → (cells : List (Name × C)) → copies place cells ≡ 0 → AreHeld old cells → AreHeld new cells
  AreHeld-frame old new place value updates cells absent held =
      AreHeld-kept old new cells (λ n here. updates.others n (λ e. let none = subst (λ m. copies m cells ≡ 0) (sym e) absent in omega (arith, here, none))) held

  -- a name that isn't in the map isn't in the list
  pub copies-vacant : (at : Name → Option C) (cells : List (Name × C)) (n : Name) → Holds at cells → at n ≡ None → copies n cells ≡ 0
  copies-vacant at cells n holds vacant = holds.once n ∙ ap (λ o. cond (is_some o) 1 0) vacant

  -- the map of a list where other cells of a name stand in the place of these
  Holds-edit : (old new : Name → Option C) (n : Name) (value : Option C) (xs was is ys : List (Name × C)) → UpdatesAt old new n value → copies n (xs ++ ys) ≡ 0 → AreHeld new is
      → copies n is ≡ cond (is_some value) 1 0 → ((m : Name) → same_name m n ≡ false → copies m is ≡ copies m was) → Holds old (xs ++ (was ++ ys)) → Holds new (xs ++ (is ++ ys))
  Holds-edit old new n value xs was is ys updates absent here counted same holds =
      let P_old = λ (x : Name × C). old x.0 ≡ Some x.1 in
      let P_new = λ (x : Name × C). new x.0 ≡ Some x.1 in
      let parts = copies-append n xs ys in
      let left = AreHeld-frame old new n value updates xs (omega arith) (all_left P_old xs (was ++ ys) holds.held) in
      let right = AreHeld-frame old new n value updates ys (omega arith) (all_right P_old was ys (all_right P_old xs (was ++ ys) holds.held)) in
      record {
        held = all_append P_new xs (is ++ ys) left (all_append P_new is ys here right);
        once = λ m. elim (same_name_tells m n) [
          | inl there ↦ rw (there.1, updates.changed) (omega (arith, copies-append n xs (is ++ ys), copies-append n is ys, counted))
          | inr other ↦
              let same_count : copies m (xs ++ (is ++ ys)) ≡ copies m (xs ++ (was ++ ys)) =
              omega (arith, copies-append m xs (is ++ ys), copies-append m is ys, copies-append m xs (was ++ ys), copies-append m was ys, same m other.0) in
              rw (updates.others m other.1) (same_count ∙ holds.once m)
        ];
      }

  -- a name in the list once isn't there twice
  copies-around : (at : Name → Option C) (n : Name) (c : C) (xs ys : List (Name × C)) → Holds at (xs ++ (n, c) ∷ ys) → copies n (xs ++ ys) ≡ 0
  copies-around at n c xs ys holds =
      let there = (all_right (λ (x : Name × C). at x.0 ≡ Some x.1) xs ((n, c) ∷ ys) holds.held).0 in
      let once : copies n (xs ++ (n, c) ∷ ys) ≡ 1 = holds.once n ∙ ap (λ o. cond (is_some o) 1 0) there in
      let parts : copies n (xs ++ (n, c) ∷ ys) ≡ copies n xs + (1 + copies n ys) = rw same_name-self at (copies-append n xs ((n, c) ∷ ys)) in
      omega (arith, copies-append n xs ys)

  -- the map of a list with one more cell
  pub Holds-add : (old new : Name → Option C) (n : Name) (c : C) (xs ys : List (Name × C)) → UpdatesAt old new n (Some c) → old n ≡ None → Holds old (xs ++ ys) → Holds new (xs ++ (n, c) ∷ ys)
  Holds-add old new n c xs ys updates vacant holds =
      Holds-edit old new n (Some c) xs [] ((n, c) ∷ []) ys updates (copies-vacant old (xs ++ ys) n holds vacant) (updates.changed, tt) (rw (same_name-self n) refl) (λ m other. rw other refl) holds

  -- the map of a list with another cell in the place of one
  pub Holds-write : (old new : Name → Option C) (n : Name) (was c : C) (xs ys : List (Name × C)) → UpdatesAt old new n (Some c) → Holds old (xs ++ (n, was) ∷ ys) → Holds new (xs ++ (n, c) ∷ ys)
  Holds-write old new n was c xs ys updates holds =
      Holds-edit old new n (Some c) xs ((n, was) ∷ []) ((n, c) ∷ []) ys updates (copies-around old n was xs ys holds) (updates.changed, tt) (rw (same_name-self n) refl) (λ m other. refl) holds

  -- the map of a list with one cell less
  pub Holds-remove : (old new : Name → Option C) (n : Name) (was : C) (xs ys : List (Name × C)) → UpdatesAt old new n None → Holds old (xs ++ (n, was) ∷ ys) → Holds new (xs ++ ys)
  Holds-remove old new n was xs ys updates holds =
      Holds-edit old new n None xs ((n, was) ∷ []) [] ys updates (copies-around old n was xs ys holds) tt refl (λ m other. rw other refl) holds

  -- cells may stand in another order
  pub Holds-turn : (at : Name → Option C) (xs ys zs ws : List (Name × C)) → Holds at (xs ++ (ys ++ (zs ++ ws))) → Holds at (xs ++ (zs ++ (ys ++ ws)))
  Holds-turn at xs ys zs ws holds =
      let Q = λ (c : Name × C). at c.0 ≡ Some c.1 in
      let after_xs = all_right Q xs (ys ++ (zs ++ ws)) holds.held in
      let after_ys = all_right Q ys (zs ++ ws) after_xs in
      record {
        held = all_append Q xs (zs ++ (ys ++ ws)) (all_left Q xs (ys ++ (zs ++ ws)) holds.held)
            (all_append Q zs (ys ++ ws) (all_left Q zs ws after_ys) (all_append Q ys ws (all_left Q ys (zs ++ ws) after_xs) (all_right Q zs ws after_ys)));
        once = λ n.
            let same : copies n (xs ++ (zs ++ (ys ++ ws))) ≡ copies n (xs ++ (ys ++ (zs ++ ws))) =
            omega (arith, copies-append n xs (zs ++ (ys ++ ws)), copies-append n zs (ys ++ ws), copies-append n ys ws, copies-append n xs (ys ++ (zs ++ ws)), copies-append n ys (zs ++ ws), copies-append n zs ws) in
            same ∙ holds.once n;
      }

  -- those that stand in front may stand after
  pub Holds-swap : (at : Name → Option C) (xs ys : List (Name × C)) → Holds at (xs ++ ys) → Holds at (ys ++ xs)
  Holds-swap at xs ys holds =
      let Q = λ (c : Name × C). at c.0 ≡ Some c.1 in
      record {
        held = all_append Q ys xs (all_right Q xs ys holds.held) (all_left Q xs ys holds.held);
        once = λ n. let same : copies n (ys ++ xs) ≡ copies n (xs ++ ys) = omega (arith, copies-append n xs ys, copies-append n ys xs) in same ∙ holds.once n;
      }

  -- what holds no cell holds nothing
  pub only-holds : (at : Name → Option C) (cells : List (Name × C)) → HoldsOnly at cells → Holds at cells
  only-holds at [] empty = record { held = tt; once = λ n. rw (empty n) refl }
  only-holds at (c ∷ cells) holds = holds

  pub holds-only : (at : Name → Option C) (cells : List (Name × C)) → Holds at cells → HoldsOnly at cells
  holds-only at [] holds = λ n. none (at n) (holds.once n)
    where
      none : (o : Option C) → ◌≡◌ {A = ℕ} 0 (cond (is_some o) 1 0) → o ≡ None
      none None e = refl
      none (Some c) e = absurd (omega (arith, e))
  holds-only at (c ∷ cells) holds = holds

  -- two maps that answer alike hold the same cells
  pub Holds-same : (old new : Name → Option C) → ((n : Name) → new n ≡ old n) → (cells : List (Name × C)) → Holds old cells → Holds new cells
  Holds-same old new same cells holds = record {
    held = AreHeld-kept old new cells (λ n here. same n) holds.held;
    once = λ n. holds.once n ∙ ap (λ o. cond (is_some o) 1 0) (sym (same n));
  }
