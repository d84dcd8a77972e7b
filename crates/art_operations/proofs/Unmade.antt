-- Room for the nodes that are open, of which each is to be made: what a step of a builder leaves of it.
use Rattle.std.proofs.Common.{◌≡◌, ◌≢◌, ℕ, suc, ◌+◌, ◌-◌, ◌<◌, ◌≤◌, List, [], ◌∷◌, ◌++◌, length, length-append, nat_le, true, false, refl, sym, ap, ap₂, subst, ◌∙◌, inl, inr, arith}
use Rattle.std.proofs.lemmas.Bool.Decides.{leb_tells}
use Rattle.art_nodes.proofs.Common.{Name}
use Rattle.art_nodes.specs.declared.kind.NodeType.{NodeType}
use Rattle.art_nodes.specs.declared.kind.NodeType.TheVariants.{Node4, Node16, Node32, Node48, Node256, Leaf}
use Rattle.art_arena.proofs.Common.{Arena, HasRoom, HasRoomOf, KeepsRoomOf, UsesRoomOf, IsKindOf, same_kind_tells}
use Rattle.art_operations.proofs.Terms.{Open, Spine, AddsChild, IsEmptySpine, begin_of, kind_over, one_of, unmade, HasRoomAround}

-- a comparison that holds, and one that fails
at-most : (a b : ℕ) → a ≤ b → nat_le a b ≡ true
at-most a b few = elim (leb_tells a b) [ inl y ↦ y.0 | inr n ↦ absurd (let more = n.1 in omega (arith, few, more)) ]

more-than : (a b : ℕ) → b < a → nat_le a b ≡ false
more-than a b many = elim (leb_tells a b) [ inl y ↦ absurd (let few = y.1 in omega (arith, few, many)) | inr n ↦ n.0 ]

-- the number of children tells the kind
pub kind-over : (kind : NodeType) (n : ℕ) → IsKindOf kind n → kind_over n ≡ kind
kind-over Node4 n is = let most = is.most in rw (at-most n 4 most) refl
kind-over Node16 n is = let fewest = is.fewest in let most = is.most in rw (more-than n 4 (omega (arith, fewest)), at-most n 16 most) refl
kind-over Node32 n is = let fewest = is.fewest in let most = is.most in rw (more-than n 4 (omega (arith, fewest)), more-than n 16 (omega (arith, fewest)), at-most n 32 most) refl
kind-over Node48 n is =
    let fewest = is.fewest in
    let most = is.most in
    rw (more-than n 4 (omega (arith, fewest)), more-than n 16 (omega (arith, fewest)), more-than n 32 (omega (arith, fewest)), at-most n 48 most) refl
kind-over Node256 n is =
    let fewest = is.fewest in
    rw (more-than n 4 (omega (arith, fewest)), more-than n 16 (omega (arith, fewest)), more-than n 32 (omega (arith, fewest)), more-than n 48 (omega (arith, fewest))) refl
kind-over Leaf n is = absurd (let two = is.two in let most = is.most in omega (arith, two, most))

pub one-own : (kind : NodeType) (n : ℕ) → IsKindOf kind n → one_of kind n ≡ 1
one-own kind n is = rw (kind-over kind n is) (elim (same_kind_tells kind kind) [ inl same ↦ rw same.0 refl | inr differs ↦ absurd (differs.1 refl) ])

pub one-other : (kind other : NodeType) (n : ℕ) → IsKindOf kind n → other ≢ kind → one_of other n ≡ 0
one-other kind other n is differ = rw (kind-over kind n is) (elim (same_kind_tells other kind) [ inl same ↦ absurd (differ same.1) | inr differs ↦ rw differs.0 refl ])

one-most : (kind : NodeType) (n : ℕ) → one_of kind n ≤ 1
one-most kind n = elim (same_kind_tells kind (kind_over n)) [ inl same ↦ rw same.0 (omega arith) | inr differs ↦ rw differs.0 (omega arith) ]

-- and it isn't a leaf's
pub not-leaf : (kind : NodeType) (n : ℕ) → IsKindOf kind n → Leaf ≢ kind
not-leaf kind n is e = let at = subst (λ k. IsKindOf k n) (sym e) is in let two = at.two in let most = at.most in omega (arith, two, most)

-- one node more is open, after the others
pub unmade-after : (kind : NodeType) (noted : ℕ) (nodes : List Open) (o : Open) → unmade kind noted (nodes ++ o ∷ []) ≡ unmade kind o.first nodes + one_of kind (suc (noted - o.first))
unmade-after kind noted [] o = omega arith
unmade-after kind noted (p ∷ []) o = let later = unmade-after kind noted [] o in omega (arith, later)
unmade-after kind noted (p ∷ q ∷ nodes) o = let later = unmade-after kind noted (q ∷ nodes) o in omega (arith, later)

-- one child more is noted, for the last of them
unmade-noted : (kind : NodeType) (noted : ℕ) (nodes : List Open) → unmade kind (suc noted) nodes ≤ suc (unmade kind noted nodes)
unmade-noted kind noted [] = omega arith
unmade-noted kind noted (o ∷ []) = let few = one-most kind (suc (suc noted - o.first)) in omega (arith, few)
unmade-noted kind noted (o ∷ p ∷ nodes) = let later = unmade-noted kind noted (p ∷ nodes) in omega (arith, later)

module _ {K V : Type 0} where
  pub fewer-room : (arena : Arena K V) (kind : NodeType) (m n : ℕ) → m ≤ n → HasRoomOf arena kind n → HasRoomOf arena kind m
  fewer-room arena Node4 m n few room = omega (arith, few, room)
  fewer-room arena Node16 m n few room = omega (arith, few, room)
  fewer-room arena Node32 m n few room = omega (arith, few, room)
  fewer-room arena Node48 m n few room = omega (arith, few, room)
  fewer-room arena Node256 m n few room = omega (arith, few, room)
  fewer-room arena Leaf m n few room = omega (arith, few, room)

  -- room for all kinds is room for each
  pub all-room : (arena : Arena K V) (n : ℕ) → ((kind : NodeType) → HasRoomOf arena kind n) → HasRoom arena n
  all-room arena n room = record { leaves = room Leaf; nodes4 = room Node4; nodes16 = room Node16; nodes32 = room Node32; nodes48 = room Node48; nodes256 = room Node256 }

  pub room-all : (arena : Arena K V) (n : ℕ) → HasRoom arena n → (kind : NodeType) → HasRoomOf arena kind n
  room-all arena n room Node4 = room.nodes4
  room-all arena n room Node16 = room.nodes16
  room-all arena n room Node32 = room.nodes32
  room-all arena n room Node48 = room.nodes48
  room-all arena n room Node256 = room.nodes256
  room-all arena n room Leaf = room.leaves

  -- where no node is open, all room is there
  pub fresh-around : (arena : Arena K V) (spine : Spine) (n : ℕ) → IsEmptySpine spine → HasRoom arena n → HasRoomAround arena spine n
  fresh-around arena spine n empty room = λ kind.
      let none : unmade kind (length spine.children.items) spine.stack.items ≡ 0 = ap (unmade kind (length spine.children.items)) empty.0 in
      subst (HasRoomOf arena kind) (omega (arith, none)) (room-all arena n room kind)

  -- what is left when all are made
  pub around-room : (arena : Arena K V) (spine : Spine) (n : ℕ) → HasRoomAround arena spine n → HasRoom arena n
  around-room arena spine n room = all-room arena n (λ kind. fewer-room arena kind n (n + unmade kind (length spine.children.items) spine.stack.items) (omega arith) (room kind))

  -- the same nodes are open, and no room is gone
  pub around-same : (old new : Arena K V) (was now : Spine) (n : ℕ) → KeepsRoomOf old new → now.stack.items ≡ was.stack.items → now.children.items ≡ was.children.items → HasRoomAround old was n → HasRoomAround new now n
  around-same old new was now n keeps stack children room = λ kind.
      let same : unmade kind (length was.children.items) was.stack.items ≡ unmade kind (length now.children.items) now.stack.items =
      ap₂ (λ (cs : List (ℕ × Name)) os. unmade kind (length cs) os) (sym children) (sym stack) in
      keeps kind (n + unmade kind (length now.children.items) now.stack.items) (subst (λ u. HasRoomOf old kind (n + u)) same (room kind))

  pub around-fewer : (arena : Arena K V) (spine : Spine) (m n : ℕ) → m ≤ n → HasRoomAround arena spine n → HasRoomAround arena spine m
  around-fewer arena spine m n few room = λ kind.
      let u = unmade kind (length spine.children.items) spine.stack.items in
      fewer-room arena kind (m + u) (n + u) (omega (arith, few)) (room kind)

  pub leaf-room : (arena : Arena K V) (spine : Spine) (n : ℕ) → 1 ≤ n → HasRoomAround arena spine n → HasRoomOf arena Leaf 1
  leaf-room arena spine n some room = fewer-room arena Leaf 1 (n + unmade Leaf (length spine.children.items) spine.stack.items) (omega (arith, some)) (room Leaf)

  -- a leaf is stored
  pub around-leaf : (old new : Arena K V) (spine : Spine) (n : ℕ) → UsesRoomOf Leaf old new → HasRoomAround old spine (suc n) → HasRoomAround new spine n
  around-leaf old new spine n uses room = λ kind.
      let u = unmade kind (length spine.children.items) spine.stack.items in
      elim (same_kind_tells kind Leaf) [
        | inl same ↦ subst (λ k. HasRoomOf new k (n + u)) (sym same.1) (uses.own (n + u) (subst (λ k. HasRoomOf old k (n + u + 1)) same.1 (fewer-room old kind (n + u + 1) (suc n + u) (omega arith) (room kind))))
        | inr differs ↦ uses.others kind differs.1 (n + u) (fewer-room old kind (n + u) (suc n + u) (omega arith) (room kind))
      ]

  -- the last open node is made, of a kind that is told by the number of its children
  pub around-closed : (old new : Arena K V) (was now : Spine) (top : Open) (kind : NodeType) (own n : ℕ) → IsKindOf kind own → UsesRoomOf kind old new → was.stack.items ≡ now.stack.items ++ top ∷ [] → top.first + own ≡ length was.children.items + 1
      → length now.children.items ≡ top.first → HasRoomAround old was n → HasRoomAround new now n
  around-closed old new was now top kind own n is uses stack all left room = λ other.
      let u = unmade other (length now.children.items) now.stack.items in
      let two = is.two in
      let count : suc (length was.children.items - top.first) ≡ own = omega (arith, all, two) in
      let split : unmade other (length was.children.items) was.stack.items ≡ u + one_of other own =
      ap (unmade other (length was.children.items)) stack ∙ unmade-after other (length was.children.items) now.stack.items top ∙ ap₂ (λ f c. unmade other f now.stack.items + one_of other c) (sym left) count in
      let there : HasRoomOf old other (n + (u + one_of other own)) = subst (λ m. HasRoomOf old other (n + m)) split (room other) in
      elim (same_kind_tells other kind) [
        | inl same ↦
            let one : one_of other own ≡ 1 = subst (λ k. one_of k own ≡ 1) (sym same.1) (one-own kind own is) in
            subst (λ k. HasRoomOf new k (n + u)) (sym same.1) (uses.own (n + u) (subst (λ k. HasRoomOf old k (n + u + 1)) same.1 (fewer-room old other (n + u + 1) (n + (u + one_of other own)) (omega (arith, one)) there)))
        | inr differs ↦ uses.others other differs.1 (n + u) (fewer-room old other (n + u) (n + (u + one_of other own)) (omega arith) there)
      ]

  -- a child is noted, and a node opened for it if there is none
  pub around-added : (arena : Arena K V) (was now : Spine) (following n : ℕ) (child : ℕ × Name) → AddsChild following child was now → HasRoomAround arena was (suc n) → HasRoomAround arena now n
  around-added arena was now following n child adds room = λ kind.
      let noted : length now.children.items ≡ suc (length was.children.items) = ap length adds.children ∙ length-append was.children.items (child ∷ []) ∙ omega arith in
      let few : unmade kind (suc (length was.children.items)) now.stack.items ≤ suc (unmade kind (length was.children.items) was.stack.items) = grows kind in
      fewer-room arena kind (n + unmade kind (length now.children.items) now.stack.items) (suc n + unmade kind (length was.children.items) was.stack.items)
      (subst (λ c. n + unmade kind c now.stack.items ≤ suc n + unmade kind (length was.children.items) was.stack.items) (sym noted) (omega (arith, few))) (room kind)
    where
      before : ℕ
      before = length was.children.items

      opens : (kind : NodeType) → now.stack.items ≡ was.stack.items ++ record { child_depth = following; first = before } ∷ [] → unmade kind (suc before) now.stack.items ≤ suc (unmade kind before was.stack.items)
      opens kind stack =
          let split = ap (unmade kind (suc before)) stack ∙ unmade-after kind (suc before) was.stack.items (record { child_depth = following; first = before }) in
          let few = one-most kind (suc (suc before - before)) in
          omega (arith, split, few)

      stays : (kind : NodeType) → now.stack.items ≡ was.stack.items → unmade kind (suc before) now.stack.items ≤ suc (unmade kind before was.stack.items)
      stays kind stack =
          let same = ap (unmade kind (suc before)) stack in
          let few = unmade-noted kind before was.stack.items in
          omega (arith, same, few)

      grows : (kind : NodeType) → unmade kind (suc before) now.stack.items ≤ suc (unmade kind before was.stack.items)
      grows kind = elim (leb_tells following (begin_of 0 was.stack.items)) [ inl there ↦ stays kind (adds.stack ∙ rw there.0 refl) | inr deeper ↦ opens kind (adds.stack ∙ rw deeper.0 refl) ]
