-- Room to open a tree again at its last leaf: of what is noted on the way to it there is no more than there are leaves,
-- and where a node is freed there is room to make it again.
use Rattle.std.proofs.Common.{◌≡◌, ℕ, suc, ◌+◌, ◌-◌, ◌≤◌, List, [], ◌∷◌, ◌++◌, length, take, sym, ap, ap₂, subst, ◌∙◌, inl, inr, length-append, arith}
use Rattle.std.proofs.lemmas.List.{length-map}
use Rattle.std.specs.Prelude.{vec_capacity}
use Rattle.art_nodes.specs.declared.kind.NodeType.{NodeType}
use Rattle.art_arena.proofs.Common.{Arena, FreesRoomOf, HasRoomOf, IsKindOf, KeepsRoomOf, same_kind_tells, LeafAt, Branches, branch, no_branch, width, leaves, leaves_in, pairs_of, children_at, AreUnder, some_leaf, length-children}
use Rattle.art_operations.proofs.Terms.{HasInnerRoom, HasRoomAround, HasSpineRoom, IsFresh, Open, Spine, Level, AreOpen, one_of, opened, open_children, open_leaves, unmade}
use Rattle.art_operations.proofs.InnerRooms.{fewer-leaves}
use Rattle.art_operations.proofs.Unmade.{fewer-room, one-other, one-own, unmade-after}
use Rattle.art_operations.specs.inner.Reopening.{HasRoomToOpen}

module _ {K V : Type 0} (bytes : K → List ℕ) where
  -- below each branch stands a leaf
  pub wide-leaves : (path : List ℕ) (low : ℕ) (kids : Branches K V) → AreUnder bytes path low kids → width kids ≤ length (leaves_in kids)
  wide-leaves path low no_branch under = omega arith
  wide-leaves path low (branch b s rest) under =
      let some = ap length (some_leaf bytes (path ++ b ∷ []) s under.1).2 in
      let later = wide-leaves path (b + 1) rest under.2 in
      let all = length-append (leaves s) (leaves_in rest) in
      omega (arith, some, later, all)

  -- each open node has a child or more
  pub few-open : (key : List ℕ) (levels : List (Level K V)) → AreOpen bytes key levels → length (opened levels) ≤ length (open_children levels)
  few-open key [] ways = omega arith
  few-open key (l ∷ outer) ways =
      let some = ways.0.has_kids in
      let above = few-open key outer ways.2 in
      let nodes = length-append (opened outer) (record { child_depth = suc l.depth; first = length (open_children outer) } ∷ []) in
      let noted = length-append (open_children outer) (children_at l.kids) in
      let count = length-children l.kids in
      omega (arith, some, above, nodes, noted, count)

  -- and each child a leaf or more
  pub few-noted : (key : List ℕ) (levels : List (Level K V)) → AreOpen bytes key levels → length (open_children levels) ≤ length (open_leaves levels)
  few-noted key [] ways = omega arith
  few-noted key (l ∷ outer) ways =
      let above = few-noted key outer ways.2 in
      let wide = wide-leaves (take l.depth key) 0 l.kids ways.0.under in
      let noted = length-append (open_children outer) (children_at l.kids) in
      let all = length-append (open_leaves outer) (leaves_in l.kids) in
      let count = length-children l.kids in
      omega (arith, above, wide, noted, all, count)

module _ {K V : Type 0} where
  -- there are as many pairs as leaves
  pub many-leaves : (ls : List (LeafAt K V)) (pairs : List (K × V)) → pairs_of ls ≡ pairs → length ls ≡ length pairs
  many-leaves ls pairs is = sym (length-map ls (λ (l : LeafAt K V). (l.key, l.value))) ∙ ap length is

  -- one node more is open, and in its place one was freed, of the kind that it will be
  pub around-opened : (old new : Arena K V) (was now : Spine) (top : Open) (kind : NodeType) (own n : ℕ) → IsKindOf kind own → KeepsRoomOf old new → FreesRoomOf kind old new → now.stack.items ≡ was.stack.items ++ top ∷ [] → top.first ≡ length was.children.items
      → length now.children.items + 1 ≡ length was.children.items + own → HasRoomAround old was n → HasRoomAround new now n
  around-opened old new was now top kind own n is keeps frees stack first all room = λ other.
      let u = unmade other (length was.children.items) was.stack.items in
      let two = is.two in
      let count : suc (length now.children.items - top.first) ≡ own = omega (arith, first, all, two) in
      let split : unmade other (length now.children.items) now.stack.items ≡ u + one_of other own =
      ap (unmade other (length now.children.items)) stack ∙ unmade-after other (length now.children.items) was.stack.items top ∙ ap₂ (λ f c. unmade other f was.stack.items + one_of other c) first count in
      subst (λ m. HasRoomOf new other (n + m)) (sym split) (elim (same_kind_tells other kind) [
        | inl same ↦
            let one : one_of other own ≡ 1 = subst (λ k. one_of k own ≡ 1) (sym same.1) (one-own kind own is) in
            fewer-room new other (n + (u + one_of other own)) (suc (n + u)) (omega (arith, one)) (subst (λ k. HasRoomOf new k (suc (n + u))) (sym same.1) (frees (n + u) (subst (λ k. HasRoomOf old k (n + u)) same.1 (room other))))
        | inr differs ↦
            let none : one_of other own ≡ 0 = one-other kind other own is differs.1 in
            fewer-room new other (n + (u + one_of other own)) (n + u) (omega (arith, none)) (keeps other (n + u) (room other))
      ])

  -- so many children more can be noted, if with them there are no more than there are leaves
  pub noting-room : (arena : Arena K V) (spine : Spine) (count ls : ℕ) → length spine.stack.items ≤ length spine.children.items → length spine.children.items + count ≤ ls → HasRoomToOpen arena spine ls → HasSpineRoom arena spine count
  noting-room arena spine count ls nodes noted room =
      let stack = room.stack in
      let children = room.children in
      record {
        places = record { stack = omega (arith, nodes, noted, stack); children = omega (arith, noted, children) };
        nodes = fewer-leaves arena (length spine.children.items + count) ls noted room.nodes;
      }

  -- it stays where places and room stay
  pub still-to-open : (old new : Arena K V) (was now : Spine) (ls : ℕ) → vec_capacity was.stack ≤ vec_capacity now.stack → vec_capacity was.children ≤ vec_capacity now.children → KeepsRoomOf old new → HasRoomToOpen old was ls
      → HasRoomToOpen new now ls
  still-to-open old new was now ls stack children kept room =
      let s = room.stack in
      let c = room.children in
      record { stack = omega (arith, s, stack); children = omega (arith, c, children); nodes = λ kind other n few. kept kind n (room.nodes kind other n few) }

  -- a new spine has it
  pub fresh-to-open : (arena : Arena K V) (spine : Spine) (ls most : ℕ) → IsFresh spine most → ls ≤ most → HasInnerRoom arena most → HasRoomToOpen arena spine ls
  fresh-to-open arena spine ls most fresh few room =
      let stack = fresh.stack in
      let children = fresh.children in
      record { stack = omega (arith, stack, few); children = omega (arith, children, few); nodes = fewer-leaves arena ls most few room }
