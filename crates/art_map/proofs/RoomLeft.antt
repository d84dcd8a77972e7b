-- Room that a map in the making has left, beside the nodes that it has still to make.
use Rattle.std.proofs.Common.{◌≡◌, ◌≤◌, ℕ, suc, ◌+◌, ◌*◌, true, false, MatchBool, List, [], ◌∷◌, ◌++◌, length, length-append, sym, subst, ◌∙◌, arith}
use Rattle.art_arena.proofs.Common.{Arena, HasRoom, KeepsRoomOf}
use Rattle.art_arena.specs.arena.Arena.{UsesRoom}
use Rattle.art_operations.proofs.Common.{HasRoomBeside}
use Rattle.art_map.proofs.Terms.{HasRoomLeft, KeepsRoomLeft}
use Rattle.art_map.proofs.RoomKept.{kinds-kept}
use Rattle.art_map.specs.declared.map.builder.TreeMapBuilder.{TreeMapBuilder}

module _ {K V : Type 0} {P : ℕ} (b : TreeMapBuilder K V P) (n : ℕ) where
  -- where the room is, is told by whether the pairs came in order
  pub left-of-tree : b.in_order ≡ true → HasRoomLeft b n → HasRoomBeside b.arena b.builder n
  left-of-tree e left = subst (λ o. MatchBool o (HasRoomBeside b.arena b.builder n) (HasRoom b.map.nodes n)) e left

  pub left-of-map : b.in_order ≡ false → HasRoomLeft b n → HasRoom b.map.nodes n
  left-of-map e left = subst (λ o. MatchBool o (HasRoomBeside b.arena b.builder n) (HasRoom b.map.nodes n)) e left

  pub tree-left : b.in_order ≡ true → HasRoomBeside b.arena b.builder n → HasRoomLeft b n
  tree-left e room = subst (λ o. MatchBool o (HasRoomBeside b.arena b.builder n) (HasRoom b.map.nodes n)) (sym e) room

  pub map-left : b.in_order ≡ false → HasRoom b.map.nodes n → HasRoomLeft b n
  map-left e room = subst (λ o. MatchBool o (HasRoomBeside b.arena b.builder n) (HasRoom b.map.nodes n)) (sym e) room

module _ {K V : Type 0} {P : ℕ} (was now : TreeMapBuilder K V P) (n : ℕ) where
  -- a pair that goes after the others uses room for two nodes of each kind at most
  pub left-after : was.in_order ≡ true → now.in_order ≡ true → ((m : ℕ) → HasRoomBeside was.arena was.builder (m + 2) → HasRoomBeside now.arena now.builder m) → HasRoomLeft was (n + 2) → HasRoomLeft now n
  left-after e f uses left = tree-left now n f (uses n (left-of-tree was (n + 2) e left))

  -- so does one that is inserted
  pub left-inserted : was.in_order ≡ false → now.in_order ≡ false → UsesRoom 2 was.map.nodes now.map.nodes → HasRoomLeft was (n + 2) → HasRoomLeft now n
  left-inserted e f uses left = map-left now n f (uses n (left-of-map was (n + 2) e left))

  -- and one that is inserted where a map was made of the tree first
  pub left-settled : (made : Arena K V) → was.in_order ≡ true → now.in_order ≡ false → ((m : ℕ) → 1 ≤ m → HasRoomBeside was.arena was.builder m → HasRoom made m) → UsesRoom 2 made now.map.nodes
      → HasRoomLeft was (n + 2) → HasRoomLeft now n
  left-settled made e f keeps uses left = map-left now n f (uses n (keeps (n + 2) (omega arith) (left-of-tree was (n + 2) e left)))

module _ {K V : Type 0} {P : ℕ} (was now : TreeMapBuilder K V P) where
  -- where the map keeps its room, so does the map in the making, also where a map was made of the tree first
  pub kept-inserted : was.in_order ≡ false → now.in_order ≡ false → KeepsRoomOf was.map.nodes now.map.nodes → KeepsRoomLeft was now
  kept-inserted e f kept n some left = map-left now n f (kinds-kept was.map.nodes now.map.nodes kept n (left-of-map was n e left))

  pub kept-settled : (made : Arena K V) → was.in_order ≡ true → now.in_order ≡ false → ((m : ℕ) → 1 ≤ m → HasRoomBeside was.arena was.builder m → HasRoom made m) → KeepsRoomOf made now.map.nodes → KeepsRoomLeft was now
  kept-settled made e f keeps kept n some left = map-left now n f (kinds-kept made now.map.nodes kept n (keeps n some (left-of-tree was n e left)))

module _ {K V : Type 0} {P : ℕ} (b : TreeMapBuilder K V P) where
  -- the room that pairs used, two nodes a pair: of none, and of one more
  pub used-none : (n : ℕ) → HasRoomLeft b (n + 2 * 0) → HasRoomLeft b n
  used-none n left = subst (HasRoomLeft b) (omega arith) left

  pub used-more : {A : Type 0} (xs : List A) (x : A) (n : ℕ) → HasRoomLeft b (n + 2 * length (xs ++ x ∷ [])) → HasRoomLeft b (n + 2 + 2 * length xs)
  used-more xs x n left =
      let long : length (xs ++ x ∷ []) ≡ suc (length xs) = length-append xs (x ∷ []) ∙ omega arith in
      subst (HasRoomLeft b) (omega (arith, long)) left

  -- the one more is refused, so there was no room for all
  pub used-up : {A : Type 0} (xs : List A) → (HasRoomLeft b (2 + 2 * length xs) → ⊥) → HasRoomLeft b (2 * suc (length xs)) → ⊥
  used-up xs none left = none (subst (HasRoomLeft b) (omega arith) left)
