-- The clones of the slabs of an arena are a clone of the arena.
use Rattle.std.proofs.Common.{◌≡◌, ℕ, zero, suc, List, [], ◌∷◌, Option, Some, None, is_some, count_by, cond, slice_index_or, refl, ap, arith}
use Rattle.std.proofs.lemmas.List.Sums.{sum_by-cons}
use Rattle.std.specs.List.{AllZip}
use Rattle.slab.specs.Slab.{Slab, get, IsSlotClone}
use Rattle.art_nodes.specs.Leaf.{IsLeafClone}
use Rattle.art_nodes.proofs.Common.{InnerNode}
use Rattle.art_nodes.specs.declared.leaf.LeafNode.{LeafNode}
use Rattle.art_nodes.specs.declared.kind.NodeType.{NodeType}
use Rattle.art_nodes.specs.declared.kind.NodeType.TheVariants.{Node4, Node16, Node32, Node48, Node256, Leaf}
use Rattle.art_arena.proofs.Terms.{Arena, as_leaf, as_inner, held_as, IsHeldClone, IsArenaClone}

-- a clone of an inner node is the same
abbrev pub SameInner : InnerNode → InnerNode → Type 0
SameInner node copy = copy ≡ node

-- each slot of a clone of a list of slots
pub slots-cloned : {T : Type 0} (R : T → T → Type 0) (xs ys : List (Option T)) → AllZip (IsSlotClone R) xs ys → (n : ℕ) → IsSlotClone R (slice_index_or xs n None) (slice_index_or ys n None)
slots-cloned R [] [] h n = refl
slots-cloned R [] (y ∷ ys) h n = absurd h
slots-cloned R (x ∷ xs) [] h n = absurd h
slots-cloned R (x ∷ xs) (y ∷ ys) h zero = h.0
slots-cloned R (x ∷ xs) (y ∷ ys) h (suc n) = slots-cloned R xs ys h.1 n

-- a clone of a list of slots has as many values
pub slots-counted : {T : Type 0} (R : T → T → Type 0) (xs ys : List (Option T)) → AllZip (IsSlotClone R) xs ys → count_by is_some ys ≡ count_by is_some xs
slots-counted R [] [] h = refl
slots-counted R [] (y ∷ ys) h = absurd h
slots-counted R (x ∷ xs) [] h = absurd h
slots-counted {T} R (None ∷ xs) (y ∷ ys) h =
    let one : Option T → ℕ = λ o. cond (is_some o) 1 0 in
    rw h.0 (omega (arith, slots-counted R xs ys h.1, sum_by-cons one None xs, sum_by-cons one None ys))
slots-counted R (Some x ∷ xs) (None ∷ ys) h = absurd h.0
slots-counted {T} R (Some x ∷ xs) (Some y ∷ ys) h =
    let one : Option T → ℕ = λ o. cond (is_some o) 1 0 in
    omega (arith, slots-counted R xs ys h.1, sum_by-cons one (Some x) xs, sum_by-cons one (Some y) ys)

module _ {K V : Type 0} (KeyClone : K → K → Type 0) (ValueClone : V → V → Type 0) where
  leaf-cloned : (o c : Option (LeafNode K V)) → IsSlotClone (IsLeafClone KeyClone ValueClone) o c → IsHeldClone KeyClone ValueClone (as_leaf o) (as_leaf c)
  leaf-cloned None c h = ap as_leaf h
  leaf-cloned (Some leaf) None h = absurd h
  leaf-cloned (Some leaf) (Some twin) h = (twin, refl, h)

  inner-cloned : (o c : Option InnerNode) → IsSlotClone SameInner o c → IsHeldClone KeyClone ValueClone (as_inner {K = K} {V = V} o) (as_inner {K = K} {V = V} c)
  inner-cloned None c h = ap (as_inner {K = K} {V = V}) h
  inner-cloned (Some node) None h = absurd h
  inner-cloned (Some node) (Some twin) h = ap (λ m. as_inner {K = K} {V = V} (Some m)) h

  inner-vacant : (o : Option InnerNode) → as_inner {K = K} {V = V} o ≡ None → o ≡ None
  inner-vacant None e = refl
  inner-vacant (Some node) e = absurd (cc)

  -- no slot has a node, in the original and in the copy
  pub vacant-cloned : (s copy : Slab InnerNode) → ((slot : ℕ) → get s slot ≡ None) → ((slot : ℕ) → as_inner {K = K} {V = V} (get copy slot) ≡ None) → (slot : ℕ) → IsSlotClone SameInner (get s slot) (get copy slot)
  vacant-cloned s copy none vacant slot = rw (none slot) (inner-vacant (get copy slot) (vacant slot))

  pub arena-cloned : (arena copy : Arena K V) → ((slot : ℕ) → IsSlotClone (IsLeafClone KeyClone ValueClone) (get arena.leaves slot) (get copy.leaves slot))
      → ((slot : ℕ) → IsSlotClone SameInner (get arena.nodes4 slot) (get copy.nodes4 slot)) → ((slot : ℕ) → IsSlotClone SameInner (get arena.nodes16 slot) (get copy.nodes16 slot))
      → ((slot : ℕ) → IsSlotClone SameInner (get arena.nodes32 slot) (get copy.nodes32 slot))
      → ((slot : ℕ) → IsSlotClone SameInner (get arena.nodes48 slot) (get copy.nodes48 slot)) → ((slot : ℕ) → IsSlotClone SameInner (get arena.nodes256 slot) (get copy.nodes256 slot))
      → IsArenaClone KeyClone ValueClone arena copy
  arena-cloned arena copy leaves four sixteen thirty_two more all n = at n.kind n.slot
    where
      at : (kind : NodeType) (slot : ℕ) → IsHeldClone KeyClone ValueClone (held_as arena kind slot) (held_as copy kind slot)
      at Leaf slot = leaf-cloned (get arena.leaves slot) (get copy.leaves slot) (leaves slot)
      at Node4 slot = inner-cloned (get arena.nodes4 slot) (get copy.nodes4 slot) (four slot)
      at Node16 slot = inner-cloned (get arena.nodes16 slot) (get copy.nodes16 slot) (sixteen slot)
      at Node32 slot = inner-cloned (get arena.nodes32 slot) (get copy.nodes32 slot) (thirty_two slot)
      at Node48 slot = inner-cloned (get arena.nodes48 slot) (get copy.nodes48 slot) (more slot)
      at Node256 slot = inner-cloned (get arena.nodes256 slot) (get copy.nodes256 slot) (all slot)
