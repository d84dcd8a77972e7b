-- Of a kind without a node there is no room once its memory was given back.
use Rattle.std.proofs.Common.{◌≡◌, ℕ, suc, zero, ◌+◌, ◌^◌, ◌<◌, ◌≤◌, List, [], ◌∷◌, Option, Some, None, is_some, IsSome, count_by, cond, slice_index_or, refl, sym, ◌∙◌, inl, inr, arith}
use Rattle.std.proofs.lemmas.Bool.Decides.{leb_tells}
use Rattle.std.proofs.lemmas.List.Sums.{sum_by-cons}
use Rattle.slab.specs.Slab.{Slab, get, slab_len, HasRoomFor, SameValues}
use Rattle.art_nodes.proofs.Common.{InnerNode}
use Rattle.art_nodes.specs.declared.kind.NodeType.TheVariants.{Node4, Node16, Node32, Node48, Node256, Leaf}
use Rattle.art_nodes.specs.declared.leaf.LeafNode.{LeafNode}
use Rattle.art_arena.specs.inner.Fits.{FitsWhereUsed}
use Rattle.art_arena.proofs.Terms.{Arena, as_inner, as_leaf, HasNoUnusedRoom}

-- where no key finds a value, there is none
pub no_values : {T : Type 0} (slots : List (Option T)) → ((key : ℕ) → slice_index_or slots key None ≡ None) → count_by is_some slots ≡ 0
no_values [] none = refl
no_values {T} (None ∷ rest) none =
    let one : Option T → ℕ = λ o. cond (is_some o) 1 0 in
    omega (arith, no_values rest (λ key. none (suc key)), sum_by-cons one None rest)
no_values (Some value ∷ rest) none = let no = none zero in absurd (cc)

-- where a node fits in no memory, there is none, and no room
module _ {T : Type 0} (P : ℕ) (s : Slab T) (fits : FitsWhereUsed P s) (large : 2 ^ 62 ≤ P) where
  pub none_above : (slot : ℕ) → get s slot ≡ None
  none_above slot = none (get s slot) (fits.held slot)
    where
      none : (o : Option T) → (IsSome o → P < 2 ^ 62) → o ≡ None
      none None held = refl
      none (Some x) held = absurd (omega (arith, held refl, large))

  pub full_above : s.capacity ≤ slab_len s
  full_above = elim (leb_tells (slab_len s + 1) s.capacity) [
    | inl some ↦ absurd (omega (arith, fits.room some.1, large))
    | inr none ↦ omega (arith, none.1)
  ]

  pub no_room_above : s.capacity ≡ 0
  no_room_above = omega (arith, full_above, no_values s.slots none_above)

-- where there is no value, there is no room for one
abbrev pub IsUnused : {T : Type 0} → Slab T → Type 0
IsUnused s = ((key : ℕ) → get s key ≡ None) → HasRoomFor s 1 → ⊥

pub unused : {T : Type 0} (old new : Slab T) → SameValues old new → (slab_len old ≡ 0 → new.capacity ≡ 0) → IsUnused new
unused old new same frees none room =
    omega (arith, room, frees (no_values old.slots (λ key. sym (same key) ∙ none key)))

module _ {K V : Type 0} where
  no_leaf : (o : Option (LeafNode K V)) → as_leaf o ≡ None → o ≡ None
  no_leaf None e = refl
  no_leaf (Some x) e = absurd (cc)

  no_inner : (o : Option InnerNode) → as_inner {K = K} {V = V} o ≡ None → o ≡ None
  no_inner None e = refl
  no_inner (Some x) e = absurd (cc)

  pub no_unused : (arena : Arena K V) → IsUnused arena.leaves → IsUnused arena.nodes4 → IsUnused arena.nodes16 → IsUnused arena.nodes32 → IsUnused arena.nodes48 → IsUnused arena.nodes256 → HasNoUnusedRoom arena
  no_unused arena l a b c d e Leaf none room = l (λ key. no_leaf (get arena.leaves key) (none key)) room
  no_unused arena l a b c d e Node4 none room = a (λ key. no_inner (get arena.nodes4 key) (none key)) room
  no_unused arena l a b c d e Node16 none room = b (λ key. no_inner (get arena.nodes16 key) (none key)) room
  no_unused arena l a b c d e Node32 none room = c (λ key. no_inner (get arena.nodes32 key) (none key)) room
  no_unused arena l a b c d e Node48 none room = d (λ key. no_inner (get arena.nodes48 key) (none key)) room
  no_unused arena l a b c d e Node256 none room = e (λ key. no_inner (get arena.nodes256 key) (none key)) room
