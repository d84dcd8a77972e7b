-- An arena whose slabs end with a node has as few slots as its nodes allow.
use Rattle.std.proofs.Common.{◌≡◌, ℕ, ◌-◌, ◌≤◌, length, Option, Some, None, IsSome, refl, inl, inr, arith}
use Rattle.std.proofs.lemmas.Bool.Decides.{leb_tells}
use Rattle.slab.specs.Slab.{Slab, get, EndsWithValue, HasRoomFor}
use Rattle.slab.proofs.SlabLemmas.{ContainsKey-within}
use Rattle.art_nodes.proofs.Common.{InnerNode}
use Rattle.art_nodes.specs.declared.kind.NodeType.{NodeType}
use Rattle.art_nodes.specs.declared.kind.NodeType.TheVariants.{Node4, Node16, Node32, Node48, Node256, Leaf}
use Rattle.art_nodes.specs.declared.leaf.LeafNode.{LeafNode}
use Rattle.art_arena.proofs.Terms.{Arena, as_inner, as_leaf, held_as, IsTrimmed, KeepsRoomOf}

-- a slab that ends with a value has no more slots than one with a value wherever it has one
as-few : {S T : Type 0} (s : Slab S) (t : Slab T) → EndsWithValue s → ((key : ℕ) → IsSome (get s key) → IsSome (get t key)) → length s.slots ≤ length t.slots
as-few s t ends there = elim (leb_tells 1 (length s.slots)) [
  | inl some ↦ omega (arith, some.1, ContainsKey-within t (length s.slots - 1) (there (length s.slots - 1) (ends (omega (arith, some.1)))))
  | inr none ↦ omega (arith, none.1)
]

module _ {K V : Type 0} where
  leaf-is : (o p : Option (LeafNode K V)) → as_leaf p ≡ as_leaf o → IsSome o → IsSome p
  leaf-is (Some x) (Some y) e h = refl
  leaf-is (Some x) None e h = absurd (cc)
  leaf-is None p e h = absurd (cc)

  inner-is : (o p : Option InnerNode) → as_inner {K = K} {V = V} p ≡ as_inner o → IsSome o → IsSome p
  inner-is (Some x) (Some y) e h = refl
  inner-is (Some x) None e h = absurd (cc)
  inner-is None p e h = absurd (cc)

  -- where no slab has more room, there is no more of any kind
  pub no-more-room : (old new : Arena K V) → ((n : ℕ) → HasRoomFor new.leaves n → HasRoomFor old.leaves n) → ((n : ℕ) → HasRoomFor new.nodes4 n → HasRoomFor old.nodes4 n) → ((n : ℕ) → HasRoomFor new.nodes16 n → HasRoomFor old.nodes16 n)
      → ((n : ℕ) → HasRoomFor new.nodes32 n → HasRoomFor old.nodes32 n) → ((n : ℕ) → HasRoomFor new.nodes48 n → HasRoomFor old.nodes48 n) → ((n : ℕ) → HasRoomFor new.nodes256 n → HasRoomFor old.nodes256 n) → KeepsRoomOf new old
  no-more-room old new l a b c d e Leaf n room = l n room
  no-more-room old new l a b c d e Node4 n room = a n room
  no-more-room old new l a b c d e Node16 n room = b n room
  no-more-room old new l a b c d e Node32 n room = c n room
  no-more-room old new l a b c d e Node48 n room = d n room
  no-more-room old new l a b c d e Node256 n room = e n room

  pub all-trimmed : (arena : Arena K V) → EndsWithValue arena.leaves → EndsWithValue arena.nodes4 → EndsWithValue arena.nodes16 → EndsWithValue arena.nodes32 → EndsWithValue arena.nodes48 → EndsWithValue arena.nodes256 → IsTrimmed arena
  all-trimmed arena l a b c d e other same =
      let at : (kind : NodeType) (slot : ℕ) → held_as other kind slot ≡ held_as arena kind slot = λ kind slot. same (record { kind = kind; slot = slot }) in
      omega (
        arith,
        as-few arena.leaves other.leaves l (λ key. leaf-is (get arena.leaves key) (get other.leaves key) (at Leaf key)),
        as-few arena.nodes4 other.nodes4 a (λ key. inner-is (get arena.nodes4 key) (get other.nodes4 key) (at Node4 key)),
        as-few arena.nodes16 other.nodes16 b (λ key. inner-is (get arena.nodes16 key) (get other.nodes16 key) (at Node16 key)),
        as-few arena.nodes32 other.nodes32 c (λ key. inner-is (get arena.nodes32 key) (get other.nodes32 key) (at Node32 key)),
        as-few arena.nodes48 other.nodes48 d (λ key. inner-is (get arena.nodes48 key) (get other.nodes48 key) (at Node48 key)),
        as-few arena.nodes256 other.nodes256 e (λ key. inner-is (get arena.nodes256 key) (get other.nodes256 key) (at Node256 key)),
      )
