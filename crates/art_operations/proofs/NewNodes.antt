-- Nodes that are made in an arena: the room for them, and what is left where one is taken out again.
use Rattle.std.proofs.Common.{◌≡◌, ◌≢◌, ℕ, zero, suc, ◌+◌, ◌≤◌, Bool, true, false, if◌then◌else◌, None, Some, Option, IsSome, refl, sym, ◌∙◌, inl, inr, arith, subst}
use Rattle.art_nodes.proofs.Common.{Name, InnerNode, row_of}
use Rattle.art_nodes.specs.declared.kind.NodeType.{NodeType}
use Rattle.art_nodes.specs.declared.kind.NodeType.TheVariants.{Node4, Node16, Node32, Node48, Node256, Leaf}
use Rattle.art_arena.proofs.Common.{Arena, Held, inner_held, as_inner, held_as, held_at, Allocates, SameNodes, FreesRoomOf, HasRoom, HasRoomOf, KeepsRoomOf, UsesRoomOf, UpdatesAt, same_kind_tells, same_name_tells}
use Rattle.art_operations.proofs.Terms.{SwapsLeaves}

-- what an inner node becomes that gets smaller is no leaf
pub smaller-inner : (kind smaller : NodeType) → (row_of kind).smaller ≡ Some smaller → smaller ≢ Leaf
smaller-inner Node4 smaller is leaf = absurd (cc)
smaller-inner Node16 smaller is leaf = absurd (cc)
smaller-inner Node32 smaller is leaf = absurd (cc)
smaller-inner Node48 smaller is leaf = absurd (cc)
smaller-inner Node256 smaller is leaf = absurd (cc)
smaller-inner Leaf smaller is leaf = absurd (cc)

-- what an inner node becomes that gets larger is no leaf
pub larger-inner : (kind larger : NodeType) → (row_of kind).larger ≡ Some larger → larger ≢ Leaf
larger-inner Node4 larger is leaf = absurd (cc)
larger-inner Node16 larger is leaf = absurd (cc)
larger-inner Node32 larger is leaf = absurd (cc)
larger-inner Node48 larger is leaf = absurd (cc)
larger-inner Node256 larger is leaf = absurd (cc)
larger-inner Leaf larger is leaf = absurd (cc)

module _ {K V : Type 0} where
  -- room for more is room for fewer
  pub fewer : (arena : Arena K V) (m n : ℕ) → m ≤ n → HasRoom arena n → HasRoom arena m
  fewer arena m n less room =
      let a = room.leaves in let b = room.nodes4 in let c = room.nodes16 in let d = room.nodes32 in let e = room.nodes48 in let f = room.nodes256 in
      record { leaves = omega (arith, a, less); nodes4 = omega (arith, b, less); nodes16 = omega (arith, c, less); nodes32 = omega (arith, d, less); nodes48 = omega (arith, e, less); nodes256 = omega (arith, f, less) }

  -- where room of each kind stays, room stays
  pub all_room : (old new : Arena K V) → KeepsRoomOf old new → (n : ℕ) → HasRoom old n → HasRoom new n
  all_room old new kept n room = record {
    leaves = kept Leaf n room.leaves;
    nodes4 = kept Node4 n room.nodes4;
    nodes16 = kept Node16 n room.nodes16;
    nodes32 = kept Node32 n room.nodes32;
    nodes48 = kept Node48 n room.nodes48;
    nodes256 = kept Node256 n room.nodes256;
  }

  -- where room of each kind stays, a leaf that had the key costs none
  pub swapped : (old new : Arena K V) (b : Bool) → KeepsRoomOf old new → SwapsLeaves 1 (if b then 1 else 0) old new
  swapped old new true kept n room = kept Leaf (n + 1) room
  swapped old new false kept n room = let still = kept Leaf (n + 1) room in omega (arith, still)

  -- a node that was made and taken out again leaves the arena as it was
  pub undone : (old made still new : Arena K V) (n : Name) (node : Held K V) → Allocates old made n node → SameNodes made still → UpdatesAt (held_at still) (held_at new) n None → SameNodes old new
  undone old made still new n node allocates same removed m = elim (same_name_tells m n) [
    | inl is ↦ subst (λ x. held_at new x ≡ held_at old x) (sym is.1) (removed.changed ∙ sym allocates.vacant)
    | inr other ↦ removed.others m other.1 ∙ same m ∙ allocates.updates.others m other.1
  ]

  -- and leaves the room for leaves as it was
  leaf_room : (old made still new : Arena K V) → UsesRoomOf Leaf old made → KeepsRoomOf made still → FreesRoomOf Leaf still new → HasRoomOf new Leaf 1 → (n : ℕ) → HasRoomOf old Leaf n → HasRoomOf new Leaf n
  leaf_room old made still new uses keeps frees one zero room = omega (arith, one)
  leaf_room old made still new uses keeps frees one (suc n) room =
      let more : HasRoomOf old Leaf (n + 1) = omega (arith, room) in
      frees n (keeps Leaf n (uses.own n more))

  -- a leaf that was made and taken out again leaves the room of each kind as it was
  pub undone_room : (old made still new : Arena K V) → UsesRoomOf Leaf old made → KeepsRoomOf made still → KeepsRoomOf still new → FreesRoomOf Leaf still new → HasRoomOf new Leaf 1 → KeepsRoomOf old new
  undone_room old made still new uses keeps back frees one kind n room = elim (same_kind_tells kind Leaf) [
    | inl is ↦ subst (λ k. HasRoomOf new k n) (sym is.1) (leaf_room old made still new uses keeps frees one n (subst (λ k. HasRoomOf old k n) is.1 room))
    | inr other ↦ back kind n (keeps kind n (uses.others kind other.1 n room))
  ]

  of_inner : (o : Option InnerNode) → IsSome (as_inner {K = K} {V = V} o) → (n : InnerNode) × (as_inner {K = K} {V = V} o ≡ Some (inner_held n))
  of_inner None there = absurd (cc)
  of_inner (Some n) there = (n, refl)

  held_of_kind : (arena : Arena K V) (kind : NodeType) (slot : ℕ) → IsSome (held_as arena kind slot) → kind ≢ Leaf → (n : InnerNode) × (held_as arena kind slot ≡ Some (inner_held n))
  held_of_kind arena Leaf slot there other = absurd (other refl)
  held_of_kind arena kind slot there other = of_inner _ there

  -- under the name of an inner node that is held stands an inner node
  pub held_inner : (arena : Arena K V) (name : Name) → IsSome (held_at arena name) → name.kind ≢ Leaf → (n : InnerNode) × (held_at arena name ≡ Some (inner_held n))
  held_inner arena name there other = held_of_kind arena name.kind name.slot there other
