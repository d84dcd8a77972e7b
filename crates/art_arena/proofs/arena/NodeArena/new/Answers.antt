use Rattle.std.proofs.Common.{◌≡◌, ℕ, [], None, refl, arith}
use Rattle.std.proofs.lemmas.List.{get_or_past}
use Rattle.slab.specs.Slab.{Slab, get}
use Rattle.art_nodes.specs.declared.kind.NodeType.{NodeType}
use Rattle.art_nodes.specs.declared.kind.NodeType.TheVariants.{Node4, Node16, Node32, Node48, Node256, Leaf}
use Rattle.art_arena.specs.arena.Arena.{Arena, HasNoRoom, held_as}
use Rattle.art_arena.proofs.arena.NodeArena.new.Goals as goal

none_at : {T : Type 0} (s : Slab T) (slot : ℕ) → s.slots ≡ [] → get s slot ≡ None
none_at s slot empty = rw empty (get_or_past [] slot None (omega arith))

none_held : {K V : Type 0} (a : Arena K V) (kind : NodeType) (slot : ℕ) → a.leaves.slots ≡ [] → a.nodes4.slots ≡ [] → a.nodes16.slots ≡ [] → a.nodes32.slots ≡ [] → a.nodes48.slots ≡ [] → a.nodes256.slots ≡ [] → held_as a kind slot ≡ None
none_held a Leaf slot l n4 n16 n32 n48 n256 = rw (none_at a.leaves slot l) refl
none_held a Node4 slot l n4 n16 n32 n48 n256 = rw (none_at a.nodes4 slot n4) refl
none_held a Node16 slot l n4 n16 n32 n48 n256 = rw (none_at a.nodes16 slot n16) refl
none_held a Node32 slot l n4 n16 n32 n48 n256 = rw (none_at a.nodes32 slot n32) refl
none_held a Node48 slot l n4 n16 n32 n48 n256 = rw (none_at a.nodes48 slot n48) refl
none_held a Node256 slot l n4 n16 n32 n48 n256 = rw (none_at a.nodes256 slot n256) refl

no_room : {K V : Type 0} (a : Arena K V) → a.leaves.capacity ≡ 0 → a.nodes4.capacity ≡ 0 → a.nodes16.capacity ≡ 0 → a.nodes32.capacity ≡ 0 → a.nodes48.capacity ≡ 0 → a.nodes256.capacity ≡ 0 → HasNoRoom a
no_room a l n4 n16 n32 n48 n256 Leaf room = omega (arith, l, room)
no_room a l n4 n16 n32 n48 n256 Node4 room = omega (arith, n4, room)
no_room a l n4 n16 n32 n48 n256 Node16 room = omega (arith, n16, room)
no_room a l n4 n16 n32 n48 n256 Node32 room = omega (arith, n32, room)
no_room a l n4 n16 n32 n48 n256 Node48 room = omega (arith, n48, room)
no_room a l n4 n16 n32 n48 n256 Node256 room = omega (arith, n256, room)

pub returns-clause-none : goal.returns-clause-none
returns-clause-none g c =
    let made : Arena g.row.K.Denot g.row.V.Denot = record { leaves = c.new.result; nodes4 = c.new-2.result; nodes16 = c.new-3.result; nodes32 = c.new-4.result; nodes48 = c.new-5.result; nodes256 = c.new-6.result } in
    λ n. none_held made n.kind n.slot c.new.ensures.slots c.new-2.ensures.slots c.new-3.ensures.slots c.new-4.ensures.slots c.new-5.ensures.slots c.new-6.ensures.slots

pub returns-clause-no_room : goal.returns-clause-no_room
returns-clause-no_room g c =
    let made : Arena g.row.K.Denot g.row.V.Denot = record { leaves = c.new.result; nodes4 = c.new-2.result; nodes16 = c.new-3.result; nodes32 = c.new-4.result; nodes48 = c.new-5.result; nodes256 = c.new-6.result } in
    no_room made c.new.ensures.capacity c.new-2.ensures.capacity c.new-3.ensures.capacity c.new-4.ensures.capacity c.new-5.ensures.capacity c.new-6.ensures.capacity
