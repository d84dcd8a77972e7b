-- What an arena ends as, where a `&mut` to one of its nodes, or to the value of one of its leaves, is returned.
use Rattle.std.specs.Prelude.{ℕ, Option, Some, None}
use Rattle.std.specs.Borrow.{Lends, Fml, RattleType, MutBor}
use Rattle.slab.specs.Slab.{get}
use Rattle.art_nodes.specs.declared.leaf.LeafNode.{LeafNode}
use Rattle.art_arena.specs.arena.Arena.{Arena, with_leaf}
use Rattle.art_arena.specs.contracts.arena.NodeArena.{the_row}

module _ (A N : RattleType) (with_node : A.Denot → ℕ → N.Denot → A.Denot) (arena : MutBor A.Denot) (slot : ℕ) where
  -- once the borrow r ends, the slab key has the last node written through r
  abbrev pub lends_node : MutBor N.Denot → Fml
  lends_node r = Lends A N arena r (with_node arena.now slot)

-- the arena with another value in a leaf
abbrev pub with_value_in : {K V : Type 0} → Arena K V → ℕ → Option (LeafNode K V) → V → Arena K V
with_value_in arena slot None value = arena
with_value_in arena slot (Some leaf) value = with_leaf arena slot (record leaf { value = value })

-- the arena with another value in the leaf with this slab key, if there is one
abbrev pub with_leaf_value : {K V : Type 0} → Arena K V → ℕ → V → Arena K V
with_leaf_value arena slot value = with_value_in arena slot (get arena.leaves slot) value

module _ (K V P : RattleType) (arena : MutBor (Arena K.Denot V.Denot)) (slot : ℕ) where
  -- once the borrow r ends, the leaf has the last value written through r
  abbrev pub lends_leaf_value : MutBor V.Denot → Fml
  lends_leaf_value r = Lends (the_row K V P) V arena r (with_leaf_value arena.now slot)
