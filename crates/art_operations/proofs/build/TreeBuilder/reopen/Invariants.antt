use Rattle.std.proofs.Common.{◌≡◌, ℕ, ◌-◌, ◌≤◌, []}
use Rattle.art_nodes.specs.declared.kind.NodeType.TheVariants.{Leaf}
use Rattle.art_arena.proofs.Common.{HasRoom, KeepsRoomOf, SameLeaves, Shape, LeafAt, StoresOnly, leaves}
use Rattle.art_operations.proofs.Terms.{HasInnerRoom, HasRoomAround, HasSpineRoom, begin_of}
use Rattle.art_operations.specs.inner.Reopening.{HasRoomToOpen, OpensTo}
use Rattle.art_operations.proofs.build.TreeBuilder.reopen.Given as goal

abbrev pub invariant-open : goal.invariant-open
invariant-open g l = record {
  stands : (s : Shape g.row.K.Denot g.row.V.Denot) → StoresOnly g.K.AsBytes.bytes g.row.PREFIX_LEN l.fn.arena l.fn.root s
      → (leaf : LeafAt g.row.K.Denot g.row.V.Denot) × (leaf.slot ≡ l.last) × OpensTo g.K.AsBytes.bytes g.row.PREFIX_LEN l.arena l.spine l.part leaf (leaves s);
  leaves : SameLeaves l.fn.arena l.arena;
  room : HasSpineRoom l.arena l.spine l.ready;
  closed : l.ready ≡ 0 → l.spine.stack.items ≡ [];
  to_open : (n : ℕ) → n ≤ l.fn.room → HasInnerRoom l.fn.arena l.fn.room → HasRoomToOpen l.arena l.spine n;
  around : (n : ℕ) → HasRoom l.fn.arena n → HasRoomAround l.arena l.spine n;
  leaf_alone : l.fn.root.kind ≡ Leaf → l.part.kind ≡ Leaf;
  room_of : KeepsRoomOf l.fn.arena l.arena;
}

abbrev pub decreases-open : goal.decreases-open
decreases-open g l = l.most - begin_of 0 l.spine.stack.items
