use Rattle.std.proofs.Common.{sym, subst}
use base.Stored.{Coded-set, coded_list, coded×}
use Rattle.art_nodes.specs.declared.kind.NodeType.TheVariants.{Leaf}
use Rattle.art_arena.proofs.Common.{HasRoom, key_of, Shrinks}
use Rattle.art_arena.specs.arena.Arena.{UsesRoom}
use Rattle.art_arena.specs.arena.Rooms.{FreesRoomOf}
use Rattle.art_map.proofs.Terms.{IsUntouched, left_of, AddsNoLeaf, KeepsLeaves}
use Rattle.art_map.proofs.Extractions.{either-some, empty-some, left-taken}
use Rattle.art_map.proofs.map.extraction.Extraction.take.Goals as goal

pub invariant_of-self : goal.invariant_of-self
invariant_of-self g c = record {
  run = either-some g.K.AsBytes.bytes g.row.PREFIX_LEN c.next_leaf-leaf.new.self.map.now c.take_at.new.self c.args.end c.next_leaf-leaf.result c.next_leaf-leaf.new.self.leaves c.take_at.result c.take_at.ensures.leaves c.take_at.ensures.kept c.next_leaf-leaf.ensures.step;
}

pub invariant_of-self-in-Err : goal.invariant_of-self-in-Err
invariant_of-self-in-Err g c = record {
  run = empty-some g.K.AsBytes.bytes g.row.PREFIX_LEN c.next_leaf-leaf.new.self.map.now c.take_at.new.self c.args.end c.next_leaf-leaf.result c.next_leaf-leaf.new.self.leaves c.in-Err.ensures.kept c.next_leaf-leaf.ensures.step c.empty-self.result c.empty-self.ensures;
}

pub returns-in-Ok-clause-left : goal.returns-in-Ok-clause-left
returns-in-Ok-clause-left g c =
    left-taken g.K.AsBytes.bytes g.row.PREFIX_LEN c.next_leaf-leaf.new.self.map.now c.take_at.new.self c.args.end c.next_leaf-leaf.result c.next_leaf-leaf.new.self.leaves c.in-Ok.ensures.leaves
    (Coded-set (coded_list (coded× g.row.K.coded g.row.V.coded))) c.next_leaf-leaf.ensures.step
    (left_of c.args.self.now) c.next_leaf-leaf.ensures.left c.in-Ok.pair c.in-Ok.ensures.value

pub returns-in-Err-clause-shrinks : goal.returns-in-Err-clause-shrinks
returns-in-Err-clause-shrinks g c =
    let left = c.next_leaf-leaf.ensures.left in (
      left.0,
      left_of c.next_leaf-leaf.new.self,
      left.2,
      subst (λ m. Shrinks (key_of g.K.AsBytes.bytes) m.now.pairs (g.K.AsBytes.bytes left.0.0)) c.next_leaf-leaf.ensures.same (c.in-Err.ensures.shrinks left.0 left.1),
    )

pub returns-in-Err-clause-untouched : goal.returns-in-Err-clause-untouched
returns-in-Err-clause-untouched g c = subst (λ m. IsUntouched m.now c.take_at.new.self) c.next_leaf-leaf.ensures.same c.in-Err.ensures.untouched

pub returns-in-Ok-clause-names : goal.returns-in-Ok-clause-names
returns-in-Ok-clause-names g c = subst (λ m. KeepsLeaves g.K.AsBytes.bytes m.now c.take_at.new.self) c.next_leaf-leaf.ensures.same c.in-Ok.ensures.names

pub returns-in-Ok-clause-none_new : goal.returns-in-Ok-clause-none_new
returns-in-Ok-clause-none_new g c = subst (λ m. AddsNoLeaf g.K.AsBytes.bytes m.now c.take_at.new.self) c.next_leaf-leaf.ensures.same c.in-Ok.ensures.none_new

pub returns-in-Err-clause-none_new : goal.returns-in-Err-clause-none_new
returns-in-Err-clause-none_new g c = subst (λ m. AddsNoLeaf g.K.AsBytes.bytes m.now c.take_at.new.self) c.next_leaf-leaf.ensures.same c.take_at.ensures.none_new

pub returns-in-Ok-clause-room : goal.returns-in-Ok-clause-room
returns-in-Ok-clause-room g c = subst (λ m. UsesRoom 1 m.now.nodes c.take_at.new.self.nodes) c.next_leaf-leaf.ensures.same c.take_at.ensures.room

pub returns-in-Err-clause-room : goal.returns-in-Err-clause-room
returns-in-Err-clause-room g c = subst (λ m. UsesRoom 1 m.now.nodes c.take_at.new.self.nodes) c.next_leaf-leaf.ensures.same c.take_at.ensures.room

pub returns-in-Err-clause-succeeds : goal.returns-in-Err-clause-succeeds
returns-in-Err-clause-succeeds g c = λ room. c.in-Err.ensures.succeeds (subst (λ m. HasRoom m.now.nodes 1) (sym c.next_leaf-leaf.ensures.same) room)

pub returns-in-Ok-clause-leaf_room : goal.returns-in-Ok-clause-leaf_room
returns-in-Ok-clause-leaf_room g c = subst (λ m. FreesRoomOf Leaf m.now.nodes c.take_at.new.self.nodes) c.next_leaf-leaf.ensures.same c.in-Ok.ensures.leaf_room
