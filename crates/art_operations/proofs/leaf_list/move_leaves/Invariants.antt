use Rattle.std.proofs.Common.{◌-◌, List, []}
use Rattle.art_nodes.specs.declared.kind.NodeType.TheVariants.{Leaf}
use Rattle.art_arena.proofs.Common.{HasRoomOf, KeepsRoomOf, LeafAt}
use Rattle.art_operations.proofs.Terms.{FreesLeaves, SwapsLeaves, KeepsCells, KeepsInnerRoom, StandsBetween}
use Rattle.art_operations.proofs.LeafListsMoved.{AreMoved}
use Rattle.art_operations.proofs.leaf_list.move_leaves.Given as goal

abbrev pub invariant-loop : goal.invariant-loop
invariant-loop g l = record {
  moved : (ls : List (LeafAt g.row.K.Denot g.row.V.Denot)) → StandsBetween l.fn.from l.fn.cursor ls [] → AreMoved l.from l.cursor l.to l.first l.counter ls;
  none_new : KeepsCells l.from l.fn.from;
  room_of : KeepsRoomOf l.fn.from l.from;
  leaf_room : FreesLeaves l.counter l.fn.from l.from;
  used : SwapsLeaves l.counter 0 l.fn.to l.to;
  room : HasRoomOf l.to Leaf (l.count - l.counter);
  kept_room : KeepsInnerRoom l.fn.to l.to;
}
