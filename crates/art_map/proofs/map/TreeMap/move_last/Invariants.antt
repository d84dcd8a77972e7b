use Rattle.std.proofs.Common.{◌≡◌, ◌+◌, ◌++◌, ◌-◌, ◌*◌, length}
use Rattle.art_arena.proofs.Common.{HasRoom}
use Rattle.art_arena.specs.arena.Arena.{UsesRoom}
use Rattle.art_operations.specs.Frees.{FreesLeaves}
use Rattle.art_map.proofs.Terms.{AddsNoLeaf}
use Rattle.art_map.proofs.map.TreeMap.move_last.Given as goal

abbrev pub invariant-loop : goal.invariant-loop
invariant-loop g l = record {
  joined : l.self.pairs ++ l.to.pairs ≡ l.fn.self.pairs ++ l.fn.to.pairs;
  moved : length l.self.pairs + l.counter ≡ length l.fn.self.pairs;
  none_new : AddsNoLeaf g.K.AsBytes.bytes l.fn.self l.self;
  leaf_room : FreesLeaves l.counter l.fn.self.nodes l.self.nodes;
  from_room : UsesRoom l.counter l.fn.self.nodes l.self.nodes;
  to_room : HasRoom l.to.nodes (2 * (l.count - l.counter));
}
