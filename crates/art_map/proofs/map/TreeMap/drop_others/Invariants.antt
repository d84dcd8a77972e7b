use Rattle.std.proofs.Common.{◌≡◌, length}
use Rattle.std.specs.Map.Calls.{CalledAtPair, TakesPair}
use Rattle.art_map.proofs.Terms.{left_of, map_of, AddsNoLeaf, asking_by}
use Rattle.art_map.proofs.Asks.{Retaining}
use Rattle.art_map.proofs.RoomKept.{UsesOfGone}
use Rattle.art_map.proofs.map.TreeMap.drop_others.Given as goal

abbrev pub invariant-loop-pairs : goal.invariant-loop-pairs
invariant-loop-pairs g l = record {
  same_map : (map_of l.pairs).ghost_name ≡ (map_of l.initial.pairs).ghost_name;
  none_new : AddsNoLeaf g.K.AsBytes.bytes l.fn.self (map_of l.pairs).now;
  room : UsesOfGone l.fn.self (map_of l.pairs).now;
  retaining : Retaining (CalledAtPair g.F.FnMut) g.K.AsBytes.bytes (TakesPair g.F.FnMut) l.fn.keep l.fn.self.pairs (asking_by l.pairs l.keep);
}

abbrev pub decreases-loop-pairs : goal.decreases-loop-pairs
decreases-loop-pairs g l = length (left_of l.pairs)
