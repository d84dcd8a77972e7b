use Rattle.std.proofs.Common.{◌≡◌, length}
use Rattle.std.specs.Fn.{CalledAt, TakesAt}
use Rattle.art_map.proofs.Common.{left_of, map_of}
use Rattle.art_set.proofs.AskedKeys.{RetainingKeys}
use Rattle.art_map.proofs.RoomKept.{UsesOfGone}
use Rattle.art_operations.proofs.Common.{KeepsLeavesOf}
use Rattle.art_set.proofs.AskedPairs.{asking_by, contents_of}
use Rattle.art_set.proofs.set.TreeSet.retain.Given as goal

abbrev pub invariant-loop-key : goal.invariant-loop-key
invariant-loop-key g l = record {
  same_map : (map_of l.keys).ghost_name ≡ (map_of l.initial.keys).ghost_name;
  room : UsesOfGone (contents_of l.fn.self) (map_of l.keys).now;
  names : KeepsLeavesOf g.K.AsBytes.bytes (map_of l.keys).now.pairs l.fn.self.nodes (map_of l.keys).now.nodes;
  retaining : RetainingKeys (CalledAt g.F.FnMut) g.K.AsBytes.bytes (TakesAt g.F.FnMut) l.fn.keep l.fn.self.keys (asking_by l.keys l.keep);
}

abbrev pub decreases-loop-key : goal.decreases-loop-key
decreases-loop-key g l = length (left_of l.keys)
