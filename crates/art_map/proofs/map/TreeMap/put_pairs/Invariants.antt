use Rattle.std.proofs.Common.{◌≡◌, ℕ, ◌+◌, ◌*◌, length}
use Rattle.art_arena.proofs.Common.{HasRoom}
use Rattle.art_map.proofs.RoomUsed.{LeavesUsed}
use Rattle.art_map.proofs.Terms.{with_pairs_put, KeepsAllLeaves}
use Rattle.art_map.proofs.map.TreeMap.put_pairs.Given as goal

abbrev pub invariant-loop-key : goal.invariant-loop-key
invariant-loop-key g l = record {
  put : with_pairs_put g.K.AsBytes.bytes l.pairs l.self.pairs ≡ with_pairs_put g.K.AsBytes.bytes l.initial.pairs l.initial.self.pairs;
  names : KeepsAllLeaves g.K.AsBytes.bytes l.initial.self l.self;
  room : HasRoom l.self.nodes (2 * length l.pairs);
  used : LeavesUsed (length l.initial.self.pairs) (length l.self.pairs) l.initial.self.nodes l.self.nodes;
  uses : (n : ℕ) → HasRoom l.initial.self.nodes (n + 2 * length l.initial.pairs) → HasRoom l.self.nodes (n + 2 * length l.pairs);
}

abbrev pub decreases-loop-key : goal.decreases-loop-key
decreases-loop-key g l = length l.pairs
