use Rattle.std.proofs.Common.{ℕ, ◌+◌, ◌*◌, List, length, map}
use Rattle.std.specs.Map.Iter.{deref_pair}
use Rattle.art_operations.proofs.Common.{HasLeavesOf}
use Rattle.art_map.proofs.Terms.{with_pairs_put, HasGathered, HasRoomLeft, nodes_of}
use Rattle.art_map.proofs.map.builder.TreeMapBuilder.put_copies.Given as goal

abbrev pub invariant-loop-key : goal.invariant-loop-key
invariant-loop-key g l = record {
  put : (pairs : List (g.row.K.Denot × g.row.V.Denot)) → HasGathered g.K.AsBytes.bytes g.K.AsBytes.is_key l.fn.self pairs → HasGathered g.K.AsBytes.bytes g.K.AsBytes.is_key l.self (with_pairs_put g.K.AsBytes.bytes (map deref_pair l.yielded) pairs);
  names : HasLeavesOf g.K.AsBytes.bytes (nodes_of l.self) (nodes_of l.fn.self);
  room : (n : ℕ) → HasRoomLeft l.fn.self (n + 2 * length l.yielded) → HasRoomLeft l.self n;
}
