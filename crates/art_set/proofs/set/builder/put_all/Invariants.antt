use Rattle.std.proofs.Common.{ℕ, ◌+◌, ◌*◌, List, length, map}
use Rattle.art_operations.proofs.Common.{HasLeavesOf}
use Rattle.art_map.specs.Builders.{HasRoomLeft, nodes_of}
use Rattle.art_map.proofs.Common.{with_pairs_put, HasGathered}
use Rattle.art_set.proofs.set.builder.put_all.Given as goal

abbrev pub invariant-loop-key : goal.invariant-loop-key
invariant-loop-key g l = record {
  put : (pairs : List (g.row.K.Denot × Unit {0})) → HasGathered g.K.AsBytes.bytes g.K.AsBytes.is_key l.fn.builder pairs → HasGathered g.K.AsBytes.bytes g.K.AsBytes.is_key l.builder (with_pairs_put g.K.AsBytes.bytes (map (λ k. (k, tt)) l.yielded) pairs);
  names : HasLeavesOf g.K.AsBytes.bytes (nodes_of l.builder) (nodes_of l.fn.builder);
  room : (n : ℕ) → HasRoomLeft l.fn.builder (n + 2 * length l.yielded) → HasRoomLeft l.builder n;
}
