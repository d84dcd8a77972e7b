use Rattle.std.proofs.Common.{length}
use Rattle.art_nodes.specs.declared.kind.NodeType.TheVariants.{Leaf}
use Rattle.art_arena.proofs.Common.{HasRoomOf}
use Rattle.art_operations.proofs.Terms.{HasRoomToPush}
use Rattle.art_map.proofs.Compacted.{BuildsOn}
use Rattle.art_map.proofs.map.compact.push_all.Given as goal

abbrev pub invariant-loop-key : goal.invariant-loop-key
invariant-loop-key g l = record {
  taken : BuildsOn g.K.AsBytes.bytes g.row.PREFIX_LEN l.arena l.builder l.pairs l.initial.pairs;
  places : HasRoomToPush l.builder (length l.pairs);
  leaves : HasRoomOf l.arena Leaf (length l.pairs);
}

abbrev pub decreases-loop-key : goal.decreases-loop-key
decreases-loop-key g l = length l.pairs
