use Rattle.std.proofs.Common.{List, length}
use Rattle.std.specs.List.{AllByRecursion}
use Rattle.art_nodes.specs.declared.kind.NodeType.TheVariants.{Leaf}
use Rattle.art_arena.proofs.Common.{HasRoomOf, key_of, AscendsByKey}
use Rattle.art_operations.proofs.Common.{KeepsInnerRoom, StandsAhead, HasLeavesOf}
use Rattle.art_map.proofs.Merged.{MergesOn}
use Rattle.art_map.proofs.map.joins.put_along.Given as goal

abbrev pub invariant-loop-key : goal.invariant-loop-key
invariant-loop-key g l = record {
  put : (had : List (g.row.K.Denot × g.row.V.Denot)) → StandsAhead l.fn.arena l.fn.cursor g.K.AsBytes.bytes had l.initial.pairs → AllByRecursion (λ p. g.K.AsBytes.is_key p.0) had
      → MergesOn g.K.AsBytes.bytes g.K.AsBytes.is_key l.fn.arena l.arena l.cursor l.pairs l.initial.pairs had;
  ordered : AscendsByKey (key_of g.K.AsBytes.bytes) l.pairs;
  room : HasRoomOf l.arena Leaf (length l.pairs);
  names : HasLeavesOf g.K.AsBytes.bytes l.arena l.fn.arena;
  kept_room : KeepsInnerRoom l.fn.arena l.arena;
}

abbrev pub decreases-loop-key : goal.decreases-loop-key
decreases-loop-key g l = length l.pairs
