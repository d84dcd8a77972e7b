use Rattle.std.proofs.Common.{List, length}
use Rattle.art_nodes.proofs.Common.{Name}
use Rattle.art_arena.proofs.Common.{SameLeaves, Cell}
use Rattle.art_operations.proofs.Terms.{HasSpine, OfEach}
use Rattle.art_operations.specs.inner.Closing.{KeepsSpineRoom}
use Rattle.art_operations.proofs.build.spine.close_from.Given as goal

abbrev pub invariant-close : goal.invariant-close
invariant-close g l = record {
  stands : (rest : List (Name × Cell g.row.K.Denot g.row.V.Denot)) → OfEach (HasSpine g.K.AsBytes.bytes g.row.PREFIX_LEN l.fn.arena l.fn.spine rest l.last l.low l.fn.start) (HasSpine g.K.AsBytes.bytes g.row.PREFIX_LEN l.arena l.spine rest l.last l.low l.part);
  room : KeepsSpineRoom l.fn.arena l.fn.spine l.arena l.spine;
  leaves : SameLeaves l.fn.arena l.arena;
}

abbrev pub decreases-close : goal.decreases-close
decreases-close g l = length l.spine.stack.items
