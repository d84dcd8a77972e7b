use Rattle.std.proofs.Common.{ℕ, ◌+◌, ◌-◌, ◌≤◌, List, Some}
use Rattle.art_arena.proofs.Common.{SameLeaves, LeafAt}
use Rattle.art_operations.proofs.Terms.{HoldsInOrder, HasNodeRoom, HasRoomAround, HasSpineRoom, KeepsLeafRoom}
use Rattle.art_operations.proofs.PassedLeaves.{ArePassed}
use Rattle.art_operations.proofs.build.over_leaves.pass_all.Given as goal

abbrev pub invariant-walk : goal.invariant-walk
invariant-walk g l = record {
  passed : (ls : List (LeafAt g.row.K.Denot g.row.V.Denot)) → HoldsInOrder g.K.AsBytes.bytes l.fn.arena (Some l.fn.first) ls → ArePassed g.K.AsBytes.bytes g.row.PREFIX_LEN l.arena l.spine l.last l.left l.fn.leaves ls;
  leaves : SameLeaves l.fn.arena l.arena;
  room : HasSpineRoom l.arena l.spine l.left;
  within : l.left ≤ l.fn.leaves;
  nodes : (more : ℕ) → HasNodeRoom l.fn.arena l.fn.spine (more + (l.fn.leaves - l.left)) → HasNodeRoom l.arena l.spine more;
  around : (n : ℕ) → HasRoomAround l.fn.arena l.fn.spine (n + (l.fn.leaves - l.left)) → HasRoomAround l.arena l.spine n;
  leaf_room : KeepsLeafRoom l.fn.arena l.arena;
}

abbrev pub decreases-walk : goal.decreases-walk
decreases-walk g l = l.left
