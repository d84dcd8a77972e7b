use Rattle.std.proofs.Common.{List}
use Rattle.art_arena.proofs.Common.{LeafAt}
use Rattle.art_operations.proofs.Terms.{StandsBetween}
use Rattle.art_operations.proofs.LeafListsPassed.{HasStepped, leaves_left}
use Rattle.art_operations.proofs.leaf_list.LeafCursor.pass.Given as goal

abbrev pub invariant-pass : goal.invariant-pass
invariant-pass g l = (front back : List (LeafAt g.row.K.Denot g.row.V.Denot)) → StandsBetween l.arena l.fn.self front back → HasStepped l.arena g.K.AsBytes.bytes l.bytes front back l.self

abbrev pub decreases-pass : goal.decreases-pass
decreases-pass g l = leaves_left l.arena l.self
