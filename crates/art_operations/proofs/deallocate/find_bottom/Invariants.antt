use Rattle.std.proofs.Common.{Bool, List}
use Rattle.art_nodes.proofs.Common.{Name}
use Rattle.art_arena.proofs.Common.{Cell, Shape}
use Rattle.art_operations.proofs.Terms.{HoldsPart}
use Rattle.art_operations.proofs.FreedSizes.{size_of}
use Rattle.art_operations.proofs.FreeSteps.{OnFirst}
use Rattle.art_operations.proofs.deallocate.find_bottom.Given as goal

abbrev pub invariant-down : goal.invariant-down
invariant-down g l =
    (w : Bool) (s : Shape g.row.K.Denot g.row.V.Denot) (rest : List (Name × Cell g.row.K.Denot g.row.V.Denot)) → HoldsPart g.row.PREFIX_LEN w l.arena l.fn.root s rest
    → OnFirst g.row.PREFIX_LEN w l.arena s rest l.node l.place

abbrev pub decreases-down : goal.decreases-down
decreases-down g l = size_of l.arena l.node
