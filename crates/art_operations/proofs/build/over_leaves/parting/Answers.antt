use Rattle.std.proofs.Common.{arith}
use Rattle.art_operations.proofs.Building.{new-inside}
use Rattle.art_operations.proofs.PassedLeaves.{must-part, rises}
use Rattle.art_operations.proofs.build.over_leaves.parting.Goals as goal

pub unreachable-requires : goal.unreachable-requires
unreachable-requires c = must-part c.args.old.now c.args.new.now c.requires c.meet-met.result c.meet-met.ensures (λ p e. c.in_default.not-Parts p e)

pub returns-clause-rises : goal.returns-clause-rises
returns-clause-rises c = rises c.args.old.now c.args.new.now c.requires c.in-Parts.parted c.in-Parts.ensures

pub returns-clause-counts : goal.returns-clause-counts
returns-clause-counts c =
    let within = new-inside c.args.old.now c.args.new.now c.in-Parts.parted c.in-Parts.ensures in
    omega (arith, within)
