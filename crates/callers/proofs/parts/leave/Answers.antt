use Rattle.std.proofs.Common.{[], arith}
use Rattle.callers.proofs.parts.leave.Goals as goal

pub prepare-requires : goal.prepare-requires
prepare-requires g c =
    let (s, tree, is) = c.in-Some.ensures in
    (omega arith, (c.args.prefix.now, (s, [], tree, is)))
