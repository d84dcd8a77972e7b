use Rattle.std.proofs.Common.{subst}
use Rattle.art_operations.proofs.Common.{on-err}
use Rattle.art_map.proofs.Terms.{IsFoundPart}
use Rattle.art_map.proofs.map.TreeMap.block_with_prefix.Goals as goal

pub returns-in_err-ready-in-Some-clause-shrinks : goal.returns-in_err-ready-in-Some-clause-shrinks
returns-in_err-ready-in-Some-clause-shrinks g c =
    let part = subst (IsFoundPart g.K.AsBytes.bytes g.row.PREFIX_LEN c.args.self.now c.args.prefix.now) c.in-Some.is c.part_with_prefix-found.ensures.part in
    on-err c.from_residual.result (c.in_err-ready-in-Some.ensures.shrinks c.args.prefix.now part)
