use Rattle.std.proofs.Common.{arith, ◌<◌, ◌≤◌}
use Rattle.art_operations.proofs.Nearest.{parted_after, parted_before}
use Rattle.art_operations.proofs.bounds.nearest_parted.Goals as goal

pub returns-then-parted-clause-nearest : goal.returns-then-parted-clause-nearest
returns-then-parted-clause-nearest g c = λ key path prefix kids sub on part.
    let less : c.args.parted.new_byte < c.args.parted.old_byte = let h = c.if-parted.true in omega (arith, h) in
    parted_after g.K.AsBytes.bytes key path prefix kids c.args.parted on c.args.node sub.under part _ less (c.minimum_with.ensures.value path _ sub)

pub returns-clause-nearest : goal.returns-clause-nearest
returns-clause-nearest g c = λ key path prefix kids sub on part.
    let upto : c.args.parted.old_byte ≤ c.args.parted.new_byte = let h = c.if-parted.false in omega (arith, h) in
    parted_before g.K.AsBytes.bytes key path prefix kids c.args.parted on c.args.node sub.under part _ upto (c.maximum_with.ensures.value path _ sub)
