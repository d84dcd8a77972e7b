use Rattle.std.proofs.Common.{arith}
use Rattle.art_set.proofs.MergeOrder.{ascends-in-bytes}
use Rattle.art_set.proofs.set.TreeSet.beside.Goals as goal

pub new-requires-3 : goal.new-requires-3
new-requires-3 g c = (
  omega arith,
  (
    omega arith,
    (
      omega arith,
      (rw (c.new.ensures, c.iter.ensures.rest) (ascends-in-bytes g.K.AsBytes.bytes _ c.iter.ensures.ordered), rw (c.new-2.ensures, c.iter-2.ensures.rest) (ascends-in-bytes g.K.AsBytes.bytes _ c.iter-2.ensures.ordered)),
    ),
  ),
)
