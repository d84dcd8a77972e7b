use Rattle.std.proofs.Common.{arith}
use Rattle.art_nodes.proofs.ChildLemmas.{length-part}
use Rattle.art_nodes.proofs.child_iter.ChildIter.indirect_part.Goals as goal

pub indirect-requires : goal.indirect-requires
indirect-requires c = rw (c.place-low.ensures, c.place-high.ensures) (record {
  from_fits = omega (arith, c.requires.bounds.0, c.requires.bounds.1);
  to_fits = c.requires.bounds.1;
  same_length = length-part _ _ c.args.mask.now c.args.names.now c.requires.same_length;
})
