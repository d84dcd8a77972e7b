use Rattle.std.proofs.Common.{arith}
use Rattle.art_arena.proofs.Common.{steps_of}
use Rattle.art_operations.proofs.parent.repoint.Goals as goal

pub put_below-requires : goal.put_below-requires
put_below-requires g c = let r = c.requires in (omega arith, (r.0, r.1, r.2, steps_of c.args.path, r.3, c.last_step.ensures))
