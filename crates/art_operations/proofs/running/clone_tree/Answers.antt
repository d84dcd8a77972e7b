use Rattle.std.proofs.Common.{refl}
use Rattle.art_operations.proofs.RepeatedClones.{more-clones, clones-again}
use Rattle.art_operations.proofs.running.clone_tree.Goals as goal

pub returns-in_default : goal.returns-in_default
returns-in_default g c n pairs has = (refl, more-clones g.K.Clone.is_clone g.V.Clone.is_clone g.K.AsBytes.bytes g.row.PREFIX_LEN n c.args.arena.now pairs c.args.root has)

pub returns-then-not-fits_in_memory : goal.returns-then-not-fits_in_memory
returns-then-not-fits_in_memory g c n pairs has = (tt, rw c.in-Some.is at (more-clones g.K.Clone.is_clone g.V.Clone.is_clone g.K.AsBytes.bytes g.row.PREFIX_LEN n c.args.arena.now pairs c.args.root has))

pub returns-in-Ok : goal.returns-in-Ok
returns-in-Ok g c n pairs has =
    (refl, clones-again g.K.Clone.is_clone g.V.Clone.is_clone g.K.AsBytes.bytes g.row.PREFIX_LEN n c.args.arena.now pairs c.args.root c.in-Some.top c.in-Ok.cloned c.in-Some.is c.in-Ok.ensures has)

pub returns-in-Err : goal.returns-in-Err
returns-in-Err g c n pairs has = (tt, rw c.in-Some.is at (more-clones g.K.Clone.is_clone g.V.Clone.is_clone g.K.AsBytes.bytes g.row.PREFIX_LEN n c.args.arena.now pairs c.args.root has))
