use Rattle.art_operations.proofs.Terms.{IsCloned}
use Rattle.art_operations.proofs.Clones.{over-clones}
use Rattle.art_operations.proofs.RepeatedClones.{cloned-once, cloned-keeps}
use Rattle.art_operations.proofs.running.prefix_insert.Goals as goal

pub returns-in-Ok : goal.returns-in-Ok
returns-in-Ok g c n pairs has =
    over-clones g.K.AsBytes.bytes (IsCloned g.K.Clone.is_clone n) (IsCloned g.V.Clone.is_clone n) (cloned-keeps g.K.Clone.is_clone g.K.AsBytes.bytes c.requires.keys n) g.row.PREFIX_LEN c.args.arena.now c.overwrite.new.arena c.args.root pairs
    c.args.key.now c.in-Ok.key c.args.value.now c.in-Ok.value c.overwrite.result (cloned-once g.K.Clone.is_clone n c.args.key.now c.in-Ok.key c.in-Ok.ensures.0) (cloned-once g.V.Clone.is_clone n c.args.value.now c.in-Ok.value c.in-Ok.ensures.1) c.overwrite.ensures has
