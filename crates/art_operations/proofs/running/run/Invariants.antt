use Rattle.std.proofs.Common.{◌≡◌, take, length, vec_capacity}
use Rattle.art_operations.proofs.CommandLists.{HasRun}
use Rattle.art_operations.proofs.running.run.Given as goal

abbrev pub invariant-loop-command : goal.invariant-loop-command
invariant-loop-command g l =
    HasRun g.K.AsBytes.bytes g.row.PREFIX_LEN g.K.Clone.is_clone g.V.Clone.is_clone l.arena l.root (take l.command-index l.commands) l.answers.items × (vec_capacity l.answers ≡ length l.commands)
