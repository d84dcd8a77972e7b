use Rattle.std.proofs.Common.{◌-◌, ◌*◌, length}
use Rattle.art_arena.proofs.Common.{HasRoom}
use Rattle.callers.proofs.reserved.enter_all.Given as goal

-- there is room for all that are still to come
abbrev pub invariant-loop-entry : goal.invariant-loop-entry
invariant-loop-entry l = HasRoom l.blocks.nodes (2 * (length l.entries - l.entry-index))
