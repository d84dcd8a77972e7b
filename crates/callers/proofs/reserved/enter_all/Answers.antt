use Rattle.std.proofs.Common.{◌+◌, ◌-◌, ◌*◌, length, sym, subst, arith}
use Rattle.art_arena.proofs.Common.{HasRoom}
use Rattle.art_operations.proofs.NewNodes.{fewer}
use Rattle.callers.proofs.reserved.enter_all.Goals as goal
use Rattle.callers.proofs.reserved.enter_all.Goals.{in-Ok+in-Ok-insert_at, in-Err}

pub unreachable-requires : goal.unreachable-requires
unreachable-requires c =
    let left = length c.args.entries.now - c.loop-entry.entry-index in
    let never = c.in-Err-insert_at.ensures.succeeds (fewer c.loop-entry.blocks.nodes 2 (2 * left) (omega (arith, c.loop-entry-test.true)) c.loop-entry.invariant) in
    absurd (cc)

-- an insertion uses room for two nodes, and a conflict none
pub loop-entry-preserved : goal.loop-entry-preserved
loop-entry-preserved c =
    let was = 2 * (length c.args.entries.now - c.loop-entry.entry-index) in
    let is = 2 * (length c.args.entries.now - (c.loop-entry.entry-index + 1)) in
    elim c.match-find_place.branch [
      | in-Ok+in-Ok-insert_at w ↦ subst (λ b. HasRoom b.nodes is) (sym w.blocks-is) (w.insert_at.ensures.room is (subst (HasRoom c.loop-entry.blocks.nodes) (omega (arith, c.loop-entry-test.true)) c.loop-entry.invariant))
      | in-Err w ↦ subst (λ b. HasRoom b.nodes is) (sym w.blocks-is) (fewer c.loop-entry.blocks.nodes is was (omega arith) c.loop-entry.invariant)
    ]
