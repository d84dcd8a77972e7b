use Rattle.std.proofs.Common.{◌+◌, suc, arith}
use Rattle.art_operations.proofs.InnerRooms.{added-nodes, added-room}
use Rattle.art_operations.proofs.PassedLeaves.{passes}
use Rattle.art_operations.proofs.Results.{never}
use Rattle.art_operations.proofs.Rebuilding.{last-stands}
use Rattle.art_operations.proofs.Unmade.{around-added}
use Rattle.art_operations.proofs.build.spine.pass_at.Goals as goal

pub close-requires : goal.close-requires
close-requires g c =
    let r = c.requires.stands in
    (omega arith, (_, (_, _, last-stands g.K.AsBytes.bytes g.row.PREFIX_LEN c.args.arena.now c.args.spine.now c.args.last _ r.1 r.2.can.up_to (c.args.parted.matched + 1))))

pub unreachable-requires : goal.unreachable-requires
unreachable-requires g c =
    let r = c.requires.room in
    never c.close.result (c.close.ensures.succeeds r.0 r.1) (λ x e. c.in_default.not-Ok x e)

pub unreachable-requires-in_default-add_child : goal.unreachable-requires-in_default-add_child
unreachable-requires-in_default-add_child g c =
    let r = c.requires.room in
    never c.add_child.result (c.add_child.ensures.succeeds r.0 (c.in-Ok.ensures.room.spine r.0 r.1).places) (λ x e. c.in_default-add_child.not-Ok x e)

pub returns-clause-room : goal.returns-clause-room
returns-clause-room g c = λ more room.
    let left = c.in-Ok.ensures.room.spine more room in
    added-room c.close.new.arena c.close.new.spine c.add_child.new.self (c.args.parted.matched + 1) more (c.args.parted.old_byte, c.in-Ok.part) c.in-Ok-add_child.ensures.ok (c.in-Ok-add_child.ensures.places more left.places) left

pub returns-clause-nodes : goal.returns-clause-nodes
returns-clause-nodes g c = λ more room.
    added-nodes c.close.new.arena c.close.new.spine c.add_child.new.self (c.args.parted.matched + 1) more (c.args.parted.old_byte, c.in-Ok.part) c.in-Ok-add_child.ensures.ok (c.in-Ok.ensures.room.nodes more room)

pub returns-clause-around : goal.returns-clause-around
returns-clause-around g c = λ n room.
    around-added c.close.new.arena c.close.new.spine c.add_child.new.self (c.args.parted.matched + 1) n (c.args.parted.old_byte, c.in-Ok.part) c.in-Ok-add_child.ensures.ok (c.in-Ok.ensures.room.around (suc n) room)

pub returns-clause-passes : goal.returns-clause-passes
returns-clause-passes g c = λ rest ls at.
    let can = at.can in
    passes g.K.AsBytes.bytes g.row.PREFIX_LEN c.args.arena.now c.args.spine.now c.args.last c.args.next rest ls can c.close.new.arena c.close.new.spine c.add_child.new.self c.args.parted (c.args.parted.matched + 1) c.in-Ok.part at.parts c.requires.fits (omega arith)
    (c.in-Ok.ensures.ok _ _ _ (last-stands g.K.AsBytes.bytes g.row.PREFIX_LEN c.args.arena.now c.args.spine.now c.args.last _ ls can.up_to (c.args.parted.matched + 1))) c.in-Ok.ensures.closed c.in-Ok-add_child.ensures.ok
