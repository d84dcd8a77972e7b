use Rattle.std.proofs.Common.{◌+◌, arith}
use Rattle.art_arena.proofs.Common.{leaves, steps_of, all_at}
use Rattle.art_operations.proofs.LeafNames.{inserted-names, overwritten-names}
use Rattle.art_operations.proofs.NewNodes.{fewer}
use Rattle.art_operations.proofs.NotStored.{not-in-way}
use Rattle.art_operations.proofs.Overwrites.{inserted}
use Rattle.art_operations.proofs.Results.{both_ok}
use Rattle.art_operations.proofs.prefix_insert.point.PrefixInsertPoint.apply.Goals as goal

pub returns-in_ok-apply-in-InsertPoint-clause-ok : goal.returns-in_ok-apply-in-InsertPoint-clause-ok
returns-in_ok-apply-in-InsertPoint-clause-ok g c =
    rw c.in-InsertPoint.is (λ s rest tree point.
    inserted g.K.AsBytes.bytes g.row.PREFIX_LEN c.apply.new.arena s (steps_of c.in-InsertPoint.point.path) c.args.key c.args.value c.in_ok-apply-in-InsertPoint.field-0
    (c.in_ok-apply-in-InsertPoint.ensures.ok s rest tree point))

pub returns-in-OverwritePoint-clause-room : goal.returns-in-OverwritePoint-clause-room
returns-in-OverwritePoint-clause-room g c = λ n room. c.apply-in-OverwritePoint.ensures.room n (fewer c.args.arena.now (n + 1) (n + 2) (omega arith) room)

pub returns-in_ok-apply-in-InsertPoint-clause-leaf_room : goal.returns-in_ok-apply-in-InsertPoint-clause-leaf_room
returns-in_ok-apply-in-InsertPoint-clause-leaf_room g c = λ n room. c.in_ok-apply-in-InsertPoint.ensures.leaf_room n room

pub returns-in_ok-apply-in-InsertPoint-clause-names : goal.returns-in_ok-apply-in-InsertPoint-clause-names
returns-in_ok-apply-in-InsertPoint-clause-names g c =
    let put = c.in_ok-apply-in-InsertPoint in
    rw c.in-InsertPoint.is (λ s rest tree point slot bs has still.
    inserted-names g.K.AsBytes.bytes g.row.PREFIX_LEN c.args.arena.now c.apply.new.arena c.in-InsertPoint.point.root rest s tree (put.ensures.others s rest tree point)
    (steps_of c.in-InsertPoint.point.path) c.args.key c.args.value put.field-0 (put.ensures.ok s rest tree point) slot bs has)

pub returns-in-OverwritePoint-clause-names : goal.returns-in-OverwritePoint-clause-names
returns-in-OverwritePoint-clause-names g c =
    let bytes = g.K.AsBytes.bytes in
    let over = c.in-OverwritePoint.point in
    both_ok c.apply-in-OverwritePoint.result _ _ _ c.apply-in-OverwritePoint.ensures.ok c.apply-in-OverwritePoint.ensures.others (λ put is keeps.
    rw c.in-OverwritePoint.is (λ s rest tree way.
    overwritten-names bytes g.row.PREFIX_LEN c.args.arena.now c.apply-in-OverwritePoint.new.arena over.root rest s tree (keeps s rest tree way)
    (steps_of over.path) c.args.key c.args.value put (is s rest tree way)
    (λ l i. all_at _ l (leaves s) (not-in-way bytes (bytes c.args.key) s over.root over.overwrite_point (steps_of over.path) way) i)))

pub returns-in_ok-apply-in-InsertPoint-clause-exact_room : goal.returns-in_ok-apply-in-InsertPoint-clause-exact_room
returns-in_ok-apply-in-InsertPoint-clause-exact_room g c = rw c.in-InsertPoint.is (λ exact. c.in_ok-apply-in-InsertPoint.ensures.exact_room exact.0 exact.1)
