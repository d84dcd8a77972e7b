use Rattle.std.proofs.Common.{[], ◌≡◌, ◌∙◌, refl, sym, is_some, true, false}
use Rattle.art_operations.proofs.Done.{done-put}
use Rattle.art_operations.proofs.HeldPairs.{pairs-same}
use Rattle.art_operations.proofs.running.insert_at_place.Goals as goal

pub returns-in-Err : goal.returns-in-Err
returns-in-Err g c pairs has can free =
    (free, pairs-same g.K.AsBytes.bytes g.row.PREFIX_LEN c.args.arena.now c.insert_at.new.arena c.in-Err.ensures.err c.args.root pairs has)

pub returns-then-is_some : goal.returns-then-is_some
returns-then-is_some g c pairs has can free =
    let replaced : is_some c.in-Ok.put.existing_leaf ≡ true = sym c.is_some.ensures ∙ c.if-is_some.true in
    (done-put g.K.AsBytes.bytes g.row.PREFIX_LEN c.insert_at.new.arena pairs c.args.key c.args.value c.in-Ok.put 1 (c.in-Ok.ensures.ok pairs [] can) free (rw replaced refl))

pub returns : goal.returns
returns g c pairs has can free =
    let new : is_some c.in-Ok.put.existing_leaf ≡ false = sym c.is_some.ensures ∙ c.if-is_some.false in
    (done-put g.K.AsBytes.bytes g.row.PREFIX_LEN c.insert_at.new.arena pairs c.args.key c.args.value c.in-Ok.put 0 (c.in-Ok.ensures.ok pairs [] can) free (rw new refl))
