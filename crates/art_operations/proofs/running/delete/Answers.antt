use Rattle.std.proofs.Common.{[], length, sym, ap, subst}
use Rattle.art_operations.proofs.Terms.{HasTaken}
use Rattle.art_operations.proofs.Done.{done-none}
use Rattle.art_operations.proofs.HeldPairs.{pairs-same}
use Rattle.art_operations.proofs.running.delete.Goals as goal

pub returns-in-Ok-Some : goal.returns-in-Ok-Some
returns-in-Ok-Some g c pairs has =
    let has_taken = subst (λ taken. HasTaken g.K.AsBytes.bytes g.row.PREFIX_LEN c.take_pair.new.arena c.args.root (g.K.AsBytes.bytes c.args.key.now) taken pairs []) c.in-Ok-Some.field-0-is (rw c.as_bytes.ensures.value at (c.in-Ok-Some.ensures.ok pairs [] has)) in
    (sym (ap length has_taken.0), has_taken.1)

pub returns-in-Ok-None : goal.returns-in-Ok-None
returns-in-Ok-None g c pairs has =
    done-none g.K.AsBytes.bytes g.row.PREFIX_LEN c.take_pair.new.arena pairs c.args.root c.args.key.now
    (subst (λ taken. HasTaken g.K.AsBytes.bytes g.row.PREFIX_LEN c.take_pair.new.arena c.args.root (g.K.AsBytes.bytes c.args.key.now) taken pairs []) c.in-Ok-None.field-0-is (rw c.as_bytes.ensures.value at (c.in-Ok-None.ensures.ok pairs [] has)))

pub returns-in-Err : goal.returns-in-Err
returns-in-Err g c pairs has = (
  rw c.as_bytes.ensures.value at (c.in-Err.ensures.shrinks pairs [] has),
  pairs-same g.K.AsBytes.bytes g.row.PREFIX_LEN c.args.arena.now c.take_pair.new.arena c.in-Err.ensures.err c.args.root pairs has,
)
