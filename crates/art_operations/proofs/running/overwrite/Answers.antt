use Rattle.std.proofs.Common.{[], refl, subst, arith}
use Rattle.art_operations.proofs.Terms.{CanPutOver}
use Rattle.art_operations.proofs.HeldPairs.{pairs-same}
use Rattle.art_operations.proofs.PutOver.{done-over}
use Rattle.art_operations.proofs.running.overwrite.Goals as goal

pub insert_over-requires : goal.insert_over-requires
insert_over-requires g c = (
  omega arith,
  (c.requires.0, [], subst (λ k. CanPutOver g.K.AsBytes.bytes g.row.PREFIX_LEN c.args.arena.now c.find_place_over-place.result k c.requires.0 []) c.as_bytes.ensures.value (c.find_place_over-place.ensures c.requires.0 [] c.requires.1)),
)

pub returns-in-Ok : goal.returns-in-Ok
returns-in-Ok g c pairs has =
    rw c.change_of.ensures
    (done-over g.K.AsBytes.bytes g.row.PREFIX_LEN c.insert_over.new.arena pairs c.args.key c.args.value c.in-Ok.put _
    (c.in-Ok.ensures.ok pairs [] (subst (λ k. CanPutOver g.K.AsBytes.bytes g.row.PREFIX_LEN c.args.arena.now c.find_place_over-place.result k pairs []) c.as_bytes.ensures.value (c.find_place_over-place.ensures pairs [] has))) refl)

pub returns : goal.returns
returns g c pairs has = (tt, pairs-same g.K.AsBytes.bytes g.row.PREFIX_LEN c.args.arena.now c.insert_over.new.arena c.in-Err.ensures.err c.args.root pairs has)
