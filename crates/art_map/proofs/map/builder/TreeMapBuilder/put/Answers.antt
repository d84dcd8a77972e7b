use Rattle.art_map.proofs.Maps.{none-blocks}
use Rattle.art_map.proofs.map.builder.TreeMapBuilder.put.Goals as goal

pub assume_proved-requires : goal.assume_proved-requires
assume_proved-requires g c =
    let (pairs, has) = c.requires.taken in
    absurd
    (none-blocks g.K.AsBytes.bytes g.K.AsBytes.is_key g.met.K.NoPrefixesBytes.no_prefixes pairs (c.try_put.ensures.keys pairs has) c.args.key c.try_put.ensures.key ((rw c.in-Err-Conflict.field-0-is at c.in-Err-Conflict.ensures.refused) pairs has).2)
