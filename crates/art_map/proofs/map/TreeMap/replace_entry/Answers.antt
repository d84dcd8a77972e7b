use Rattle.art_map.proofs.Maps.{none-blocks}
use Rattle.art_map.proofs.map.TreeMap.replace_entry.Goals as goal

pub assume_proved-requires : goal.assume_proved-requires
assume_proved-requires g c = absurd
    (none-blocks g.K.AsBytes.bytes g.K.AsBytes.is_key g.met.K.NoPrefixesBytes.no_prefixes c.args.self.now.pairs c.put.ensures.keys c.args.key c.put.ensures.key (rw c.in-Err-Conflict.field-0-is at c.in-Err-Conflict.ensures.refused).2)
