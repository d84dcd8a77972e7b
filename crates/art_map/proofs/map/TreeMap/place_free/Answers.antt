use Rattle.art_map.proofs.Maps.{none-blocks}
use Rattle.art_map.proofs.map.TreeMap.place_free.Goals as goal

pub unreachable-requires : goal.unreachable-requires
unreachable-requires g c =
    none-blocks g.K.AsBytes.bytes g.K.AsBytes.is_key g.met.K.NoPrefixesBytes.no_prefixes c.args.self.now.pairs c.find_place.ensures.keys c.args.key.now c.find_place.ensures.key c.in-Err.ensures.placed
