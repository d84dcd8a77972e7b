use Rattle.std.specs.Map.Iter.{deref_pair}
use Rattle.art_map.proofs.Terms.{left_of}
use Rattle.art_map.proofs.Extractions.{key-at-end}
use Rattle.art_map.proofs.map.extraction.Extraction.pair_at_end.Goals as goal

pub returns : goal.returns
returns g c =
    let e = c.args.self.now in
    key-at-end g.K.AsBytes.bytes g.row.PREFIX_LEN e.map.now c.in_ok-leaf.leaf c.args.end (deref_pair c.pair_at.result) (left_of e) c.in_ok-leaf.ensures.pair c.pair_at.ensures
