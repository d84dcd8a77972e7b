use Rattle.std.specs.Map.Iter.{deref_pair}
use Rattle.art_map.proofs.Terms.{left_of}
use Rattle.art_map.proofs.Extractions.{last-shown}
use Rattle.art_map.proofs.map.extraction.Extraction.back_key_value.Goals as goal

pub returns : goal.returns
returns g c = last-shown deref_pair (left_of c.args.self.now) c.pair_at_end.result c.pair_at_end.ensures
