use Rattle.std.specs.Map.Iter.{deref_pair}
use Rattle.art_map.proofs.Terms.{left_of}
use Rattle.art_map.proofs.Extractions.{first-shown}
use Rattle.art_map.proofs.map.extraction.Extraction.front_key_value.Goals as goal

pub returns : goal.returns
returns g c = first-shown deref_pair (left_of c.args.self.now) c.pair_at_end.result c.pair_at_end.ensures
