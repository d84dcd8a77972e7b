use Rattle.std.proofs.Common.{map, ap, ◌∙◌}
use Rattle.art_engine.proofs.Terms.{full_pair, Records}
use Rattle.art_engine.proofs.Placing.{pairs_are}
use Rattle.art_engine.proofs.records.Records.byte_map.Goals as goal

pub returns : goal.returns
returns g c = pairs_are c.self.inside.keys.pairs c.self.invariant.0.stand.full ∙ ap (λ (r : Records). map full_pair r.keys) c.self.view_is
