use Rattle.std.proofs.Common.{map, ap, ◌∙◌}
use Rattle.art_engine.proofs.Terms.{number_pair, Records}
use Rattle.art_engine.proofs.NumberPlaces.{number_pairs_are}
use Rattle.art_engine.proofs.records.Records.number_map.Goals as goal

pub returns : goal.returns
returns g c = number_pairs_are c.self.inside.numbers.pairs c.self.invariant.1.stand ∙ ap (λ (r : Records). map number_pair r.numbers) c.self.view_is
