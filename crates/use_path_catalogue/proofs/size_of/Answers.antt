use Rattle.std.proofs.Common.{◌∙◌}
use Rattle.art_map.proofs.Common.{ended-found}
use Rattle.use_path_catalogue.proofs.size_of.Goals as goal

pub returns : goal.returns
returns c = c.copied.ensures ∙ c.get.ensures ∙ ended-found c.args.path.now c.args.catalogue.now.pairs
