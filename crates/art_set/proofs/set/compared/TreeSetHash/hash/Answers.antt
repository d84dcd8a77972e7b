use Rattle.std.proofs.Common.{ap, ◌∙◌}
use Rattle.std.specs.Hash as fed
use Rattle.art_set.proofs.KeyCompares.{hashed-keys}
use Rattle.art_set.proofs.set.compared.TreeSetHash.hash.Goals as goal

pub returns : goal.returns
returns g c = fed.fed_along _ _ _ (hashed-keys g.K.Hash.hash_input c.self.inside.map.pairs ∙ ap (λ s. fed.slice g.K.Hash.hash_input s.keys) c.self.view_is) c.hash.ensures
