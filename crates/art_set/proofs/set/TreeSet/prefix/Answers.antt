use Rattle.std.proofs.Common.{ap, ◌∙◌}
use Rattle.std.specs.Map.{keys_of}
use Rattle.art_set.proofs.KeyPairs.{keys-after}
use Rattle.art_set.proofs.KeyViews.{ascending}
use Rattle.art_set.proofs.set.TreeSet.prefix.Goals as goal

pub returns-clause-rest : goal.returns-clause-rest
returns-clause-rest g c =
    rw (← c.self.view_is)
    (c.new.ensures ∙ ap keys_of c.prefix.ensures.rest ∙ keys-after g.K.AsBytes.bytes (g.Q.AsBytes.bytes c.args.prefix.now) c.self.inside.map.pairs)

pub returns-clause-ordered : goal.returns-clause-ordered
returns-clause-ordered g c = rw (← c.self.view_is) (ascending g.K.AsBytes.bytes c.self.inside.map.pairs c.prefix.ensures.ordered)
