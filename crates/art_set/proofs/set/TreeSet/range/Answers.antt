use Rattle.std.proofs.Common.{ap, ◌∙◌, arith}
use Rattle.std.specs.Map.{keys_of}
use Rattle.art_set.proofs.KeyViews.{ascending, between, no-pair-or}
use Rattle.art_set.proofs.set.TreeSet.range.Goals as goal

pub range-requires : goal.range-requires
range-requires g c = (omega arith, (omega arith, (omega arith, no-pair-or c.self.inside.map.pairs (rw (← c.self.view_is) at c.requires))))

pub returns-clause-rest : goal.returns-clause-rest
returns-clause-rest g c = rw (← c.self.view_is) (c.new.ensures ∙ ap keys_of c.range.ensures.rest ∙ between g.K.AsBytes.bytes _ _ c.self.inside.map.pairs)

pub returns-clause-ordered : goal.returns-clause-ordered
returns-clause-ordered g c = rw (← c.self.view_is) (ascending g.K.AsBytes.bytes c.self.inside.map.pairs c.range.ensures.ordered)
