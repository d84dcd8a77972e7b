use Rattle.std.proofs.Common.{ap, ◌∙◌}
use Rattle.art_map.proofs.Maps.{same-map, same-pairs}
use Rattle.art_map.proofs.EmptyRooms.{no-room}
use Rattle.art_map.specs.Contents.{Contents}
use Rattle.art_map.proofs.map.TreeMap.shrink_to_fit.Goals as goal

pub invariant_of-self : goal.invariant_of-self
invariant_of-self g c = same-map g.K.AsBytes.bytes g.K.AsBytes.is_key g.row.PREFIX_LEN c.self.inside.arena c.self.inside.root c.self.invariant c.shrink_to_fit.new.self c.shrink_to_fit.ensures.kept

pub returns-clause-pairs : goal.returns-clause-pairs
returns-clause-pairs g c =
    rw (← c.self.view_is) (same-pairs g.K.AsBytes.bytes g.K.AsBytes.is_key g.row.PREFIX_LEN c.self.inside.arena c.self.inside.root c.self.invariant c.shrink_to_fit.new.self c.shrink_to_fit.ensures.kept)

pub returns-clause-empty : goal.returns-clause-empty
returns-clause-empty g c = λ none.
    no-room g.K.AsBytes.bytes g.row.PREFIX_LEN c.self.inside.arena c.shrink_to_fit.new.self c.self.inside.root c.self.invariant.has c.shrink_to_fit.ensures.kept c.shrink_to_fit.ensures.frees (ap (λ (m : Contents g.row.K.Denot g.row.V.Denot). m.pairs) c.self.view_is ∙ none)
