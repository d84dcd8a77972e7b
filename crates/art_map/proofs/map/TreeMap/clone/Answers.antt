use Rattle.std.proofs.Common.{refl}
use Rattle.art_map.proofs.Clones.{are-clones, cloned-map, same-clones}
use Rattle.art_map.proofs.map.TreeMap.clone.Goals as goal

pub invariant_of-result : goal.invariant_of-result
invariant_of-result g c =
    cloned-map g.K.Clone.is_clone g.V.Clone.is_clone g.K.AsBytes.bytes g.met.K.CloneBytes.same_bytes g.row.PREFIX_LEN c.self.inside.arena c.in_ok-try_clone.field-0 c.in_ok-try_clone.ensures.clones g.K.AsBytes.is_key c.requires c.self.inside.root c.self.invariant

pub returns-clause-clones : goal.returns-clause-clones
returns-clause-clones g c =
    rw (← c.self.view_is)
    (are-clones g.K.Clone.is_clone g.V.Clone.is_clone g.K.AsBytes.bytes g.met.K.CloneBytes.same_bytes g.row.PREFIX_LEN c.self.inside.arena c.in_ok-try_clone.field-0 c.in_ok-try_clone.ensures.clones g.K.AsBytes.is_key c.requires c.self.inside.root c.self.invariant)

pub returns-clause-pairs : goal.returns-clause-pairs
returns-clause-pairs g c = λ keys values.
    rw (← c.self.view_is)
    (same-clones g.K.Clone.is_clone g.V.Clone.is_clone keys values _ _
    (are-clones g.K.Clone.is_clone g.V.Clone.is_clone g.K.AsBytes.bytes g.met.K.CloneBytes.same_bytes g.row.PREFIX_LEN c.self.inside.arena c.in_ok-try_clone.field-0 c.in_ok-try_clone.ensures.clones g.K.AsBytes.is_key c.requires c.self.inside.root c.self.invariant))

pub returns-clause-shape : goal.returns-clause-shape
returns-clause-shape g c = rw (← c.self.view_is) (c.in_ok-try_clone.ensures.clones, refl)

pub returns-clause-exact : goal.returns-clause-exact
returns-clause-exact g c = rw (← c.self.view_is) c.in_ok-try_clone.ensures.exact
