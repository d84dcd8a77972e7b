use Rattle.std.proofs.lemmas.List.Sorted.{IsPermutation-refl}
use Rattle.art_nodes.proofs.ChildLemmas.{names_of-zip}
use Rattle.art_nodes.proofs.indirect.InnerNodeIndirect.initialized_child_pointers.Goals as goal

pub returns : goal.returns
returns g c =
    let i = c.self.inside in
    rw (← c.self.view_is, c.as_slice.ensures.value, names_of-zip i.mask i.names.items c.self.invariant.same_length) (IsPermutation-refl i.names.items)
