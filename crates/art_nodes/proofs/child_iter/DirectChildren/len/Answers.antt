use Rattle.std.proofs.Common.{◌-◌, ap₂}
use Rattle.art_nodes.proofs.DirectLemmas.{left-length}
use Rattle.art_nodes.proofs.child_iter.DirectChildren.len.Goals as goal

pub returns : goal.returns
returns c =
    let i = c.self.inside in
    rw (← c.self.view_is, left-length i.from i.to i.mask.now i.slots.now c.self.invariant) (ap₂ (λ a b. a - b) c.place.ensures c.place-2.ensures)
