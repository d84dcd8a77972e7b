use Rattle.std.proofs.Common.{◌<◌, length, ap₂, arith}
use Rattle.std.specs.List.{zip}
use Rattle.art_nodes.proofs.Terms.{bytes_within}
use Rattle.art_nodes.proofs.PlaceLemmas.{next-within}
use Rattle.art_nodes.proofs.child_iter.IndirectChildren.next.Goals as goal

pub returns : goal.returns
returns c =
    let i = c.self.inside in
    let some : 0 < length (bytes_within i.from i.to i.mask.now) = omega (arith, c.self.invariant.same_length, c.in_ok-name.ensures.cases.1) in
    rw (← c.self.view_is, c.from.ensures) (ap₂ (λ ks ns. zip ks ns) (next-within i.mask.now i.from i.to c.in_ok-byte.byte c.in_ok-byte.ensures some) c.in_ok-name.ensures.cases.0)
