use Rattle.std.proofs.Common.{◌≡◌, ◌<◌, ◌+◌, ◌∷◌, [], ◌++◌, List, ℕ, length, length-append, ap, ap₂, ◌∙◌, arith}
use Rattle.std.specs.List.{zip}
use Rattle.art_nodes.proofs.Terms.{bytes_within}
use Rattle.art_nodes.proofs.ChildLemmas.{zip-snoc}
use Rattle.art_nodes.proofs.PlaceLemmas.{last-within}
use Rattle.art_nodes.proofs.child_iter.IndirectChildren.next_back.Goals as goal

pub returns : goal.returns
returns c =
    let i = c.self.inside in
    let byte = c.in_ok-byte.byte in
    let some : 0 < length (bytes_within i.from i.to i.mask.now) = omega (arith, c.self.invariant.same_length, c.in_ok-name.ensures.cases.1) in
    let left : bytes_within i.from i.to i.mask.now ≡ bytes_within i.from byte i.mask.now ++ byte ∷ [] = last-within i.mask.now i.from i.to byte c.in_ok-byte.ensures some in
    let long : length (bytes_within i.from i.to i.mask.now) ≡ length (bytes_within i.from byte i.mask.now) + 1 = ap (λ (ks : List ℕ). length ks) left ∙ length-append (bytes_within i.from byte i.mask.now) (byte ∷ []) in
    rw (← c.self.view_is, c.from-self-inside.ensures) (ap₂ (λ ks ns. zip ks ns) left c.in_ok-name.ensures.cases.0 ∙ zip-snoc (bytes_within i.from byte i.mask.now) c.in_ok-name.names.now byte c.in_ok-name.name.now (omega (arith, long, c.in_ok-name.ensures.cases.1, c.self.invariant.same_length)))
